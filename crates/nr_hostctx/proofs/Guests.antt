-- A write leaves the size of the guest's memory.
use Rattle.std.proofs.Common.{◌≡◌, ℕ, ◌+◌, ◌≤◌, ◌++◌, List, length, take, drop, Some, subst, arith}
use Rattle.std.specs.Prelude.{nat_le}
use Rattle.std.proofs.lemmas.Option.{cond_some}
use Rattle.std.proofs.lemmas.Bool.{leb-true}
use Rattle.std.proofs.lemmas.List.{length-take, length-drop, length-append}
use Rattle.nr_wasmmem.specs.Bytes.{put_over}

as_long : (bytes : List ℕ) (at : ℕ) (part : List ℕ) → at + length part ≤ length bytes
    → length (take at bytes ++ part ++ drop (at + length part) bytes) ≡ length bytes
as_long bytes at part h = simp (length-append, length-take, length-drop) (omega (arith, h))

pub put_size : (bytes : List ℕ) (at : ℕ) (part new : List ℕ) → put_over bytes at part ≡ Some new
    → length new ≡ length bytes
unfolding put_over
put_size bytes at part new e =
    let p =
    cond_some (nat_le (at + length part) (length bytes))
    (take at bytes ++ part ++ drop (at + length part) bytes) new e in
    subst (λ (x : List ℕ). length x ≡ length bytes) p.1 (as_long bytes at part (leb-true _ _ p.0))
