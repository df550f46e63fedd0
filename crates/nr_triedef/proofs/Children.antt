-- The children of a branch, one by one.
use Rattle.std.proofs.Common.{◌≡◌, ◌<◌, ℕ, suc, List, [], ◌∷◌, length, map, get_or, Option, None, refl, arith}
use Rattle.nr_ids.specs.declared.key.Hash32.{Hash32}
use Rattle.nr_triedef.specs.declared.hash.Summary.{Summary}
use Rattle.nr_triedef.specs.Root.{hash_below}

pub hashes_all : (children : List (Option Hash32)) (below : List (Option Summary)) → length children ≡ length below → ((k : ℕ) → k < length below → get_or children k None ≡ hash_below (get_or below k None)) → children ≡ map hash_below below
hashes_all [] [] len h = refl
hashes_all [] (s ∷ below) len h = absurd (omega arith)
hashes_all (c ∷ children) [] len h = absurd (omega arith)
hashes_all (c ∷ children) (s ∷ below) len h =
    let first : c ≡ hash_below s = h 0 (omega arith) in
    let others : children ≡ map hash_below below = hashes_all children below (omega arith) (λ k lt. h (suc k) (omega arith)) in
    cc
