-- Where the reading of entries stops, one by one.
use Rattle.std.proofs.Common.{◌≡◌, ℕ, suc, ◌-◌, ◌<◌, ◌≤◌, Bool, true, false, cond, Ok, Err, is_ok, refl, sym, ap, ◌∙◌, arith}
use Rattle.nr_blocks.specs.GenesisFiles.{entry_at}
use Rattle.nr_blocks.specs.declared.genesis_entry.GenesisEntry.{GenesisEntry}
use Rattle.nr_bytes.specs.Reading.{Input}
use Rattle.nr_records.specs.Reading.{Read}
use Rattle.nr_files.specs.Damage.{entry_rest, stop_of}

abbrev stepped : ℕ → Input → ℕ
stepped m s = cond (is_ok (entry_at s)) (stop_of m (entry_rest (entry_at s) s)) s.at

one_more : (m : ℕ) (s : Input) → stop_of (suc m) s ≡ stepped m s
unfolding stop_of
one_more m s = refl

none_left : (s : Input) → stop_of 0 s ≡ s.at
unfolding stop_of
none_left s = refl

from_more : (n : ℕ) (s : Input) (all : ℕ) → 0 < n → stop_of n s ≡ all → stepped (n - 1) s ≡ all
from_more n s all some so_far =
    let e : suc (n - 1) ≡ n = omega (arith, some) in
    sym (one_more (n - 1) s) ∙ ap (λ k. stop_of k s) e ∙ so_far

on_read : (m : ℕ) (s t : Input) (all : ℕ) → true ≡ is_ok (entry_at s) → t ≡ entry_rest (entry_at s) s → stepped m s ≡ all → stop_of m t ≡ all
on_read m s t all read rest so_far =
    ap (λ (i : Input). stop_of m i) rest ∙ ap (λ (b : Bool). cond b (stop_of m (entry_rest (entry_at s) s)) s.at) read ∙ so_far

rest_same : (r : Read GenesisEntry) (s : Input) → false ≡ is_ok r → entry_rest r s ≡ s
unfolding entry_rest
rest_same (Ok x) s e = absurd cc
rest_same (Err f) s e = refl

on_fault : (m : ℕ) (s t : Input) (all : ℕ) → false ≡ is_ok (entry_at s) → t ≡ entry_rest (entry_at s) s → stepped m s ≡ all → t.at ≡ all
on_fault m s t all failed rest so_far =
    ap (λ (i : Input). i.at) (rest ∙ rest_same (entry_at s) s failed)
    ∙ ap (λ (b : Bool). cond b (stop_of m (entry_rest (entry_at s) s)) s.at) failed ∙ so_far

-- one entry is read and one less is left, or none can be and none is left
pub stop_next : (n left : ℕ) (s t : Input) (more : Bool) (all : ℕ) → 0 < n → more ≡ is_ok (entry_at s) → t ≡ entry_rest (entry_at s) s → left ≡ cond more (n - 1) 0
    → stop_of n s ≡ all → stop_of left t ≡ all
stop_next n left s t true all some is rest fewer so_far = ap (λ k. stop_of k t) fewer ∙ on_read (n - 1) s t all is rest (from_more n s all some so_far)
stop_next n left s t false all some is rest fewer so_far =
    ap (λ k. stop_of k t) fewer ∙ none_left t ∙ on_fault (n - 1) s t all is rest (from_more n s all some so_far)

pub stop_end : (n : ℕ) (s : Input) (all at : ℕ) → n ≤ 0 → at ≡ s.at → stop_of n s ≡ all → at ≡ all
stop_end n s all at none is so_far =
    let e : 0 ≡ n = omega (arith, none) in
    is ∙ sym (none_left s) ∙ ap (λ k. stop_of k s) e ∙ so_far
