-- The parts of a list, one receipt after the other.
use Rattle.std.proofs.Common.{◌≡◌, ℕ, ◌+◌, ◌<◌, ◌≤◌, Bool, true, cond, eqb, List, [], ◌∷◌, ◌++◌, length, set, get_or, inl, inr, refl, sym, ap, ◌∙◌, arith}
use Rattle.std.proofs.lemmas.Bool.Decides.{eqb_tells}
use Rattle.std.proofs.lemmas.List.{append-nil, ext_get_or, length-set, get_or-set_same, get_or-set_other}
use Rattle.std.proofs.lemmas.List.Elements.{filter-append}
use Rattle.std.proofs.lemmas.List.FromFn.{length-map-range_with_len, get_or-map-range_with_len, map-range_with_len_more}
use Rattle.nr_records.specs.declared.receipt.Receipt.{Receipt}
use Rattle.nr_layout.specs.Layout.{shard_of, out_to, parts}
use Rattle.nr_layout.proofs.Counting.{at_most}

-- the parts of an empty list
pub one_more_empty : (n : ℕ) → parts [] (n + 1) [] ≡ parts [] n [] ++ [] ∷ []
one_more_empty n =
    let e : 0 + n ≡ n = omega arith in
    map-range_with_len_more (λ shard. out_to [] shard []) 0 n n e

-- what a shard gets of one receipt
one : List (List ℕ) → Receipt → ℕ → List Receipt
one bs r d = cond (eqb (shard_of bs r.receiver) d) (r ∷ []) []

grows : (bs : List (List ℕ)) (list : List Receipt) (r : Receipt) (d : ℕ) → out_to bs d (list ++ r ∷ []) ≡ out_to bs d list ++ one bs r d
unfolding one
grows bs list r d = filter-append (λ r. eqb (shard_of bs r.receiver) d) list (r ∷ [])

part_at : (bs : List (List ℕ)) (n : ℕ) (list : List Receipt) (i : ℕ) → i < n → get_or (parts bs n list) i [] ≡ out_to bs i list
part_at bs n list i lt =
    let e : 0 + i ≡ i = omega arith in
    get_or-map-range_with_len (λ d. out_to bs d list) 0 n i i [] lt e

pub length_parts : (bs : List (List ℕ)) (n : ℕ) (list : List Receipt) → length (parts bs n list) ≡ n
length_parts bs n list = length-map-range_with_len (λ d. out_to bs d list) 0 n

-- a receipt goes to the end of its shard's part, and the other parts stay
parts_grow : (bs : List (List ℕ)) (n : ℕ) (list : List Receipt) (r : Receipt) (k : ℕ) → k ≡ shard_of bs r.receiver → k < n
    → set (parts bs n list) k (get_or (parts bs n list) k [] ++ r ∷ []) ≡ parts bs n (list ++ r ∷ [])
unfolding one
parts_grow bs n list r k is lt =
    let long : k < length (parts bs n list) = omega (arith, length_parts bs n list) in
    ext_get_or [] _ _ (length-set _ _ _ ∙ length_parts bs n list ∙ sym (length_parts bs n (list ++ r ∷ [])))
    (λ i within.
    let small : i < n = omega (arith, within, length-set (parts bs n list) k (get_or (parts bs n list) k [] ++ r ∷ []), length_parts bs n list) in
    elim (eqb_tells (shard_of bs r.receiver) i) [
      | inl same ↦
          let at : i ≡ k = sym same.1 ∙ sym is in
          rw (at, get_or-set_same (parts bs n list) k (get_or (parts bs n list) k [] ++ r ∷ []) [] long, part_at bs n list k lt, part_at bs n (list ++ r ∷ []) k lt, grows bs list r k, ← at, same.0) refl
      | inr other ↦
          rw (get_or-set_other (parts bs n list) k i (get_or (parts bs n list) k [] ++ r ∷ []) [] (λ e. other.1 (sym is ∙ sym e)), part_at bs n list i small, part_at bs n (list ++ r ∷ []) i small, grows bs list r i, other.0, append-nil (out_to bs i list)) refl
    ])

-- the shard of a receipt is one of the parts
pub within : (bs : List (List ℕ)) (list : List Receipt) (lists : List (List Receipt)) (k : ℕ) → lists ≡ parts bs (length bs + 1) list → k ≤ length bs → k < length lists
within bs list lists k e le = rw e (omega (arith, length_parts bs (length bs + 1) list))

-- the lists behind one receipt more
pub parts_next : (bs : List (List ℕ)) (list : List Receipt) (lists others : List (List Receipt)) (r : Receipt) (k : ℕ) → others ≡ set lists k (get_or lists k [] ++ r ∷ []) → lists ≡ parts bs (length bs + 1) list → k ≡ shard_of bs r.receiver → k ≤ length bs
    → others ≡ parts bs (length bs + 1) (list ++ r ∷ [])
parts_next bs list lists others r k e is shard le =
    let lt : k < length bs + 1 = omega (arith, le) in
    let one : set lists k (get_or lists k [] ++ r ∷ []) ≡ set (parts bs (length bs + 1) list) k (get_or (parts bs (length bs + 1) list) k [] ++ r ∷ []) = ap (λ (xs : List (List Receipt)). set xs k (get_or xs k [] ++ r ∷ [])) is in
    e ∙ one ∙ parts_grow bs (length bs + 1) list r k shard lt

-- ---- where there is one shard, it gets all
everything : (bs : List (List ℕ)) (list : List Receipt) → length bs ≡ 0 → out_to bs 0 list ≡ list
everything bs [] e = refl
everything bs (r ∷ rs) e =
    let first : shard_of bs r.receiver ≡ 0 = omega (arith, at_most bs r.receiver, e) in
    let test : eqb (shard_of bs r.receiver) 0 ≡ true = ap (λ (n : ℕ). eqb n 0) first in
    ap (λ (b : Bool). cond b (r ∷ out_to bs 0 rs) (out_to bs 0 rs)) test ∙ ap (λ (l : List Receipt). r ∷ l) (everything bs rs e)

pub one_shard : (bs : List (List ℕ)) (list : List Receipt) → length bs ≡ 0 → list ∷ [] ≡ parts bs (length bs + 1) list
one_shard bs list e =
    let one : parts bs (length bs + 1) list ≡ out_to bs 0 list ∷ [] = ap (λ (n : ℕ). parts bs (n + 1) list) e in
    sym (one ∙ ap (λ (l : List Receipt). l ∷ []) (everything bs list e))
