-- The nibbles of a key, one by one.
use Rattle.std.proofs.Common.{◌≡◌, ◌<◌, ◌≤◌, ◌+◌, ◌-◌, ◌*◌, ◌/◌, ◌%◌, ℕ, zero, suc, true, cond, List, [], ◌∷◌, ◌++◌, length, take, drop, get_or, Some, None, refl, ap, sym, ◌∙◌, length-drop, inl, inr, arith}
use Rattle.std.proofs.lemmas.List.{drop-drop, take_all}
use Rattle.std.proofs.lemmas.Bool.{cases_lt}
use Rattle.nr_triedef.specs.Node.{nibbles}
use Rattle.nr_triedef.specs.Root.{Paths, common, behind}
use Rattle.nr_store.specs.Tries.{first, first_path, meet}

pub length-nibbles : (key : List ℕ) → length (nibbles key) ≡ 2 * length key
length-nibbles [] = refl
length-nibbles (b ∷ key) = omega (arith, length-nibbles key)

high_of : (key : List ℕ) (j : ℕ) → j < length key → first (drop (j + j) (nibbles key)) ≡ Some (get_or key j 0 / 16)
high_of [] j lt = absurd (omega arith)
high_of (b ∷ key) zero lt = refl
high_of (b ∷ key) (suc j) lt = let is : suc j + suc j ≡ suc (suc (j + j)) = omega arith in rw is (high_of key j (omega arith))

low_of : (key : List ℕ) (j : ℕ) → j < length key → first (drop (suc (j + j)) (nibbles key)) ≡ Some (get_or key j 0 % 16)
low_of [] j lt = absurd (omega arith)
low_of (b ∷ key) zero lt = refl
low_of (b ∷ key) (suc j) lt = let is : suc (suc j + suc j) ≡ suc (suc (suc (j + j))) = omega arith in rw is (low_of key j (omega arith))

pub high_nibble : (key : List ℕ) (i : ℕ) → i / 2 < length key → i % 2 ≡ 0 → first (drop i (nibbles key)) ≡ Some (get_or key (i / 2) 0 / 16)
high_nibble key i lt even = let is : i ≡ i / 2 + i / 2 = omega arith in ap (λ n. first (drop n (nibbles key))) is ∙ high_of key (i / 2) lt

pub low_nibble : (key : List ℕ) (i : ℕ) → i / 2 < length key → (i % 2 ≡ 0 → ⊥) → first (drop i (nibbles key)) ≡ Some (get_or key (i / 2) 0 % 16)
low_nibble key i lt odd = let is : i ≡ suc (i / 2 + i / 2) = omega arith in ap (λ n. first (drop n (nibbles key))) is ∙ low_of key (i / 2) lt

past_end : (key : List ℕ) (i : ℕ) → length key ≤ i → first (drop i key) ≡ None
past_end [] zero le = refl
past_end [] (suc i) le = refl
past_end (x ∷ key) zero le = absurd (omega arith)
past_end (x ∷ key) (suc i) le = past_end key i (omega arith)

pub no_nibble : (key : List ℕ) (i : ℕ) → length key ≤ i / 2 → first (drop i (nibbles key)) ≡ None
no_nibble key i le = past_end (nibbles key) i (omega (arith, length-nibbles key))

-- ---- going on by one
take_suc : (l : List ℕ) (n x : ℕ) → Some x ≡ first (drop n l) → take (suc n) l ≡ take n l ++ x ∷ []
take_suc [] zero x e = absurd cc
take_suc [] (suc n) x e = absurd cc
take_suc (y ∷ l) zero x e = let is : x ≡ y = cc in λ j. sym is j ∷ []
take_suc (y ∷ l) (suc n) x e = ap (λ (r : List ℕ). y ∷ r) (take_suc l n x e)

take_past : (l : List ℕ) (n m : ℕ) → None ≡ first (drop n l) → n ≤ m → take m l ≡ take n l
take_past [] zero zero e le = refl
take_past [] zero (suc m) e le = refl
take_past [] (suc n) zero e le = refl
take_past [] (suc n) (suc m) e le = refl
take_past (y ∷ l) zero m e le = absurd cc
take_past (y ∷ l) (suc n) zero e le = absurd (omega arith)
take_past (y ∷ l) (suc n) (suc m) e le = ap (λ (r : List ℕ). y ∷ r) (take_past l n m e (omega arith))

there : (key : List ℕ) (from at : ℕ) → from ≤ at → drop (at - from) (drop from key) ≡ drop at key
there key from at le = let is : from + (at - from) ≡ at = omega arith in drop-drop (at - from) from key ∙ ap (λ n. drop n key) is

pub part_more : (key part new : List ℕ) (from at x : ℕ) → from ≤ at → part ≡ take (at - from) (drop from key) → Some x ≡ first (drop at key) → new ≡ part ++ x ∷ [] → new ≡ take (at + 1 - from) (drop from key)
part_more key part new from at x le before is e =
    let n : suc (at - from) ≡ at + 1 - from = omega arith in
    e ∙ ap (λ (l : List ℕ). l ++ x ∷ []) before ∙ sym (take_suc (drop from key) (at - from) x (is ∙ ap first (sym (there key from at le)))) ∙ ap (λ n. take n (drop from key)) n

pub part_all : (key part : List ℕ) (from at to : ℕ) → from ≤ at → (from ≤ to → at ≤ to) → to ≤ at → part ≡ take (at - from) (drop from key) → (to ≤ from → part ≡ []) → part ≡ take (to - from) (drop from key)
part_all key part from at to le end past before none = elim (cases_lt from to) [
  | inl lt ↦ let last : at ≤ to = end (omega arith) in let is : at - from ≡ to - from = omega arith in before ∙ ap (λ n. take n (drop from key)) is
  | inr ge ↦ let is : to - from ≡ 0 = omega arith in none ge ∙ sym (ap (λ n. take n (drop from key)) is)
]

pub part_ended : (key part : List ℕ) (from at to : ℕ) → from ≤ at → at ≤ to → part ≡ take (at - from) (drop from key) → None ≡ first (drop at key) → part ≡ take (to - from) (drop from key)
part_ended key part from at to le past before is =
    before ∙ sym (take_past (drop from key) (at - from) (to - from) (is ∙ ap first (sym (there key from at le))) (omega arith))

met : (a b : List ℕ) → meet a b ≡ true → length (common a b) ≡ suc (length (common (drop 1 a) (drop 1 b)))
met [] b e = absurd cc
met (x ∷ a) [] e = absurd cc
met (x ∷ a) (y ∷ b) e = ap (λ t. length (cond t (x ∷ common a b) [])) e

pub meets_more : (a b : List ℕ) (i : ℕ) → meet (drop i a) (drop i b) ≡ true → length (common (drop i a) (drop i b)) ≡ suc (length (common (drop (i + 1) a) (drop (i + 1) b)))
meets_more a b i e = met (drop i a) (drop i b) e ∙ (λ j. suc (length (common (drop-drop 1 i a j) (drop-drop 1 i b j))))

-- ---- what is left of the first key
pub first_whole : (o : ℕ) (es : Paths) (p : List ℕ × List ℕ) (ps : Paths) (key : List ℕ) → behind o es ≡ ps → 0 < length ps → p ≡ get_or es 0 p → nibbles key ≡ p.0 → take (2 * length key - o) (drop o p.0) ≡ (first_path ps).0
first_whole o [] p ps key view some is e = absurd (omega (arith, ap length view))
first_whole o (q ∷ es) p ps key view some is e =
    let len : length p.0 ≡ 2 * length key = ap length (sym e) ∙ length-nibbles key in
    take_all (2 * length key - o) (drop o p.0) (omega (arith, length-drop o p.0)) ∙ ap (λ (r : List ℕ × List ℕ). drop o r.0) is ∙ ap (λ (ps : Paths). (first_path ps).0) view
