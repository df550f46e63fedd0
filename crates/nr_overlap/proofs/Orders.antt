-- Lists of numbers, one number more.
use Rattle.std.proofs.Common.{◌≡◌, ℕ, zero, suc, ◌+◌, List, [], ◌∷◌, ◌++◌, Some, refl, sym, ap, ◌∙◌, subst, arith, add-one, append_assoc}
use Rattle.std.specs.Prelude.{map, slice_get}
use Rattle.std.specs.List.{range_with_len, flat_map}
use Rattle.std.proofs.lemmas.List.{append-nil}
use Rattle.std.proofs.lemmas.List.FromFn.{map-range_with_len_more}
use Rattle.std.proofs.lemmas.Grind.{flat_map-append}

pub range_more : (a n : ℕ) → range_with_len a (n + 1) ≡ range_with_len a n ++ (a + n) ∷ []
range_more a zero = let z : a + 0 ≡ a = omega arith in rw z refl
range_more a (suc n) =
    let z : (a + 1) + n ≡ a + suc n = omega arith in
    rw (add-one (suc n))
    (ap (λ ys. a ∷ ys) (subst (λ (m : ℕ). range_with_len (a + 1) m ≡ range_with_len (a + 1) n ++ ((a + 1) + n) ∷ []) (add-one n) (range_more (a + 1) n) ∙ ap (λ (t : ℕ). range_with_len (a + 1) n ++ t ∷ []) z))

pub flat_map_more : {A : Type 0} (f : ℕ → List A) (a n : ℕ) → flat_map f (range_with_len a (n + 1)) ≡ flat_map f (range_with_len a n) ++ f (a + n)
flat_map_more f a n =
    ap (flat_map f) (range_more a n) ∙ flat_map-append f (range_with_len a n) ((a + n) ∷ []) ∙ ap (λ ys. flat_map f (range_with_len a n) ++ ys) (append-nil (f (a + n)))

pub flat_map_longer : {A : Type 0} (f : ℕ → List A) (a n k : ℕ) (xs ys zs : List A) → ys ≡ xs ++ flat_map f (range_with_len a n) → zs ≡ ys ++ f k → a + n ≡ k → zs ≡ xs ++ flat_map f (range_with_len a (n + 1))
flat_map_longer f a n k xs ys zs is more at =
    more ∙ ap (λ us. us ++ f k) is ∙ append_assoc xs (flat_map f (range_with_len a n)) (f k) ∙ ap (λ (m : ℕ). xs ++ (flat_map f (range_with_len a n) ++ f m)) (sym at) ∙ ap (λ us. xs ++ us) (sym (flat_map_more f a n))

pub map_longer : {A : Type 0} (f : ℕ → A) (xs ys : List A) (x : A) (n m : ℕ) → xs ≡ map f (range_with_len 0 n) → ys ≡ xs ++ x ∷ [] → x ≡ f n → m ≡ n + 1 → ys ≡ map f (range_with_len 0 m)
map_longer f xs ys x n m is more here long =
    more ∙ (λ i. is i ++ here i ∷ []) ∙ sym (map-range_with_len_more f 0 n n (omega arith)) ∙ ap (λ (k : ℕ). map f (range_with_len 0 k)) (sym long)

-- ---- a fact of each element by its number, from n on
abbrev pub HoldsFrom : {A : Type 0} → (ℕ → A → Type 0) → ℕ → List A → Type 0
HoldsFrom {A} P n xs = (k : ℕ) (x : A) → slice_get xs k ≡ Some x → P (n + k) x

pub next_holds : {A : Type 0} (P : ℕ → A → Type 0) (n : ℕ) (x : A) (xs ys : List A) → xs ≡ x ∷ ys → HoldsFrom P n xs → P n x × HoldsFrom P (n + 1) ys
next_holds P n x xs ys e h =
    let all : HoldsFrom P n (x ∷ ys) = subst (HoldsFrom P n) e h in (
      let z : n + 0 ≡ n = omega arith in subst (λ m. P m x) z (all 0 x refl),
      λ k y f. let z : n + suc k ≡ (n + 1) + k = omega arith in subst (λ m. P m y) z (all (suc k) y f),
    )
