-- Sums of tallies over lists, by what adds up along them.
use Rattle.std.proofs.Common.{◌≡◌, ℕ, zero, suc, ◌+◌, List, [], ◌∷◌, refl, sym, ap, ◌∙◌, arith, add_assoc}
use Rattle.std.specs.Prelude.{slice_index, sum_by}
use Rattle.std.proofs.lemmas.List.Sums.{sum_by-cons}
use Rattle.nr_chunk.specs.Tallies.{five}
use Rattle.nr_chunk.specs.declared.tally.Tally.{Tally}
use Rattle.nr_overlap.specs.Balance.{sum_below}
use Rattle.nr_places.proofs.Adding.{IsAdditive}
use Rattle.nr_places.specs.Totals.{nothing, plus, tally_below}
use Rattle.nr_outcome.specs.Sums.{sum_of, sum_on}

alone : (a : ℕ) → a ≡ a + 0
alone a = omega arith

behind_none : (a b : ℕ) → a ≡ 0 → a + b ≡ b
behind_none a b e = omega (arith, e)

module _ (g : Tally → ℕ) (is : IsAdditive g) where
  sum_on_is : {A : Type 0} (f : A → Tally) (xs : List A) (t : Tally) → g (sum_on f t xs) ≡ g t + sum_by (λ x. g (f x)) xs
  sum_on_is f [] t = alone (g t)
  sum_on_is f (x ∷ xs) t =
      sum_on_is f xs (plus t (f x)) ∙ ap (λ a. a + sum_by (λ x. g (f x)) xs) (is.both t (f x)) ∙ add_assoc (g t) (g (f x)) (sum_by (λ x. g (f x)) xs)
      ∙ ap (λ a. g t + a) (sym (sum_by-cons (λ x. g (f x)) x xs))

  pub sum_of_is : {A : Type 0} (f : A → Tally) (xs : List A) → g (sum_of f xs) ≡ sum_by (λ x. g (f x)) xs
  sum_of_is f xs = sum_on_is f xs nothing ∙ behind_none (g nothing) (sum_by (λ x. g (f x)) xs) is.none

  pub additive_below : (n : ℕ) (f : ℕ → Tally) → g (tally_below n f) ≡ sum_below n (λ i. g (f i))
  unfolding tally_below
  additive_below zero f = is.none
  additive_below (suc n) f = is.both (tally_below n f) (f n) ∙ ap (λ t. t + g (f n)) (additive_below n f)

-- ---- tallies are alike where all that adds up along them is
abbrev count : ℕ → Tally → ℕ
count i t = slice_index t.places i

five_of : (n : ℕ) (f : ℕ → Tally) → let t = tally_below n f in t.places ≡ five (count 0 t) (count 1 t) (count 2 t) (count 3 t) (count 4 t)
unfolding tally_below
five_of zero f = refl
five_of (suc n) f = refl

pub alike : (a b : Tally) (n : ℕ) (f : ℕ → Tally) → ((g : Tally → ℕ) → IsAdditive g → g (plus a b) ≡ g (tally_below n f)) → plus a b ≡ tally_below n f
alike a b n f same =
    let t : Tally = tally_below n f in
    let accounts : (plus a b).accounts ≡ t.accounts = same (λ t. t.accounts) (record { none = refl; both = λ a b. refl }) in
    let receipts : (plus a b).receipts ≡ t.receipts = same (λ t. t.receipts) (record { none = refl; both = λ a b. refl }) in
    let burnt : (plus a b).burnt ≡ t.burnt = same (λ t. t.burnt) (record { none = refl; both = λ a b. refl }) in
    let c0 : count 0 (plus a b) ≡ count 0 t = same (count 0) (record { none = refl; both = λ a b. refl }) in
    let c1 : count 1 (plus a b) ≡ count 1 t = same (count 1) (record { none = refl; both = λ a b. refl }) in
    let c2 : count 2 (plus a b) ≡ count 2 t = same (count 2) (record { none = refl; both = λ a b. refl }) in
    let c3 : count 3 (plus a b) ≡ count 3 t = same (count 3) (record { none = refl; both = λ a b. refl }) in
    let c4 : count 4 (plus a b) ≡ count 4 t = same (count 4) (record { none = refl; both = λ a b. refl }) in
    let places : (plus a b).places ≡ t.places = (λ i. five (c0 i) (c1 i) (c2 i) (c3 i) (c4 i)) ∙ sym (five_of n f) in
    (λ i. record { accounts = accounts i; receipts = receipts i; burnt = burnt i; places = places i })
