-- One part more of a text or a sum, and a sum that doesn't fit.
use Rattle.std.proofs.Common.{◌≡◌, ℕ, zero, suc, ◌+◌, ◌-◌, ◌≤◌, ◌<◌, ◌^◌, max, List, [], ◌++◌, append_assoc, sym, ap, subst, ◌∙◌, arith, add-one}
use Rattle.std.proofs.lemmas.List.{append-nil}
use Rattle.std.specs.Prelude.{count_by, slice_index}
use Rattle.nr_chunk.specs.Tallies.{is_sent, tally_report}
use Rattle.nr_chunk.specs.declared.tally.Tally.{Tally}
use Rattle.nr_overlap.specs.Balance.{sum_below}
use Rattle.nr_places.specs.Totals.{plus, tally_below}
use Rattle.nr_records.specs.declared.chunk_result.ChunkResult.{ChunkResult}
use Rattle.nr_outcome.specs.Fitting.{Fits}
use Rattle.nr_outcome.specs.Texts.{text_below, text_between}

pub text_next : (n : ℕ) (f : ℕ → List ℕ) (old mid new : List ℕ) → mid ≡ old ++ text_below n f → new ≡ mid ++ f n → new ≡ old ++ text_below (n + 1) f
unfolding text_below
text_next n f old mid new e g =
    g ∙ ap (λ (t : List ℕ). t ++ f n) e ∙ append_assoc old (text_below n f) (f n) ∙ ap (λ k. old ++ text_below k f) (sym (add-one n))

-- ---- of the numbers from one on
pub none_between : (from to : ℕ) (f : ℕ → List ℕ) → to ≤ from → [] ≡ text_between from to f
unfolding text_below
none_between from to f l = ap (λ k. text_below k (λ i. f (from + i))) (sym none)
  where
    none : to - from ≡ 0
    none = omega (arith, l)

pub one_between : (from n : ℕ) (f : ℕ → List ℕ) (mid new : List ℕ) → from ≤ n → mid ≡ text_between from n f → new ≡ mid ++ f n → new ≡ text_between from (n + 1) f
unfolding text_below
one_between from n f mid new l e g = g ∙ (λ i. e i ++ f (there i)) ∙ ap (λ k. text_below k (λ i. f (from + i))) more
  where
    there : n ≡ from + (n - from)
    there = omega (arith, l)

    more : suc (n - from) ≡ (n + 1) - from
    more = omega (arith, l)

-- where a range is gone through
pub to_the_end : (from to n : ℕ) (f : ℕ → List ℕ) (text : List ℕ) → from ≤ n → n ≤ max from to → to ≤ n → text ≡ text_between from n f → text ≡ text_between from to f
to_the_end from to n f text a b c e = e ∙ ap (λ k. text_below k (λ i. f (from + i))) same
  where
    same : n - from ≡ to - from
    same = grind (arith, a, b, c)

-- two texts, one behind the other
joined_below : (m n : ℕ) (f : ℕ → List ℕ) → text_below m f ++ text_below n (λ i. f (m + i)) ≡ text_below (m + n) f
unfolding text_below
joined_below m zero f = append-nil (text_below m f) ∙ ap (λ k. text_below k f) none
  where
    none : m ≡ m + 0
    none = omega arith
joined_below m (suc n) f =
    sym (append_assoc (text_below m f) (text_below n (λ i. f (m + i))) (f (m + n)))
    ∙ ap (λ (t : List ℕ). t ++ f (m + n)) (joined_below m n f)
    ∙ ap (λ k. text_below k f) more
  where
    more : suc (m + n) ≡ m + suc n
    more = omega arith

pub joined_between : (from mid to : ℕ) (f : ℕ → List ℕ) → from ≤ mid → mid ≤ to → text_between from mid f ++ text_between mid to f ≡ text_between from to f
joined_between from mid to f a b =
    (λ i. text_below (mid - from) (λ k. f (from + k)) ++ text_below (to - mid) (λ k. f (place k i)))
    ∙ joined_below (mid - from) (to - mid) (λ k. f (from + k))
    ∙ ap (λ k. text_below k (λ k. f (from + k))) all
  where
    place : (k : ℕ) → mid + k ≡ from + ((mid - from) + k)
    place k = omega (arith, a)

    all : (mid - from) + (to - mid) ≡ to - from
    all = omega (arith, a, b)

-- ---- tallies and counts
pub tally_next : (n : ℕ) (f : ℕ → Tally) (mid more new : Tally) → mid ≡ tally_below n f → more ≡ f n → new ≡ plus mid more → new ≡ tally_below (n + 1) f
unfolding tally_below
tally_next n f mid more new e h g = g ∙ (λ i. plus (e i) (h i)) ∙ ap (λ k. tally_below k f) (sym (add-one n))

-- where a chunk routed more receipts than a number holds, no sum with it fits
pub no_room : (sum : Tally) (y : ChunkResult) → ¬ (y.local + count_by is_sent y.lines < 2 ^ 64) → ¬ Fits (plus sum (tally_report y))
no_room sum y none fits =
    let small : slice_index sum.places 0 + (y.local + count_by is_sent y.lines) < 2 ^ 64 = fits.places.routed in
    none (omega (arith, small))

pub sum_next : (n : ℕ) (f : ℕ → ℕ) (old more new : ℕ) → old ≡ sum_below n f → more ≡ f n → new ≡ old + more → new ≡ sum_below (n + 1) f
sum_next n f old more new e g h = h ∙ (λ i. e i + g i) ∙ sym (ap (λ k. sum_below k f) (add-one n))

-- a sum of more is no less
sum_grows : (n m : ℕ) (f : ℕ → ℕ) → sum_below n f ≤ sum_below (m + n) f
sum_grows n zero f = subst (λ k. sum_below n f ≤ sum_below k f) same (omega arith)
  where
    same : n ≡ 0 + n
    same = omega arith
sum_grows n (suc m) f = subst (λ k. sum_below n f ≤ sum_below k f) same (omega (arith, sum_grows n m f))
  where
    same : suc (m + n) ≡ suc m + n
    same = omega arith

pub sum_within : (n m : ℕ) (f : ℕ → ℕ) → n ≤ m → sum_below n f ≤ sum_below m f
sum_within n m f l = subst (λ k. sum_below n f ≤ sum_below k f) same (sum_grows n (m - n) f)
  where
    same : (m - n) + n ≡ m
    same = omega (arith, l)
