-- Sums over numbers, and measures of lists: their lengths, and sums of what receipts have.
use Rattle.std.proofs.Common.{◌≡◌, ℕ, zero, suc, ◌+◌, List, [], ◌++◌, Option, Some, None, length, refl, sym, ap, ◌∙◌, arith, add-one}
use Rattle.std.specs.Prelude.{sum_by, unwrap_or}
use Rattle.std.proofs.lemmas.List.{length-append}
use Rattle.std.proofs.lemmas.List.Sums.{sum_by-append}
use Rattle.nr_chunk.specs.Chain.{Chain, rules_of}
use Rattle.nr_chunk.specs.Views.{Kept, Working}
use Rattle.nr_overlap.specs.Balance.{sum_below, if_some}
use Rattle.nr_overlap.specs.Moment.{world_at, working_at, report_at, flight_at}
use Rattle.nr_overlap.specs.Positions.{at}
use Rattle.nr_overlap.specs.Rules.{Rules}
use Rattle.nr_overlap.specs.declared.position.Position.{Position}
use Rattle.nr_overlap.proofs.Sums.{sum_same, sum_front}
use Rattle.nr_places.specs.Moments.{carried_in, each_below, where_some, done_by, flying_by, flying}
use Rattle.nr_records.specs.declared.chunk_result.ChunkResult.{ChunkResult}
use Rattle.nr_records.specs.declared.receipt.Receipt.{Receipt}

-- ---- sums over the numbers below another
paired : (a b c d : ℕ) → (a + b) + (c + d) ≡ (a + c) + (b + d)
paired a b c d = omega arith

pub without_none : (a b : ℕ) → b ≡ 0 → a + b ≡ a
without_none a b e = omega (arith, e)

none_before : (a b : ℕ) → a ≡ 0 → a + b ≡ b
none_before a b e = omega (arith, e)

pub sum_add : (n : ℕ) (f g : ℕ → ℕ) → sum_below n (λ i. f i + g i) ≡ sum_below n f + sum_below n g
sum_add zero f g = refl
sum_add (suc n) f g = ap (λ t. t + (f n + g n)) (sum_add n f g) ∙ paired (sum_below n f) (sum_below n g) (f n) (g n)

-- of what is nothing at 0
pub sum_from_one : (n : ℕ) (f : ℕ → ℕ) → f 0 ≡ 0 → sum_below (n + 1) f ≡ sum_below n (λ i. f (i + 1))
sum_from_one n f e =
    ap (λ k. sum_below k f) (add-one n)
    ∙ sum_front n f
    ∙ none_before (f 0) (sum_below n (λ i. f (suc i))) e
    ∙ sum_same n (λ i. f (i + 1)) (λ i. f (suc i)) (λ i l. ap f (sym (add-one i)))

-- ---- measures
pub record IsMeasure (m : List Receipt → ℕ) : Type 0 where
  pub none : m [] ≡ 0
  pub both : (xs ys : List Receipt) → m (xs ++ ys) ≡ m xs + m ys

pub lengths : IsMeasure (λ list. length list)
lengths = record { none = refl; both = λ xs ys. length-append xs ys }

pub sums : (f : Receipt → ℕ) → IsMeasure (sum_by f)
sums f = record { none = refl; both = λ xs ys. sum_by-append f xs ys }

module _ (m : List Receipt → ℕ) (is : IsMeasure m) where
  pub measure_each : (n : ℕ) (f : ℕ → List Receipt) → m (each_below n f) ≡ sum_below n (λ i. m (f i))
  unfolding each_below
  measure_each zero f = is.none
  measure_each (suc n) f = is.both (each_below n f) (f n) ∙ ap (λ t. t + m (f n)) (measure_each n f)

  module _ (x : Chain) (ps : List Position) where
    abbrev r : Rules Kept Working (List Receipt) ChunkResult
    r = rules_of x

    -- what a shard did in its chunk at work, and in one that it sealed
    abbrev pub begun_by : (ℕ → ℕ → ℕ → List Receipt) → ℕ → ℕ
    begun_by so_far s = m (where_some (so_far s (at ps s).number (at ps s).taken) (working_at r s (at ps s)))

    abbrev pub ended_by : (ℕ → ℕ → List Receipt) → ℕ → ℕ → ℕ
    ended_by whole s h = m (where_some (whole s h) (report_at r ps s (h + 1)))

    pub measure_done : (so_far : ℕ → ℕ → ℕ → List Receipt) (whole : ℕ → ℕ → List Receipt)
        → m (each_below r.shards (done_by x ps so_far whole)) ≡ sum_below r.shards (λ s. begun_by so_far s + sum_below r.heights (ended_by whole s))
    measure_done so_far whole =
        measure_each r.shards (done_by x ps so_far whole)
        ∙ sum_same r.shards (λ s. begun_by so_far s + sum_below r.heights (ended_by whole s)) (λ s. m (done_by x ps so_far whole s)) (λ s l.
        is.both (where_some (so_far s (at ps s).number (at ps s).taken) (working_at r s (at ps s))) (each_below r.heights (λ h. where_some (whole s h) (report_at r ps s (h + 1))))
        ∙ ap (λ t. begun_by so_far s + t) (measure_each r.heights (λ h. where_some (whole s h) (report_at r ps s (h + 1)))))

    abbrev pub carried_by : ℕ → ℕ
    carried_by s = m (carried_in (world_at r s (at ps s)))

    pub measure_flying : m (flying x ps) ≡ sum_below r.shards (λ s. carried_by s + sum_below r.heights (λ h. sum_below r.shards (λ d. if_some m (flight_at r ps s (h + 1) d))))
    measure_flying =
        measure_each r.shards (flying_by x ps)
        ∙ sum_same r.shards (λ s. carried_by s + sum_below r.heights (λ h. sum_below r.shards (λ d. if_some m (flight_at r ps s (h + 1) d)))) (λ s. m (flying_by x ps s)) (λ s l.
        is.both (carried_in (world_at r s (at ps s))) (each_below r.heights (λ h. each_below r.shards (λ d. unwrap_or (flight_at r ps s (h + 1) d) [])))
        ∙ ap (λ t. carried_by s + t) (measure_each r.heights (λ h. each_below r.shards (λ d. unwrap_or (flight_at r ps s (h + 1) d) []))
        ∙ sum_same r.heights (λ h. sum_below r.shards (λ d. if_some m (flight_at r ps s (h + 1) d))) (λ h. m (each_below r.shards (λ d. unwrap_or (flight_at r ps s (h + 1) d) []))) (λ h j.
        measure_each r.shards (λ d. unwrap_or (flight_at r ps s (h + 1) d) [])
        ∙ sum_same r.shards (λ d. if_some m (flight_at r ps s (h + 1) d)) (λ d. m (unwrap_or (flight_at r ps s (h + 1) d) [])) (λ d k. flown (flight_at r ps s (h + 1) d)))))
      where
        flown : (o : Option (List Receipt)) → m (unwrap_or o []) ≡ if_some m o
        flown None = is.none
        flown (Some list) = refl
