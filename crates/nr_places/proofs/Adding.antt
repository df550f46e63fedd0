-- Counts and sums of tallies, and what they are at a moment.
use Rattle.std.proofs.Common.{◌≡◌, ℕ, zero, suc, ◌+◌, ◌<◌, List, ap, ◌∙◌}
use Rattle.nr_chunk.specs.Chain.{Chain, rules_of}
use Rattle.nr_chunk.specs.Views.{Kept, Working}
use Rattle.nr_chunk.specs.declared.tally.Tally.{Tally}
use Rattle.nr_overlap.specs.Balance.{sum_below}
use Rattle.nr_overlap.specs.Moment.{report_at, flight_at}
use Rattle.nr_overlap.specs.Rules.{Rules}
use Rattle.nr_overlap.specs.declared.position.Position.{Position}
use Rattle.nr_overlap.proofs.Sums.{sum_same}
use Rattle.nr_places.specs.Totals.{nothing, plus, tally_below, report_tally, list_tally, held_by, flying_from, sealed_by, tally_of, tally_at}
use Rattle.nr_records.specs.declared.chunk_result.ChunkResult.{ChunkResult}
use Rattle.nr_records.specs.declared.receipt.Receipt.{Receipt}

pub record IsAdditive (g : Tally → ℕ) : Type 0 where
  pub none : g nothing ≡ 0
  pub both : (a b : Tally) → g (plus a b) ≡ g a + g b

module _ (g : Tally → ℕ) (is : IsAdditive g) where
  additive_below : (n : ℕ) (f : ℕ → Tally) → g (tally_below n f) ≡ sum_below n (λ i. g (f i))
  unfolding tally_below
  additive_below zero f = is.none
  additive_below (suc n) f = is.both (tally_below n f) (f n) ∙ ap (λ t. t + g (f n)) (additive_below n f)

  module _ (x : Chain) (ps : List Position) where
    abbrev r : Rules Kept Working (List Receipt) ChunkResult
    r = rules_of x

    -- of all that stands, where it is this much of each part
    pub additive_at : (held : ℕ → ℕ) (sealed : ℕ → ℕ → ℕ) (flies : ℕ → ℕ → ℕ → ℕ)
        → ((s : ℕ) → s < r.shards → g (held_by x ps s) ≡ held s)
        → ((s h : ℕ) → s < r.shards → h < r.heights → g (report_tally (report_at r ps s (h + 1))) ≡ sealed s h)
        → ((s h d : ℕ) → g (list_tally x.config (flight_at r ps s (h + 1) d)) ≡ flies s h d)
        → g (tally_at x ps) ≡ sum_below r.shards (λ s. held s + sum_below r.heights (λ h. sealed s h + sum_below r.shards (flies s h)))
    additive_at held sealed flies a b c =
        additive_below r.shards (tally_of x ps)
        ∙ sum_same r.shards (λ s. held s + sum_below r.heights (λ h. sealed s h + sum_below r.shards (flies s h))) (λ s. g (tally_of x ps s)) (λ s l.
        is.both (held_by x ps s) (tally_below r.heights (λ h. sealed_by x ps s (h + 1)))
        ∙ (λ i. a s l i + (additive_below r.heights (λ h. sealed_by x ps s (h + 1))
        ∙ sum_same r.heights (λ h. sealed s h + sum_below r.shards (flies s h)) (λ h. g (sealed_by x ps s (h + 1))) (λ h j.
        is.both (report_tally (report_at r ps s (h + 1))) (flying_from x ps s (h + 1))
        ∙ (λ i. b s h l j i + (additive_below r.shards (λ d. list_tally x.config (flight_at r ps s (h + 1) d))
        ∙ sum_same r.shards (flies s h) (λ d. g (list_tally x.config (flight_at r ps s (h + 1) d))) (λ d k. c s h d)) i))) i))
