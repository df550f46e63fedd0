-- What stands where a chain is over, by its last worlds.
use Rattle.std.proofs.Common.{◌≡◌, ℕ, ◌+◌, ◌<◌, List, Option, Some, None, refl, sym, ◌∙◌}
use Rattle.std.specs.FinMap.{values}
use Rattle.std.specs.Prelude.{sum_by}
use Rattle.nr_chunk.specs.Chain.{Chain, rules_of}
use Rattle.nr_chunk.specs.Views.{Kept, Working}
use Rattle.nr_course_laws.proofs.Standing.{of_worlds, sum_mapped, waits}
use Rattle.nr_legs.specs.Legs.{last_worlds}
use Rattle.nr_overlap.proofs.Ended.{whole_run}
use Rattle.nr_overlap.specs.Moment.{flight_at, report_at, world_at}
use Rattle.nr_overlap.specs.Positions.{at}
use Rattle.nr_overlap.specs.Rules.{Rules}
use Rattle.nr_overlap.specs.Run.{ending}
use Rattle.nr_overlap.specs.Serial.{world_after}
use Rattle.nr_overlap.specs.declared.position.Position.{Position}
use Rattle.nr_places.specs.Moments.{delayed, postponed}
use Rattle.nr_places.specs.Totals.{list_tally, report_tally, tally_at}
use Rattle.nr_records.specs.declared.chunk_result.ChunkResult.{ChunkResult}
use Rattle.nr_records.specs.declared.receipt.Receipt.{Receipt}
use Rattle.nr_state.specs.Tokens.{delayed_sum, postponed_sum}
use Rattle.nr_state.specs.World.{accounts_tokens}

module _ (x : Chain) where
  abbrev r : Rules Kept Working (List Receipt) ChunkResult
  r = rules_of x

  abbrev e : List Position
  e = ending r

  abbrev last : ℕ → Kept
  last s = world_after r s r.heights

  stands : (s : ℕ) → s < r.shards → world_at r s (at e s) ≡ Some (last s)
  stands = (whole_run r e refl).world

  pub postponed_over : (f : Receipt → ℕ) → sum_by f (postponed x e) ≡ sum_by (postponed_sum f) (last_worlds x)
  postponed_over f =
      waits x e last stands (λ w. values w.postponed) f
      ∙ sym (sum_mapped (postponed_sum f) (λ s. (last s).world) r.shards)

  pub delayed_over : (f : Receipt → ℕ) → sum_by f (delayed x e) ≡ sum_by (delayed_sum f) (last_worlds x)
  delayed_over f =
      waits x e last stands (λ w. w.delayed) f ∙ sym (sum_mapped (delayed_sum f) (λ s. (last s).world) r.shards)

  pub accounts_over : (tally_at x e).accounts ≡ sum_by accounts_tokens (last_worlds x)
  accounts_over =
      of_worlds x e last stands (λ t. t.accounts) (record { none = refl; both = λ a b. refl })
      (λ s h. of_report (report_at r e s (h + 1))) (λ s h d. of_list (flight_at r e s (h + 1) d))
      ∙ sym (sum_mapped accounts_tokens (λ s. (last s).world) r.shards)
    where
      of_report : (o : Option ChunkResult) → (report_tally o).accounts ≡ 0
      of_report None = refl
      of_report (Some y) = refl

      of_list : (o : Option (List Receipt)) → (list_tally x.config o).accounts ≡ 0
      of_list None = refl
      of_list (Some list) = refl
