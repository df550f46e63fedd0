-- What holds at the loops of `tally::all_sealed_by`.
use Rattle.std.proofs.Common.{◌≡◌, ◌+◌}
use Rattle.nr_places.specs.Totals.{sealed_by, tally_below}
use Rattle.nr_chunk.specs.Runs.{chain_in}
use Rattle.nr_schedule.proofs.tally.all_sealed_by.Given as goal

abbrev pub invariant-loop-below : goal.invariant-loop-below
invariant-loop-below g l = l.sum ≡ tally_below l.below (λ h. sealed_by (chain_in l.core.phases) l.core.positions l.shard.0 (h + 1))
