-- What holds at the loops of `tally::flying_from`.
use Rattle.std.proofs.Common.{◌≡◌}
use Rattle.nr_chunk.specs.Chain.{rules_of}
use Rattle.nr_overlap.specs.Moment.{flight_at}
use Rattle.nr_places.specs.Totals.{list_tally, tally_below}
use Rattle.nr_chunk.specs.Runs.{chain_in}
use Rattle.nr_schedule.proofs.tally.flying_from.Given as goal

abbrev pub invariant-loop-dest : goal.invariant-loop-dest
invariant-loop-dest g l = l.sum ≡ tally_below l.dest (λ d. list_tally l.core.phases.config (flight_at (rules_of (chain_in l.core.phases)) l.core.positions l.shard.0 l.height.0 d))
