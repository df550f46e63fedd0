-- What holds at the loops of `tally::tally_at`.
use Rattle.std.proofs.Common.{◌≡◌}
use Rattle.nr_places.specs.Totals.{tally_of, tally_below}
use Rattle.nr_chunk.specs.Runs.{chain_in}
use Rattle.nr_schedule.proofs.tally.tally_at.Given as goal

abbrev pub invariant-loop-shard : goal.invariant-loop-shard
invariant-loop-shard g l = l.sum ≡ tally_below l.shard (tally_of (chain_in l.core.phases) l.core.positions)
