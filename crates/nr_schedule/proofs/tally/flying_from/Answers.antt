-- The goals of `tally::flying_from` that no tactic closes.
use Rattle.nr_chunk.specs.Chain.{rules_of}
use Rattle.nr_overlap.specs.Moment.{flight_at}
use Rattle.nr_places.specs.Totals.{list_tally}
use Rattle.nr_chunk.specs.Runs.{chain_in}
use Rattle.nr_schedule.proofs.Steps.{tally_next}
use Rattle.nr_schedule.proofs.tally.flying_from.Goals as goal

pub loop-dest-preserved : goal.loop-dest-preserved
loop-dest-preserved g c =
    tally_next c.loop-dest.dest (λ d. list_tally c.args.core.now.phases.config (flight_at (rules_of (chain_in c.args.core.now.phases)) c.args.core.now.positions c.args.shard.0 c.args.height.0 d))
    c.loop-dest.sum c.flying.result c.in_ok-sum.sum c.loop-dest.invariant c.flying.ensures c.in_ok-sum.ensures.1
