-- The goals of `interleaved::Core::working` that no tactic closes.
use Rattle.std.proofs.Common.{◌≡◌, ◌<◌, false, refl, subst}
use Rattle.std.specs.Option.{option_copied}
use Rattle.nr_overlap.specs.Positions.{at}
use Rattle.nr_overlap.specs.Moment.{working_at}
use Rattle.nr_overlap.specs.CoreView.{CoreView}
use Rattle.nr_overlap.proofs.Showing.{working_shown}
use Rattle.nr_overlap.proofs.interleaved.Core.working.Goals as goal

pub returns : goal.returns
returns g c =
    let rules = g.P.Phases.rules in
    subst (λ (v : CoreView g.row.P.Denot). c.args.shard.0 < (rules v.phases).shards → v.lost ≡ false → option_copied c.working_of.result ≡ working_at (rules v.phases) c.args.shard.0 (at v.positions c.args.shard.0)) c.self.view_is
    (λ inside whole. working_shown (rules c.self.inside.phases) c.self.inside.shards c.args.shard.0 c.index.result.now (option_copied c.working_of.result) c.self.inside.shards.positions.items (c.self.invariant.2 whole) inside c.index.ensures c.working_of.ensures refl)
    c.requires.inside c.requires.whole
