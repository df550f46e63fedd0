-- The goals of `interleaved::Core::flight` that no tactic closes.
use Rattle.std.proofs.Common.{◌≡◌, ◌<◌, false, refl, subst}
use Rattle.std.specs.Option.{option_copied}
use Rattle.nr_overlap.specs.Moment.{flight_at}
use Rattle.nr_overlap.specs.CoreView.{CoreView}
use Rattle.nr_overlap.proofs.Showing.{flight_shown}
use Rattle.nr_overlap.proofs.interleaved.Core.flight.Goals as goal

pub returns : goal.returns
returns g c =
    let rules = g.P.Phases.rules in
    subst (λ (v : CoreView g.row.P.Denot). c.args.source.0 < (rules v.phases).shards → c.args.dest.0 < (rules v.phases).shards → v.lost ≡ false
    → option_copied c.slot_of.result ≡ flight_at (rules v.phases) v.positions c.args.source.0 c.args.height.0 c.args.dest.0) c.self.view_is
    (λ source dest whole. flight_shown (rules c.self.inside.phases) c.self.inside.shards c.args.source.0
    c.args.height.0 c.args.dest.0 c.index-row.result.now c.deref.result.now
    (option_copied c.slot_of.result) c.self.inside.shards.positions.items (c.self.invariant.2 whole) source dest
    c.index-row.ensures c.deref.ensures.value c.slot_of.ensures refl)
    c.requires.source c.requires.dest c.requires.whole
