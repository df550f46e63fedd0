-- The goals of `interleaved::Core::close` that no tactic closes.
use Rattle.std.proofs.Common.{◌≡◌, sym, subst}
use Rattle.nr_overlap.specs.CoreView.{CoreView}
use Rattle.nr_overlap.specs.Run.{ending}
use Rattle.nr_overlap.proofs.Last.{last_held, last_rows}
use Rattle.nr_overlap.proofs.interleaved.Core.close.Goals as goal

pub close_held-requires-clause-held : goal.close_held-requires-clause-held
close_held-requires-clause-held g c κs within =
    let rules = g.P.Phases.rules in
    let over : c.self.inside.shards.positions.items ≡ ending (rules c.self.inside.phases) =
    subst (λ (v : CoreView g.row.P.Denot). v.positions ≡ ending (rules v.phases)) (sym c.self.view_is) c.requires in
    last_held (rules c.self.inside.phases) c.self.inside.shards (c.self.invariant.2 c.if-lost.false) over

pub close_rows-requires-clause-rows : goal.close_rows-requires-clause-rows
close_rows-requires-clause-rows g c κs within =
    let rules = g.P.Phases.rules in
    let over : c.self.inside.shards.positions.items ≡ ending (rules c.self.inside.phases) =
    subst (λ (v : CoreView g.row.P.Denot). v.positions ≡ ending (rules v.phases)) (sym c.self.view_is) c.requires in
    last_rows (rules c.self.inside.phases) c.self.inside.shards (c.self.invariant.2 c.if-lost.false) over
