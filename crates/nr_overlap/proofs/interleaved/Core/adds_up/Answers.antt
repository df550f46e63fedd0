-- The goals of `interleaved::Core::adds_up` that no tactic closes.
use Rattle.std.proofs.Common.{subst}
use Rattle.nr_overlap.specs.CoreView.{CoreView}
use Rattle.nr_overlap.specs.Balance.{IsKeptBy, AddsUp}
use Rattle.nr_overlap.proofs.interleaved.Core.adds_up.Goals as goal

pub returns : goal.returns
returns g c m laws =
    let rules = g.P.Phases.rules in
    subst (λ (v : CoreView g.row.P.Denot). IsKeptBy (rules v.phases) m → AddsUp (rules v.phases) m v.positions) c.self.view_is
    (λ kept. c.self.invariant.0.sums (g.met.P.Phases.laws c.self.inside.phases c.self.invariant.1).one_each m kept) laws
