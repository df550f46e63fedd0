-- The goals of `interleaved::Core::behind` that no tactic closes.
use Rattle.std.proofs.Common.{◌≡◌, None, sym, ap, subst, ◌∙◌}
use Rattle.nr_overlap.specs.CoreView.{CoreView}
use Rattle.nr_overlap.specs.Outcome.{behind}
use Rattle.nr_overlap.specs.Run.{ending}
use Rattle.nr_overlap.proofs.Last.{is_over}
use Rattle.nr_overlap.proofs.interleaved.Core.behind.Goals as goal

pub returns-clause-is : goal.returns-clause-is
returns-clause-is g c =
    let rules = g.P.Phases.rules in
    subst (λ (v : CoreView g.row.P.Denot). c.behind_of.result ≡ behind (rules v.phases) v.positions) c.self.view_is
    (c.behind_of.ensures ∙ ap (behind (rules c.self.inside.phases)) c.deref.ensures.value)

pub returns-clause-over : goal.returns-clause-over
returns-clause-over g c =
    let rules = g.P.Phases.rules in
    let r = rules c.self.inside.phases in
    subst (λ (v : CoreView g.row.P.Denot). c.behind_of.result ≡ None → v.positions ≡ ending (rules v.phases)) c.self.view_is
    (λ none. is_over r c.self.inside.shards.positions.items c.self.invariant.0.reached (sym (c.behind_of.ensures ∙ ap (behind r) c.deref.ensures.value) ∙ none))
