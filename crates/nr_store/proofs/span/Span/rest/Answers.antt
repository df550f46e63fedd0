-- The goals of `span::Span::rest` that no tactic closes.
use Rattle.std.proofs.Common.{◌≤◌, length, subst, sym, ap, ◌∙◌}
use Rattle.nr_triedef.specs.Root.{Paths}
use Rattle.nr_store.specs.Tries.{CanWalk, cut}
use Rattle.nr_store.proofs.Orders.{cut_taken, walk_cut, parting_named}
use Rattle.nr_store.proofs.span.Span.rest.Goals as goal

pub invariant_of-result : goal.invariant_of-result
invariant_of-result c =
    subst CanWalk (sym (cut_taken c.self.inside.offset c.self.inside.entries.now c.index-self-0.result c.index-self-self.result c.parting-offset.result (subst (λ (ps : Paths). 2 ≤ length ps) (sym c.self.view_is) c.requires) c.self.invariant.order c.index-self-0.is c.index-self-self.is
    (parting_named c.self.inside.offset c.parting-offset.result c.index-self-0.result _ c.index-self-self.result _ c.index-self-0.is c.index-self-self.is c.parting-offset.ensures)))
    (walk_cut _ c.self.invariant)

pub returns : goal.returns
returns c =
    cut_taken c.self.inside.offset c.self.inside.entries.now c.index-self-0.result c.index-self-self.result c.parting-offset.result (subst (λ (ps : Paths). 2 ≤ length ps) (sym c.self.view_is) c.requires) c.self.invariant.order c.index-self-0.is c.index-self-self.is
    (parting_named c.self.inside.offset c.parting-offset.result c.index-self-0.result _ c.index-self-self.result _ c.index-self-0.is c.index-self-self.is c.parting-offset.ensures)
    ∙ ap cut c.self.view_is
