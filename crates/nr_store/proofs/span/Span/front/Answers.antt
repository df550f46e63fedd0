-- The goals of `span::Span::front` that no tactic closes.
use Rattle.std.proofs.Common.{◌≤◌, ◌-◌, length, take, drop, subst, sym, ap, ◌∙◌, List, ℕ}
use Rattle.nr_triedef.specs.Root.{Paths, front}
use Rattle.nr_store.proofs.Orders.{front_taken, parting_named}
use Rattle.nr_store.proofs.span.Span.front.Goals as goal

pub returns-clause-value : goal.returns-clause-value
returns-clause-value c =
    c.in_ok-shared.ensures
    ∙ ap (λ (p : List ℕ × List ℕ). take (c.parting-end.result - c.self.inside.offset) (drop c.self.inside.offset p.0)) (sym c.index-self-0.is)
    ∙ front_taken c.self.inside.offset c.self.inside.entries.now c.index-self-0.result c.index-self-self.result c.parting-end.result (subst (λ (ps : Paths). 2 ≤ length ps) (sym c.self.view_is) c.requires) c.self.invariant.order c.index-self-0.is c.index-self-self.is
    (parting_named c.self.inside.offset c.parting-end.result c.index-self-0.result _ c.index-self-self.result _ c.index-self-0.is c.index-self-self.is c.parting-end.ensures)
    ∙ ap front c.self.view_is
