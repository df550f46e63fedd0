-- The goals of `fork::Fork::close` that no tactic closes.
use Rattle.std.proofs.Common.{◌≡◌, length, ap, ◌∙◌}
use Rattle.nr_store.specs.Tries.{Branching, whole}
use Rattle.nr_store.proofs.Levels.{made_all, links_of_two, whole_closed}
use Rattle.nr_store.proofs.fork.Fork.close.Goals as goal

pub branch-alloc-requires-clause-form : goal.branch-alloc-requires-clause-form
branch-alloc-requires-clause-form g c =
    let all : length c.self.inside.made.items ≡ 16 = ap (λ (b : Branching). length b.made) c.self.view_is ∙ c.requires in
    links_of_two c.self.inside.keys c.self.inside.rest c.deref.result.now c.self.invariant.many c.self.invariant.order c.self.invariant.rest (c.deref.ensures.value ∙ made_all c.self.inside.rest c.self.inside.made.items c.self.invariant.made all)

pub returns : goal.returns
returns g c =
    let all : length c.self.inside.made.items ≡ 16 = ap (λ (b : Branching). length b.made) c.self.view_is ∙ c.requires in
    whole_closed c.self.inside.keys c.self.inside.rest c.deref.result.now c.inner.result.now c.in_ok-split.split
    c.in_ok-found.found c.self.invariant.many c.self.invariant.order c.self.invariant.rest
    (c.deref.ensures.value ∙ made_all c.self.inside.rest c.self.inside.made.items c.self.invariant.made all)
    (c.inner.ensures ∙ c.in_ok-shared.ensures.value) c.in_ok-split.ensures c.in_ok-found.ensures.made
    ∙ ap (λ (b : Branching). whole b.keys) c.self.view_is
