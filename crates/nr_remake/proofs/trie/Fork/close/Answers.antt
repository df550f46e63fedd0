-- The goals of `trie::Fork::close` that no tactic closes.
use Rattle.std.proofs.Common.{◌≡◌, length, ap, ◌∙◌}
use Rattle.nr_triedef.specs.Node.{summary}
use Rattle.nr_store.specs.Tries.{Branching}
use Rattle.nr_triedef.specs.Root.{Paths, value_here}
use Rattle.nr_remake.specs.Marks.{branch_with, marked_field, marked_whole}
use Rattle.nr_remake.proofs.MarkedLevels.{made_all, marked_closed}
use Rattle.nr_remake.proofs.trie.Fork.close.Goals as goal

pub returns : goal.returns
returns c =
    let all : length c.self.inside.made.items ≡ 16 = ap (λ (b : Branching). length b.made) c.self.view_is ∙ c.requires in
    let value : c.value_of-value.result ≡ marked_field (value_here c.self.inside.rest.items) = c.value_of-value.ensures ∙ ap (λ (qs : Paths). marked_field (value_here qs)) c.deref.ensures.value in
    marked_closed c.self.inside.keys.items c.self.inside.rest.items c.self.inside.made.items c.self.inside.shared.now c.in_ok-split.split c.in_ok-found.found c.self.invariant.many c.self.invariant.rest
    (made_all c.self.inside.rest.items c.self.inside.made.items c.self.invariant.made all) c.self.invariant.shared (c.in_ok-split.ensures ∙ (λ i. summary (branch_with (value i) (c.deref-2.ensures.value i)))) c.in_ok-found.ensures
    ∙ ap (λ (b : Branching). marked_whole b.keys) c.self.view_is
