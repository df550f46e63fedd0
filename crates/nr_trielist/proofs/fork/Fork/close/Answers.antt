-- The goals of `fork::Fork::close` that no tactic closes.
use Rattle.std.proofs.Common.{◌≡◌, ◌++◌, length, Some, ap, subst, ◌∙◌, List}
use Rattle.std.specs.Prelude.{reverse}
use Rattle.std.specs.List.{flat_map}
use Rattle.nr_triedef.specs.Node.{summary}
use Rattle.nr_triedef.specs.Root.{under, sixteen, with_front}
use Rattle.nr_triedef.specs.declared.node.Node.{Node}
use Rattle.nr_triedef.specs.declared.hash.Summary.{Summary}
use Rattle.nr_store.specs.Tries.{Branching, cut, whole}
use Rattle.nr_store.proofs.Levels.{links_of_two, whole_closed}
use Rattle.nr_trielist.specs.Growing.{head_nodes, all_nodes, heads}
use Rattle.nr_trielist.proofs.Branches.{all_several}
use Rattle.nr_trielist.proofs.Listing.{if_ok, on_ok, made_here, heads_closed}
use Rattle.nr_trielist.proofs.fork.Fork.close.Goals as goal

pub returns-in_err-node-clause-list : goal.returns-in_err-node-clause-list
returns-in_err-node-clause-list c = subst (λ (b : Branching). all_nodes b.keys ≡ heads b.keys ++ flat_map (λ n. all_nodes (under n (cut b.keys))) sixteen) c.self.view_is (all_several c.self.inside.keys c.self.invariant.many c.self.invariant.order)

pub returns-in_err-shared-clause-list : goal.returns-in_err-shared-clause-list
returns-in_err-shared-clause-list c = subst (λ (b : Branching). all_nodes b.keys ≡ heads b.keys ++ flat_map (λ n. all_nodes (under n (cut b.keys))) sixteen) c.self.view_is (all_several c.self.inside.keys c.self.invariant.many c.self.invariant.order)

pub returns-clause-list : goal.returns-clause-list
returns-clause-list c = subst (λ (b : Branching). all_nodes b.keys ≡ heads b.keys ++ flat_map (λ n. all_nodes (under n (cut b.keys))) sixteen) c.self.view_is (all_several c.self.inside.keys c.self.invariant.many c.self.invariant.order)

pub fronted-requires-clause-form : goal.fronted-requires-clause-form
fronted-requires-clause-form c =
    let full : length c.self.inside.made.items ≡ 16 = ap (λ (b : Branching). length b.made) c.self.view_is ∙ c.requires in
    rw c.in_ok-node.ensures (links_of_two c.self.inside.keys c.self.inside.rest c.deref.result.now c.self.invariant.many c.self.invariant.order c.self.invariant.rest (c.deref.ensures.value ∙ made_here c.self.inside.rest c.self.inside.made.items c.self.invariant.made full))

pub returns-clause-top : goal.returns-clause-top
returns-clause-top c =
    let full : length c.self.inside.made.items ≡ 16 = ap (λ (b : Branching). length b.made) c.self.view_is ∙ c.requires in
    if_ok (λ (s : Summary). s ≡ with_front c.inner.result.now (summary c.in_ok-node.node)) (λ (s : Summary). Some s ≡ whole c.args.self.now.keys) c.fronted.result
    (λ s e.
    whole_closed c.self.inside.keys c.self.inside.rest c.deref.result.now c.inner.result.now
    (summary c.in_ok-node.node) s c.self.invariant.many c.self.invariant.order c.self.invariant.rest
    (c.deref.ensures.value ∙ made_here c.self.inside.rest c.self.inside.made.items c.self.invariant.made full)
    (c.inner.ensures ∙ c.in_ok-shared.ensures.value) (ap summary c.in_ok-node.ensures) e
    ∙ ap (λ (b : Branching). whole b.keys) c.self.view_is)
    c.fronted.ensures.top

pub returns-clause-nodes : goal.returns-clause-nodes
returns-clause-nodes c =
    let full : length c.self.inside.made.items ≡ 16 = ap (λ (b : Branching). length b.made) c.self.view_is ∙ c.requires in
    let head : head_nodes c.inner.result.now c.in_ok-node.node ≡ heads c.args.self.now.keys =
    heads_closed c.self.inside.keys c.self.inside.rest c.deref.result.now c.inner.result.now c.in_ok-node.node c.self.invariant.rest (c.deref.ensures.value ∙ made_here c.self.inside.rest c.self.inside.made.items c.self.invariant.made full) (c.inner.ensures ∙ c.in_ok-shared.ensures.value) c.in_ok-node.ensures
    ∙ ap (λ (b : Branching). heads b.keys) c.self.view_is in
    on_ok _ _ c.fronted.result (λ e. e ∙ ap (λ (l : List Node). c.args.nodes.now.items ++ reverse l) head) c.fronted.ensures.nodes
