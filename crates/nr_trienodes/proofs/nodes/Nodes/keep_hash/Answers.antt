-- The goals of `nodes::Nodes::keep_hash` that no tactic closes.
use Rattle.std.proofs.Common.{refl}
use Rattle.nr_trienodes.proofs.Views.{kept_view}
use Rattle.nr_trienodes.proofs.nodes.Nodes.keep_hash.Goals as goal

pub invariant_of-self : goal.invariant_of-self
invariant_of-self c =
    let kept = kept_view c.self.inside.nodes.items c.args.self.now c.args.id c.index_mut-node.result.now _ c.args.hash c.self.view_is c.self.invariant.sound c.self.invariant.few (record { there = c.requires.there; is = c.requires.hash; below = c.requires.below }) c.index_mut-node.ensures.value refl in
    record { sound = kept.keeps.sound; few = kept.few }

pub returns : goal.returns
returns c = (kept_view c.self.inside.nodes.items c.args.self.now c.args.id c.index_mut-node.result.now _ c.args.hash c.self.view_is c.self.invariant.sound c.self.invariant.few (record { there = c.requires.there; is = c.requires.hash; below = c.requires.below }) c.index_mut-node.ensures.value refl).keeps
