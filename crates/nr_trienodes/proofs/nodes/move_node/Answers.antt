-- The goals of `nodes::move_node` that no tactic closes.
use Rattle.std.proofs.Common.{◌∙◌, ap, map}
use Rattle.nr_trienodes.specs.Naming.{renamed}
use Rattle.nr_trienodes.specs.Shape.{Shape, child}
use Rattle.nr_trienodes.proofs.Views.{shapes_at}
use Rattle.nr_trienodes.proofs.Sliding.{moved}
use Rattle.nr_trienodes.proofs.nodes.move_node.Goals as goal

pub rename_node-requires-clause-children : goal.rename_node-requires-clause-children
rename_node-requires-clause-children c = λ x d e.
    c.requires.children x d
    (ap (λ (s : Shape). child s.below x)
    (shapes_at c.args.nodes.now.items c.args.id c.index_mut.result.now c.requires.there c.index_mut.ensures.value) ∙ e)

pub rename_node-requires-clause-packable : goal.rename_node-requires-clause-packable
rename_node-requires-clause-packable c = λ x d e.
    c.requires.packable x d
    (ap (λ (s : Shape). child (map (renamed c.args.names.now) s.below) x)
    (shapes_at c.args.nodes.now.items c.args.id c.index_mut.result.now c.requires.there c.index_mut.ensures.value) ∙ e)

pub returns : goal.returns
returns c = moved c.args.nodes.now.items c.swap.new.self.items c.args.id c.args.to c.index_mut.result.now c.rename_node.new.node c.args.names.now c.requires.there c.requires.lower c.index_mut.ensures.value c.rename_node.ensures c.swap.ensures.by_index
