-- What holds at the loops of `cutting::own_texts`.
use Rattle.std.proofs.Common.{◌≡◌, ◌+◌, ◌++◌, drop, map}
use Rattle.std.specs.List.{AllByRecursion}
use Rattle.std.specs.FinMap.{empty}
use Rattle.nr_triedef.specs.Node.{node_text, IsNode}
use Rattle.nr_parts.specs.Cutting.{once}
use Rattle.nr_parts.specs.Sweeping.{swept_nodes, owns}
use Rattle.nr_parts.proofs.cutting.own_texts.Given as goal

abbrev pub invariant-loop-node : goal.invariant-loop-node
invariant-loop-node l = record {
  so_far : l.texts.items ++ once l.seen.contents (map node_text (swept_nodes l.fn.share l.at l.end (drop l.node-index l.nodes))) ≡ once empty (map node_text (swept_nodes l.fn.share 0 0 l.nodes));
  owns : l.at + owns (drop l.node-index l.nodes) ≡ l.fn.share.whole;
  form : AllByRecursion IsNode (drop l.node-index l.nodes);
}
