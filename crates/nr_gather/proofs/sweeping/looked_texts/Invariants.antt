-- What holds at the loops of `sweeping::looked_texts`.
use Rattle.std.proofs.Common.{◌≡◌, ◌≤◌, ◌+◌, ◌*◌, ◌++◌, ◌∷◌, [], drop}
use Rattle.std.specs.List.{AllByRecursion}
use Rattle.nr_triedef.specs.Node.{IsNode}
use Rattle.nr_triedef.specs.Root.{paths}
use Rattle.nr_columns.specs.Entries.{pairs_of}
use Rattle.nr_gather.specs.Sweeping.{swept}
use Rattle.nr_gather.proofs.sweeping.looked_texts.Given as goal

abbrev pub invariant-loop-node : goal.invariant-loop-node
invariant-loop-node l = record {
  same : l.sought ≡ l.searched;
  so_far : l.texts.items ++ swept l.searched l.passed l.waiting (drop l.node-index l.nodes) (paths (pairs_of l.rest)) ≡ swept l.searched 0 (l.fn.top ∷ []) l.nodes (paths (pairs_of l.entries));
  few : l.passed ≤ 16 * l.node-index + 16;
  form : AllByRecursion IsNode (drop l.node-index l.nodes);
}
