-- What holds at the loops of `cutting::own_entries`.
use Rattle.std.proofs.Common.{◌≡◌, ◌+◌, ◌++◌, drop}
use Rattle.nr_parts.specs.Sweeping.{swept_entries, owns}
use Rattle.nr_parts.proofs.cutting.own_entries.Given as goal

abbrev pub invariant-loop-node : goal.invariant-loop-node
invariant-loop-node l = record {
  so_far : l.own.items ++ swept_entries l.fn.share l.at (drop l.node-index l.nodes) (drop l.index l.entries) ≡ swept_entries l.fn.share 0 l.nodes l.entries;
  owns : l.at + owns (drop l.node-index l.nodes) ≡ l.fn.share.whole;
}
