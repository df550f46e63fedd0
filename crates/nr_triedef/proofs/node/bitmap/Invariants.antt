-- What holds at the loops of `node::bitmap`.
use Rattle.std.proofs.Common.{◌≡◌, drop}
use Rattle.nr_triedef.specs.Node.{bitmap}
use Rattle.nr_triedef.proofs.node.bitmap.Given as goal

abbrev pub invariant-loop-i : goal.invariant-loop-i
invariant-loop-i l = l.bits ≡ bitmap (drop l.i l.children)
