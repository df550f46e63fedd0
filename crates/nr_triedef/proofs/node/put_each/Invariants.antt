-- What holds at the loops of `node::put_each`.
use Rattle.std.proofs.Common.{◌≡◌, ◌++◌, take}
use Rattle.std.specs.List.{flat_map}
use Rattle.nr_triedef.specs.Node.{child_bytes}
use Rattle.nr_triedef.proofs.node.put_each.Given as goal

abbrev pub invariant-loop-child : goal.invariant-loop-child
invariant-loop-child l = l.text ≡ l.initial.text ++ flat_map child_bytes (take l.child-index l.children)
