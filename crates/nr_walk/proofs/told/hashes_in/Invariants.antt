-- What holds at the loops of `told::hashes_in`.
use Rattle.std.proofs.Common.{◌≡◌, take}
use Rattle.std.specs.List.{flat_map}
use Rattle.nr_walk.specs.Told.{option_list}
use Rattle.nr_walk.proofs.told.hashes_in.Given as goal

abbrev pub invariant-loop-child : goal.invariant-loop-child
invariant-loop-child l = l.list.items ≡ flat_map option_list (take l.child-index l.children)
