-- What holds at the loops of `told::spots_in`.
use Rattle.std.proofs.Common.{◌≡◌, ◌++◌, drop}
use Rattle.nr_walk.specs.Told.{spots_from}
use Rattle.nr_walk.proofs.told.spots_in.Given as goal

abbrev pub invariant-loop-i : goal.invariant-loop-i
invariant-loop-i l = l.list.items ++ spots_from l.place l.i (drop l.i l.children) ≡ spots_from l.place 0 l.children
