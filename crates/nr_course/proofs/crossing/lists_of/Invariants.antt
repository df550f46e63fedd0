-- What holds at the loops of `crossing::lists_of`.
use Rattle.std.proofs.Common.{◌≡◌, ◌++◌, map}
use Rattle.std.specs.Vec.Iter.{into_iter_items}
use Rattle.nr_legs.specs.Legs.{left_of}
use Rattle.nr_course.proofs.crossing.lists_of.Given as goal

-- what is there and what is left make the whole
abbrev pub invariant-loop-list : goal.invariant-loop-list
invariant-loop-list l = l.lists.items ++ map left_of (into_iter_items l.list-iterator) ≡ map left_of l.fn.left
