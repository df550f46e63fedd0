-- What holds at the loops of `carrying::carry`.
use Rattle.std.proofs.Common.{◌≡◌, ◌++◌}
use Rattle.std.specs.List.{flat_map}
use Rattle.std.specs.Vec.Iter.{into_iter_items}
use Rattle.nr_cut.proofs.carrying.carry.Given as goal

-- what is there and what is left make the whole
abbrev pub invariant-loop-list : goal.invariant-loop-list
invariant-loop-list l =
    l.all.items ++ flat_map (λ list. list) (into_iter_items l.list-iterator) ≡ flat_map (λ list. list) l.fn.left
