-- What holds at the loops of `growing::several`.
use Rattle.std.proofs.Common.{◌≡◌, ◌+◌, ◌-◌, ◌++◌, length}
use Rattle.nr_trielist.proofs.Listing.{Wait, work, works, gained, gained_all}
use Rattle.nr_trielist.proofs.growing.several.Given as goal

abbrev pub invariant-made : goal.invariant-made
invariant-made l = record {
  wait : Wait l.above l.fork.keys l.fn.keys;
  listed : l.nodes.items ≡ gained_all l.initial.nodes.items l.above ++ gained l.fork;
}

abbrev pub decreases-made : goal.decreases-made
decreases-made l = works l.above + work (16 - length l.fork.made) (length l.fork.made) l.fork.keys
