-- What holds at the loops of `filling::boundaries_of`.
use Rattle.std.proofs.Common.{◌≡◌, take}
use Rattle.nr_files.proofs.filling.boundaries_of.Given as goal

abbrev pub invariant-loop-id : goal.invariant-loop-id
invariant-loop-id l = l.list.items ≡ take l.id-index l.ids
