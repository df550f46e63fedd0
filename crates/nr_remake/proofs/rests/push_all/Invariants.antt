-- What holds at the loops of `rests::push_all`.
use Rattle.std.proofs.Common.{◌≡◌, ◌++◌, take}
use Rattle.nr_remake.specs.Merging.{marks_of}
use Rattle.nr_remake.proofs.rests.push_all.Given as goal

abbrev pub invariant-loop-one : goal.invariant-loop-one
invariant-loop-one l = l.list.items ≡ l.initial.list.items ++ marks_of (take l.one-index l.new)
