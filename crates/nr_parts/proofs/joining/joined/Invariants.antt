-- What holds at the loops of `joining::joined`.
use Rattle.std.proofs.Common.{◌≡◌, take}
use Rattle.nr_parts.specs.Joining.{joined}
use Rattle.nr_parts.proofs.joining.joined.Given as goal

abbrev pub invariant-loop-part : goal.invariant-loop-part
invariant-loop-part l = l.all.items ≡ joined (take l.part-index l.parts)
