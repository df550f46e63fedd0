-- What holds at the loops of `joining::check_each`.
use Rattle.std.proofs.Common.{◌≡◌, drop}
use Rattle.nr_parts.specs.Joining.{each_checked}
use Rattle.nr_parts.proofs.joining.check_each.Given as goal

abbrev pub invariant-loop-part : goal.invariant-loop-part
invariant-loop-part l = each_checked l.root (drop l.part-index l.parts) ≡ each_checked l.root l.parts
