-- What holds at the loops of `joining::set_parts`.
use Rattle.std.proofs.Common.{◌≡◌, drop}
use Rattle.nr_parts.specs.Joining.{set_all, joined}
use Rattle.nr_parts.proofs.joining.set_parts.Given as goal

abbrev pub invariant-loop-part : goal.invariant-loop-part
invariant-loop-part l = set_all l.store.contents (joined (drop l.part-index l.parts)) ≡ set_all l.initial.store.contents (joined l.parts)
