-- What holds at the loops of `joining::refused_at`.
use Rattle.std.proofs.Common.{◌≡◌, drop}
use Rattle.nr_parts.specs.Joining.{first_refused}
use Rattle.nr_parts.proofs.joining.refused_at.Given as goal

abbrev pub invariant-loop-at : goal.invariant-loop-at
invariant-loop-at l = first_refused l.root l.at (drop l.at l.parts) ≡ first_refused l.root 0 l.parts
