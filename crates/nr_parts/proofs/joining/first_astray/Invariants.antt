-- What holds at the loops of `joining::first_astray`.
use Rattle.std.proofs.Common.{◌≡◌, ◌≤◌, ◌-◌, length, drop}
use Rattle.nr_parts.specs.Joining.{first_astray}
use Rattle.nr_parts.proofs.joining.first_astray.Given as goal

abbrev pub invariant-loop-at : goal.invariant-loop-at
invariant-loop-at l = (l.at ≤ length l.parts) × (first_astray (length l.parts) l.at (drop l.at l.parts) ≡ first_astray (length l.parts) 0 l.parts)

abbrev pub decreases-loop-at : goal.decreases-loop-at
decreases-loop-at l = length l.parts - l.at
