-- What holds at the loops of `checking::first_other`.
use Rattle.std.proofs.Common.{◌≡◌, ◌≤◌, ◌-◌, length, drop}
use Rattle.nr_parts.specs.Checking.{first_other}
use Rattle.nr_parts.proofs.checking.first_other.Given as goal

abbrev pub invariant-loop-i : goal.invariant-loop-i
invariant-loop-i l = record {
  few : l.i ≤ length l.entries;
  fewer : l.i ≤ length l.claims;
  so_far : first_other l.i (drop l.i l.entries) (drop l.i l.claims) ≡ first_other 0 l.entries l.claims;
}

abbrev pub decreases-loop-i : goal.decreases-loop-i
decreases-loop-i l = length l.entries - l.i
