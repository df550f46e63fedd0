-- What holds at the loops of `steps::used`.
use Rattle.std.proofs.Common.{◌≡◌, ◌≤◌, ℕ, None, length}
use Rattle.nr_overlap.specs.Held.{cell}
use Rattle.nr_overlap.proofs.steps.used.Given as goal

abbrev pub invariant-loop-used : goal.invariant-loop-used
invariant-loop-used g l = record { past : (d : ℕ) → l.used ≤ d → cell l.lists d ≡ None; within : l.used ≤ length l.lists }

abbrev pub decreases-loop-used : goal.decreases-loop-used
decreases-loop-used g l = l.used
