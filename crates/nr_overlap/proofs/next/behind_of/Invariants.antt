-- What holds at the loops of `next::behind_of`.
use Rattle.std.proofs.Common.{◌≡◌, ◌<◌, ℕ}
use Rattle.nr_overlap.specs.Positions.{at}
use Rattle.nr_overlap.proofs.next.behind_of.Given as goal

abbrev pub invariant-loop-place : goal.invariant-loop-place
invariant-loop-place g l = (j : ℕ) → j < l.place → (at l.positions j).number ≡ (g.P.Phases.rules l.phases).heights
