-- What holds at the loops of `explaining::meeting`.
use Rattle.std.proofs.Common.{length}
use Rattle.nr_outproof.specs.Meeting.{Apart}
use Rattle.nr_outproof.proofs.explaining.meeting.Given as goal

abbrev pub invariant-levels : goal.invariant-levels
invariant-levels l = Apart l.fn.way l.fn.first l.fn.first_path l.fn.second l.fn.second_path l.sides l.first l.first_path l.second l.second_path

abbrev pub decreases-levels : goal.decreases-levels
decreases-levels l = length l.sides
