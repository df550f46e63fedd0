-- What holds at the loops of `schedule::read_schedule`.
use Rattle.std.proofs.Common.{◌≡◌, ◌+◌, ◌≤◌, length}
use Rattle.nr_schedule.specs.Schedule.{lines_from, pieces, schedule_read}
use Rattle.nr_schedule.proofs.Pieces.{behind}
use Rattle.nr_schedule.proofs.schedule.read_schedule.Given as goal

-- the lines so far, and those of what is left, are those of the whole
abbrev pub invariant-loop-line : goal.invariant-loop-line
invariant-loop-line l = record {
  told : behind l.lines.items (lines_from l.shards l.number (pieces 10 l.rest)) ≡ schedule_read l.shards l.bytes;
  few : l.number + length l.rest ≤ length l.bytes + 1;
}

abbrev pub decreases-loop-line : goal.decreases-loop-line
decreases-loop-line l = length l.rest
