-- What holds at the loops of `checking::add_lines`.
use Rattle.std.proofs.Common.{◌≡◌, drop}
use Rattle.std.specs.Prelude.{fold}
use Rattle.nr_schedule.specs.Checking.{by_line}
use Rattle.nr_schedule.specs.Driving.{IsDriven, standing_of}
use Rattle.nr_schedule.proofs.checking.add_lines.Given as goal

-- where it stands, and what is left
abbrev pub invariant-loop-line : goal.invariant-loop-line
invariant-loop-line g l = record {
  driven : IsDriven l.driven;
  left : fold by_line (standing_of l.driven) (drop l.line-index l.lines) ≡ fold by_line (standing_of l.fn.first) l.lines;
}
