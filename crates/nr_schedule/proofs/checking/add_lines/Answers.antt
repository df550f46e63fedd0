-- The goals of `checking::add_lines` that no tactic closes.
use Rattle.std.proofs.Common.{◌<◌, length, refl, arith}
use Rattle.std.specs.Prelude.{fold}
use Rattle.std.proofs.lemmas.Option.{slice_get-get_or}
use Rattle.nr_schedule.specs.Checking.{by_line}
use Rattle.nr_schedule.specs.Driving.{standing_of}
use Rattle.nr_schedule.proofs.Onward.{line_followed, lines_followed}
use Rattle.nr_schedule.proofs.checking.add_lines.Goals as goal

pub loop-line-init : goal.loop-line-init
loop-line-init g c = record { driven = c.requires; left = refl }

pub loop-line-preserved : goal.loop-line-preserved
loop-line-preserved g c =
    let here : c.loop-line.line-index < length c.args.lines.now = omega (arith, c.loop-line-test.true, c.loop-line.auto.line-index-end) in
    record {
      driven = c.in_ok-driven.ensures.driven;
      left = line_followed c.args.lines.now c.loop-line.line-index _ (standing_of c.loop-line.driven) (standing_of c.in_ok-driven.driven) (fold by_line (standing_of c.args.first) c.args.lines.now)
          (slice_get-get_or c.args.lines.now c.loop-line.line-index _ here) c.loop-line.invariant.left c.in_ok-driven.ensures.standing;
    }

pub returns-clause-standing : goal.returns-clause-standing
returns-clause-standing g c =
    lines_followed c.args.lines.now c.loop-line.line-index (standing_of c.loop-line.driven) _ (omega (arith, c.loop-line-test.false)) c.loop-line.invariant.left
