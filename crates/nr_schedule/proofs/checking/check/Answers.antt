-- The goals of `checking::check` that no tactic closes.
use Rattle.std.proofs.Common.{ap, ◌∙◌}
use Rattle.std.specs.Prelude.{fold}
use Rattle.nr_chunk.specs.Runs.{chain_in}
use Rattle.nr_schedule.specs.Checking.{Standing, by_line}
use Rattle.nr_schedule.specs.Driving.{standing_of}
use Rattle.nr_schedule.proofs.Onward.{text_checked}
use Rattle.nr_schedule.proofs.checking.check.Goals as goal

pub returns : goal.returns
returns g c =
    text_checked (record { first = chain_in c.args.first; turn = c.args.turn }) c.args.lines.now (standing_of c.in_ok-last.last) c.in_ok-totals.totals c.write_totals.new.out
    (c.in_ok-last.ensures.standing ∙ ap (λ (d : Standing). fold by_line d c.args.lines.now) c.in_ok-driven.ensures.standing) c.in_ok-totals.ensures c.in_ok-write_totals.ensures.ok
