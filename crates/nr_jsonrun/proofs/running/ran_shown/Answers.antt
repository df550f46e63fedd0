-- The goals of `running::ran_shown` that no tactic closes.
use Rattle.std.proofs.Common.{ℕ, List, subst}
use Rattle.nr_files.specs.Answers.{output_in, refuses}
use Rattle.nr_shell.specs.Answers.{Judges}
use Rattle.nr_shell.proofs.Leading.{judge_follows, stop_follows, then_follows}
use Rattle.nr_jsonrun.specs.Plans.{shown}
use Rattle.nr_jsonrun.proofs.running.ran_shown.Goals as goal

pub returns-in-Ok : goal.returns-in-Ok
returns-in-Ok g c =
    then_follows shown c.in-Ok.ensures
    (judge_follows (subst (λ (t : List ℕ). Judges refuses output_in c.shown.result (shown t)) c.inner.ensures c.shown.ensures))

pub returns-in-Err : goal.returns-in-Err
returns-in-Err g c = stop_follows shown c.in-Err.ensures
