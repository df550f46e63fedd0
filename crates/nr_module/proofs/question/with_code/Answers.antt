-- The goals of `question::with_code` that no tactic closes.
use Rattle.std.proofs.Common.{ℕ, List, refl}
use Rattle.nr_shell.specs.Plans.{Plan, Answer}
use Rattle.nr_shell.proofs.Leading.{judge_follows, stop_follows, then_follows}
use Rattle.nr_module.specs.Answers.{refuses}
use Rattle.nr_module.specs.Command.{named_request}
use Rattle.nr_module.specs.Plans.{Due, Try}
use Rattle.nr_module.specs.declared.status.Status.{Status}
use Rattle.nr_module.proofs.question.with_code.Goals as goal

pub returns-in-Ok : goal.returns-in-Ok
returns-in-Ok g c =
    let given : List ℕ → Plan Due Status = λ bytes. Answer (Try c.args.config (named_request c.args.names.now) bytes) in
    then_follows given (c.in-Ok.ensures refuses refl) (judge_follows refl)

pub returns-in-Err : goal.returns-in-Err
returns-in-Err g c =
    let given : List ℕ → Plan Due Status = λ bytes. Answer (Try c.args.config (named_request c.args.names.now) bytes) in
    stop_follows given (c.in-Err.ensures refuses refl)
