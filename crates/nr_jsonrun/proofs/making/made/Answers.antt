-- The goals of `making::made` that no tactic closes.
use Rattle.std.proofs.Common.{sym, ap}
use Rattle.nr_files.specs.Due.{Output}
use Rattle.nr_shell.proofs.WithBytes.{pass_follows, retold_follows, unread_before}
use Rattle.nr_shell.proofs.Leading.{judge_follows, stop_follows, then_follows}
use Rattle.nr_shell.specs.Plans.{Answer}
use Rattle.nr_jsonrun.proofs.Steps.{file_refuses}
use Rattle.nr_jsonrun.specs.Plans.{bytes_of}
use Rattle.nr_jsonrun.specs.Words.{of_file}
use Rattle.nr_jsonrun.proofs.making.made.Goals as goal

pub returns-in-Ok-clause-follows : goal.returns-in-Ok-clause-follows
returns-in-Ok-clause-follows g c =
    then_follows (λ (output : Output). Answer (bytes_of output)) (pass_follows (of_file c.args.file.now) c.in-Ok.ensures.follows)
    (judge_follows (ap (λ bytes. Answer bytes) (sym c.bytes_of.ensures)))

pub returns-in-Err-clause-follows : goal.returns-in-Err-clause-follows
returns-in-Err-clause-follows g c =
    let other = of_file c.args.file.now in
    stop_follows (λ (output : Output). Answer (bytes_of output))
    (retold_follows other (file_refuses c.args.file.now) c.file_stop.ensures c.in-Err.ensures.follows)

pub returns-in-Err-clause-names : goal.returns-in-Err-clause-names
returns-in-Err-clause-names g c = λ e.
    c.in-Err.ensures.names (unread_before (of_file c.args.file.now) c.in-Err.field-0.stop c.file_stop.result c.file_stop.ensures e)
