-- The goals of `showing::shown` that no tactic closes.
use Rattle.nr_jsonrun.proofs.Retold.{passed, retold}
use Rattle.nr_jsonrun.proofs.showing.shown.Goals as goal

pub returns-in-Ok : goal.returns-in-Ok
returns-in-Ok c = passed c.args.text.now c.in-Ok.output c.in-Ok.ensures

pub returns-in-Err : goal.returns-in-Err
returns-in-Err c = retold c.args.text.now c.in-Err.stop c.file_stop.result c.file_stop.ensures c.in-Err.ensures
