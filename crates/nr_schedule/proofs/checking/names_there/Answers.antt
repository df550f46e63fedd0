-- The goals of `checking::names_there` that no tactic closes.
use Rattle.nr_schedule.proofs.Within.{told_there}
use Rattle.nr_schedule.proofs.checking.names_there.Goals as goal

pub returns : goal.returns
returns c = told_there c.args.shards c.args.event c.is_inside.result c.is_inside.ensures
