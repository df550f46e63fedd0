-- The goals of `running::over_config` that no tactic closes.
use Rattle.nr_shell.proofs.Leading.{stop_follows, then_follows}
use Rattle.nr_jsonrun.specs.Plans.{over_genesis}
use Rattle.nr_words.specs.Words.{names_in}
use Rattle.nr_jsonrun.proofs.running.over_config.Goals as goal

pub returns-in-Ok-clause-follows : goal.returns-in-Ok-clause-follows
returns-in-Ok-clause-follows g c = then_follows (over_genesis (names_in c.args.names.now) c.args.config) c.in-Ok.ensures.follows c.over_genesis.ensures.follows

pub returns-in-Err-clause-follows : goal.returns-in-Err-clause-follows
returns-in-Err-clause-follows g c = stop_follows (over_genesis (names_in c.args.names.now) c.args.config) c.in-Err.ensures.follows
