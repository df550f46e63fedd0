-- The goals of `top::of_asked` that no tactic closes.
use Rattle.std.proofs.Common.{refl, ap}
use Rattle.nr_shell.proofs.Leading.{judge_follows}
use Rattle.nr_files.specs.Command.{asked_in}
use Rattle.nr_files.specs.Plans.{plan}
use Rattle.nr_files.specs.declared.command.Asked.{Asked}
use Rattle.nr_files.proofs.top.of_asked.Goals as goal

pub returns-in-Nothing-clause-follows : goal.returns-in-Nothing-clause-follows
returns-in-Nothing-clause-follows g c = judge_follows (refl, cc)

pub returns-in-Unknown-clause-follows : goal.returns-in-Unknown-clause-follows
returns-in-Unknown-clause-follows g c = judge_follows (refl, cc)

pub returns-in-Written-clause-follows : goal.returns-in-Written-clause-follows
returns-in-Written-clause-follows g c = judge_follows (ap (λ (a : Asked). plan (asked_in a)) c.in-Written.is)
