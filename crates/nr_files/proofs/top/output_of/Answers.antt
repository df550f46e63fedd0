-- The goals of `top::output_of` that no tactic closes.
use Rattle.nr_shell.proofs.Leading.{judge_follows}
use Rattle.nr_files.proofs.top.output_of.Goals as goal

pub returns-in-Err-clause-follows : goal.returns-in-Err-clause-follows
returns-in-Err-clause-follows g c = judge_follows tt
