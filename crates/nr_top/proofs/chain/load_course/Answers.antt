-- The goals of `chain::load_course` that no tactic closes.
use Rattle.std.proofs.Common.{refl}
use Rattle.nr_shell.specs.Plans.{Answer}
use Rattle.nr_shell.proofs.Leading.{judge_follows, stop_follows, then_follows}
use Rattle.nr_top.specs.Run.{loaded}
use Rattle.nr_top.proofs.chain.load_course.Goals as goal

pub returns-in-Ok-clause-follows : goal.returns-in-Ok-clause-follows
returns-in-Ok-clause-follows g c = then_follows (λ files. Answer (loaded files)) c.in-Ok.ensures.follows (judge_follows refl)

pub returns-in-Err-clause-follows : goal.returns-in-Err-clause-follows
returns-in-Err-clause-follows g c = stop_follows (λ files. Answer (loaded files)) c.in-Err.ensures.follows
