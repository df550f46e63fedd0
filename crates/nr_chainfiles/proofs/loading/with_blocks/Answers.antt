-- The goals of `loading::with_blocks` that no tactic closes.
use Rattle.std.proofs.Common.{refl}
use Rattle.nr_shell.specs.Plans.{Answer}
use Rattle.nr_shell.proofs.Leading.{judge_follows, stop_follows, then_follows}
use Rattle.nr_chainfiles.specs.Plans.{files_with}
use Rattle.nr_chainfiles.proofs.loading.with_blocks.Goals as goal

pub returns-in-Ok-clause-follows : goal.returns-in-Ok-clause-follows
returns-in-Ok-clause-follows g c =
    then_follows (λ file. Answer (files_with c.args.config c.args.genesis file)) c.in-Ok.ensures.follows (judge_follows refl)

pub returns-in-Err-clause-follows : goal.returns-in-Err-clause-follows
returns-in-Err-clause-follows g c =
    stop_follows (λ file. Answer (files_with c.args.config c.args.genesis file)) c.in-Err.ensures.follows
