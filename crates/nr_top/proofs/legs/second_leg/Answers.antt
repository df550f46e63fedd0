-- The goals of `legs::second_leg` that no tactic closes.
use Rattle.std.proofs.Common.{ap, ◌∙◌}
use Rattle.nr_chunk.specs.Runs.{chain_in}
use Rattle.nr_course.specs.Course.{second}
use Rattle.nr_top.proofs.legs.second_leg.Goals as goal

pub returns-clause-leg : goal.returns-clause-leg
returns-clause-leg c =
    c.in_ok-crossed.ensures.chain ∙ ap (λ run. second (chain_in run) c.args.turn) c.in_ok-outcome.ensures
