-- The goals of `legs::leg_at` that no tactic closes.
use Rattle.std.proofs.Common.{◌∙◌}
use Rattle.nr_chunk.specs.Runs.{chain_in}
use Rattle.nr_course.specs.Course.{leg_by}
use Rattle.nr_top.specs.Run.{loaded}
use Rattle.nr_top.proofs.BothLegs.{can_turn}
use Rattle.nr_top.proofs.legs.leg_at.Goals as goal

pub leg_of-requires-clause-can : goal.leg_of-requires-clause-can
leg_of-requires-clause-can c =
    can_turn (loaded c.args.files) (chain_in c.in_ok-begun.begun.chain) c.in_ok-begun.begun.turn
    c.in_ok-begun.ensures.first c.in_ok-begun.ensures.turn c.requires.can

pub returns-clause-leg : goal.returns-clause-leg
returns-clause-leg c =
    c.in_ok-leg.ensures.leg
    ∙ (λ i. leg_by (c.in_ok-begun.ensures.first i) c.args.height (c.in_ok-begun.ensures.turn i))
