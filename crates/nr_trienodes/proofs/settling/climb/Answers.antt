-- The goals of `settling::climb` that no tactic closes.
use Rattle.std.proofs.Common.{ap, arith, length}
use Rattle.nr_trienodes.proofs.Sets.{extends_trans}
use Rattle.nr_trienodes.proofs.Climbing.{risen, climbed, first_step, steps_more}
use Rattle.nr_trienodes.proofs.settling.climb.Goals as goal

pub returns-in_err-below-clause-grows : goal.returns-in_err-below-clause-grows
returns-in_err-below-clause-grows c = extends_trans c.args.nodes.now c.up.nodes c.replace_child.new.nodes c.up.invariant.grows c.replace_child.ensures.grows

pub up-preserved : goal.up-preserved
up-preserved c =
    let step = first_step c.up.nodes c.up.way c.pop.new.self c.in-Some.step c.up.invariant.steps c.in-Some.ensures in
    record {
      few = omega (arith, c.up.invariant.few, c.replace_child.ensures.few, ap length c.in-Some.ensures);
      grows = extends_trans c.args.nodes.now c.up.nodes c.replace_child.new.nodes c.up.invariant.grows c.replace_child.ensures.grows;
      steps = steps_more c.up.nodes c.replace_child.new.nodes c.pop.new.self c.replace_child.ensures.grows step.1;
      below = c.in_ok-below.ensures.settled.there;
      rises = risen c.args.nodes.now c.args.way c.args.below c.up.nodes c.replace_child.new.nodes c.up.way c.pop.new.self c.in-Some.step c.up.below c.in_ok-below.below c.up.invariant.grows c.up.invariant.rises c.in-Some.ensures c.in_ok-below.ensures.settled;
    }

pub returns-clause-climbs : goal.returns-clause-climbs
returns-clause-climbs c = climbed c.args.nodes.now c.args.way c.args.below c.up.nodes c.up.way c.up.below c.up.invariant.rises c.in_default.ensures
