-- The goals of `legs::add_legs` that no tactic closes.
use Rattle.nr_audit.proofs.Alike.{both_files, turn_same}
use Rattle.nr_audit.proofs.legs.add_legs.Goals as goal

pub add_turn_if_any-requires-clause-can : goal.add_turn_if_any-requires-clause-can
add_turn_if_any-requires-clause-can g c t is =
    turn_same c.args.first c.in_ok-core.core.phases c.in_ok-core.ensures.phases t (c.requires.can.turns t is)

pub returns : goal.returns
returns g c =
    both_files c.args.first c.in_ok-core.core.phases c.in_ok-core.ensures.phases c.args.turn c.args.archive.now
    c.add_leg.new.archive c.add_turn_if_any.new.archive c.in_ok-core.ensures.archive c.in_ok-add_turn_if_any.ensures
