-- The goals of `legs::add_turn_if_any` that no tactic closes.
use Rattle.nr_audit.proofs.legs.add_turn_if_any.Goals as goal

pub add_turn-requires-clause-can : goal.add_turn-requires-clause-can
add_turn-requires-clause-can g c = c.requires.can c.in-Some.turn c.in-Some.is
