-- What holds at the loops of `nodes::hashed`.
use Rattle.nr_state_tests.proofs.nodes.hashed.Given as goal

abbrev pub ghosts-counted : goal.ghosts-counted
ghosts-counted a = record { name = a.blank.name; parts = a.blank.parts }
