-- What holds at the loops of `counting::two_roots`.
use Rattle.nr_state_tests.proofs.counting.two_roots.Given as goal

abbrev pub ghosts-counted : goal.ghosts-counted
ghosts-counted a = record { name = a.blank.name; parts = a.blank.parts }
