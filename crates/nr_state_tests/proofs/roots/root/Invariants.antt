-- What holds at the loops of `roots::root`.
use Rattle.nr_state_tests.proofs.roots.root.Given as goal

abbrev pub ghosts-counted_root : goal.ghosts-counted_root
ghosts-counted_root g a = record { name = a.blank.name; parts = a.blank.parts }
