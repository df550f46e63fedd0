-- What holds at the loops of `root::root_of`.
use Rattle.nr_chunk.proofs.root.root_of.Given as goal

abbrev pub ghosts-counted_root : goal.ghosts-counted_root
ghosts-counted_root a = record { name = a.blank.name; parts = a.blank.parts }
