-- What holds at the loops of `joining::whole_hash`.
use Rattle.nr_parts.proofs.joining.whole_hash.Given as goal

abbrev pub ghosts-counted_hash : goal.ghosts-counted_hash
ghosts-counted_hash a = record { name = a.blank.name; parts = a.blank.parts }
