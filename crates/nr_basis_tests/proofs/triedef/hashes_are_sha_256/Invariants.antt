-- What holds at the loops of `triedef::hashes_are_sha_256`.
use Rattle.nr_basis_tests.proofs.triedef.hashes_are_sha_256.Given as goal

abbrev pub ghosts-hashed : goal.ghosts-hashed
ghosts-hashed g a = record { name = a.blank.name; parts = a.blank.parts }
