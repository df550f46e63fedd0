-- What holds at the loops of `listing::fit_of`.
use Rattle.nr_trienodes.proofs.Keys.{Along}
use Rattle.nr_trienodes.proofs.listing.fit_of.Given as goal

abbrev pub invariant-loop-n : goal.invariant-loop-n
invariant-loop-n l = Along l.part l.prefix l.at l.n l.place
