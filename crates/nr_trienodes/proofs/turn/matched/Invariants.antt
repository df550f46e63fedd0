-- What holds at the loops of `turn::matched`.
use Rattle.nr_trienodes.proofs.Keys.{Along}
use Rattle.nr_trienodes.proofs.turn.matched.Given as goal

abbrev pub invariant-loop-n : goal.invariant-loop-n
invariant-loop-n l = Along l.part l.key l.at l.n l.place
