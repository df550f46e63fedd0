-- What holds at the loops of `looking::tally_of`.
use Rattle.std.proofs.Common.{◌≡◌, take}
use Rattle.nr_walk.specs.Looking.{sum_known, are_known}
use Rattle.nr_walk.proofs.looking.tally_of.Given as goal

abbrev pub invariant-loop-hash : goal.invariant-loop-hash
invariant-loop-hash l = (l.tally.usage ≡ sum_known l.texts (take l.hash-index l.children)) × (l.tally.whole ≡ are_known l.texts (take l.hash-index l.children))
