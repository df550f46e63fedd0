-- What holds at the loops of `settling::links_of`.
use Rattle.nr_trienodes.proofs.Settled.{LinksBelow}
use Rattle.nr_trienodes.proofs.settling.links_of.Given as goal

abbrev pub invariant-loop-nibble : goal.invariant-loop-nibble
invariant-loop-nibble l = LinksBelow l.row l.nibble l.links
