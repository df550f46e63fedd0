-- What holds at the loops of `listing::bytes_of`.
use Rattle.std.proofs.Common.{◌≡◌, ◌++◌, ◌*◌, drop}
use Rattle.nr_triedef.specs.Node.{paired}
use Rattle.nr_trienodes.proofs.listing.bytes_of.Given as goal

abbrev pub invariant-loop-i : goal.invariant-loop-i
invariant-loop-i l = l.bytes.items ++ paired (drop (2 * l.i) l.key) ≡ paired l.key
