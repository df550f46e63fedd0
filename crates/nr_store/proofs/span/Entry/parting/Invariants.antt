-- What holds at the loops of `span::Entry::parting`.
use Rattle.std.proofs.Common.{◌≡◌, ◌+◌, ◌-◌, length, drop}
use Rattle.nr_triedef.specs.Root.{common}
use Rattle.nr_store.proofs.span.Entry.parting.Given as goal

abbrev pub invariant-loop-at : goal.invariant-loop-at
invariant-loop-at l = l.at + length (common (drop l.at l.self.0) (drop l.at l.other.0)) ≡ l.from + length (common (drop l.from l.self.0) (drop l.from l.other.0))

abbrev pub decreases-loop-at : goal.decreases-loop-at
decreases-loop-at l = length l.self.0 - l.at
