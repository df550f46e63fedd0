-- What holds at the loops of `span::Entry::part`.
use Rattle.std.proofs.Common.{◌≡◌, ◌≤◌, ◌-◌, [], take, drop}
use Rattle.nr_store.proofs.span.Entry.part.Given as goal

abbrev pub invariant-loop-at : goal.invariant-loop-at
invariant-loop-at l = record { value : l.part.items ≡ take (l.at - l.from) (drop l.from l.self.0); none : l.to ≤ l.from → l.part.items ≡ [] }
