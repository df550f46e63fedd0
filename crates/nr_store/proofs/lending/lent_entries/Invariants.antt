-- What holds at the loops of `lending::lent_entries`.
use Rattle.std.proofs.Common.{◌≡◌, ◌++◌}
use Rattle.nr_store.specs.Plain.{keyed, filled}
use Rattle.nr_store.proofs.lending.lent_entries.Given as goal

abbrev pub invariant-loop-key : goal.invariant-loop-key
invariant-loop-key l = l.entries.items ++ filled (keyed l.key-iterator) ≡ filled (keyed l.slots.entries)
