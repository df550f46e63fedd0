-- What holds at the loops of `root::entries_of`.
use Rattle.std.proofs.Common.{◌≡◌, ◌++◌}
use Rattle.std.specs.List.{AllByRecursion}
use Rattle.nr_triedef.specs.Node.{IsNibbles}
use Rattle.nr_triedef.specs.Root.{paths}
use Rattle.nr_store.specs.Plain.{keyed, filled}
use Rattle.nr_store.proofs.root.entries_of.Given as goal

abbrev pub invariant-loop-key : goal.invariant-loop-key
invariant-loop-key l = record { value : l.entries.items ++ paths (filled (keyed l.key-iterator)) ≡ paths (filled (keyed l.slots.entries)); small : AllByRecursion (λ p. IsNibbles p.0) l.entries.items }
