-- What holds at the loops of `keys::keys_of`.
use Rattle.std.proofs.Common.{◌≡◌, ℕ, List, take}
use Rattle.std.specs.List.{AllByRecursion}
use Rattle.nr_triedef.specs.Node.{IsNibbles}
use Rattle.nr_triedef.specs.Root.{paths}
use Rattle.nr_columns.specs.Entries.{pairs_of}
use Rattle.nr_walk.proofs.keys.keys_of.Given as goal

abbrev pub invariant-loop-entry : goal.invariant-loop-entry
invariant-loop-entry l = record {
  value : l.keys.items ≡ paths (pairs_of (take l.entry-index l.entries));
  small : AllByRecursion (λ (p : List ℕ × List ℕ). IsNibbles p.0) l.keys.items;
}
