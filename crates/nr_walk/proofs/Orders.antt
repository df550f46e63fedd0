-- Keys in the order of their bytes are in that of their nibbles.
use Rattle.std.proofs.Common.{◌≡◌, ℕ, List, sym, ap, ◌∙◌}
use Rattle.std.specs.List.{AllByRecursion}
use Rattle.std.specs.FinMap.{from_sorted, entries-from_sorted}
use Rattle.nr_triedef.specs.Node.{IsNibbles}
use Rattle.nr_triedef.specs.Root.{Contents, Paths, paths}
use Rattle.nr_store.specs.Tries.{CanWalk}
use Rattle.nr_store.proofs.Held.{R}
use Rattle.nr_store.proofs.Listed.{walk_whole}
use Rattle.nr_columns.specs.declared.entry.Entry.{Entry}
use Rattle.nr_columns.specs.Entries.{pairs_of, InOrder}

pub walk_pairs : (es : List Entry) (keys : Paths) → keys ≡ paths (pairs_of es) → InOrder es → AllByRecursion (λ (p : List ℕ × List ℕ). IsNibbles p.0) keys → CanWalk keys
walk_pairs es keys e order small =
    let m : Contents = from_sorted (pairs_of es) in
    walk_whole m keys (e ∙ ap paths (sym (entries-from_sorted R (pairs_of es) order))) small
