-- What holds at the loops of `lists::entries_at`.
use Rattle.std.proofs.Common.{◌≡◌}
use Rattle.std.specs.List.{flat_map}
use Rattle.nr_columns.specs.Entries.{pairs_of, pair_at}
use Rattle.nr_columns.proofs.lists.entries_at.Given as goal

abbrev pub invariant-loop-key : goal.invariant-loop-key
invariant-loop-key g l = pairs_of l.found.items ≡ flat_map (pair_at (g.S.Store.contents l.store)) l.yielded
