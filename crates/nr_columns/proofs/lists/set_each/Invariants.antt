-- What holds at the loops of `lists::set_each`.
use Rattle.std.proofs.Common.{◌≡◌, ◌≤◌, length, drop}
use Rattle.nr_columns.specs.Entries.{contents_of}
use Rattle.nr_columns.proofs.lists.set_each.Given as goal

abbrev pub invariant-loop-left : goal.invariant-loop-left
invariant-loop-left g l = record {
  within : l.left ≤ length l.entries;
  filled : g.S.Store.contents l.store ≡ contents_of (drop l.left l.entries);
  marks : g.S.Store.marks l.store ≡ g.S.Store.marks l.initial.store;
  spare : g.S.Store.spare l.store ≡ g.S.Store.spare l.initial.store;
}

abbrev pub decreases-loop-left : goal.decreases-loop-left
decreases-loop-left g l = l.left
