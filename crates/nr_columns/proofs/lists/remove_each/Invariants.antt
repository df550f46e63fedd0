-- What holds at the loops of `lists::remove_each`.
use Rattle.std.proofs.Common.{◌≡◌, take}
use Rattle.std.specs.FinMap as map
use Rattle.std.specs.List.{fold}
use Rattle.nr_columns.proofs.lists.remove_each.Given as goal

abbrev pub invariant-loop-key : goal.invariant-loop-key
invariant-loop-key g l = record {
  removed : g.S.Store.contents l.store ≡ fold map.remove (g.S.Store.contents l.initial.store) (take l.key-index l.keys);
  marks : g.S.Store.marks l.store ≡ g.S.Store.marks l.initial.store;
  spare : g.S.Store.spare l.store ≡ g.S.Store.spare l.initial.store;
}
