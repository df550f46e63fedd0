-- What holds at the loops of `lists::write_items`.
use Rattle.std.proofs.Common.{◌≡◌, ◌++◌, take}
use Rattle.std.specs.List.{flat_map, AllByRecursion}
use Rattle.nr_records.proofs.lists.write_items.Given as goal

abbrev pub invariant-loop-item : goal.invariant-loop-item
invariant-loop-item g l = record {
  written : l.writer ≡ l.initial.writer ++ flat_map g.T.Spelled.spelling (take l.item-index l.items);
  in_range : AllByRecursion g.T.Spelled.fits (take l.item-index l.items);
}
