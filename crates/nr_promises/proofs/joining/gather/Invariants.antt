-- What holds at the loops of `joining::gather`.
use Rattle.std.proofs.Common.{◌≡◌, ◌≤◌, length, take}
use Rattle.nr_promises.specs.Book.{all_places}
use Rattle.nr_promises.proofs.joining.gather.Given as goal

abbrev pub invariant-loop-index : goal.invariant-loop-index
invariant-loop-index l = record {
  so_far : l.places.items ≡ all_places l.promises (take l.index-index l.indices);
  few : length (all_places l.promises (take l.index-index l.indices)) ≤ 128;
}
