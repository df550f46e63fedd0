-- What holds at the loops of `waiting::count_missing`.
use Rattle.std.proofs.Common.{◌≡◌, take, count_by}
use Rattle.nr_state.specs.Flat.{is_missing}
use Rattle.nr_state.specs.View.{world_in}
use Rattle.nr_worlds.proofs.waiting.count_missing.Given as goal

abbrev pub invariant-loop-input : goal.invariant-loop-input
invariant-loop-input g l = l.count ≡ count_by (is_missing (world_in l.columns.columns) l.receiver) (take l.input-index l.inputs)
