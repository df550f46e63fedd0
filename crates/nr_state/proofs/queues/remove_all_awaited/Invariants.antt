-- What holds at the loops of `queues::remove_all_awaited`.
use Rattle.std.proofs.Common.{◌≡◌, drop}
use Rattle.nr_columns.specs.View.{with_columns}
use Rattle.nr_state.specs.Queues.{none_awaited}
use Rattle.nr_state.proofs.queues.remove_all_awaited.Given as goal

-- what is left to take out leads to the same columns
abbrev pub invariant-loop-input : goal.invariant-loop-input
invariant-loop-input g l =
    with_columns l.columns (none_awaited l.columns.columns l.receiver (drop l.input-index l.inputs)) ≡ with_columns l.initial.columns (none_awaited l.initial.columns.columns l.receiver l.inputs)
