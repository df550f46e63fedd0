-- What holds at the loops of `queues::set_all_awaited`.
use Rattle.std.proofs.Common.{◌≡◌, drop}
use Rattle.nr_columns.specs.View.{with_columns}
use Rattle.nr_state.specs.Queues.{all_awaited}
use Rattle.nr_state.proofs.queues.set_all_awaited.Given as goal

-- what is left to write leads to the same columns
abbrev pub invariant-loop-input : goal.invariant-loop-input
invariant-loop-input g l =
    with_columns l.columns (all_awaited l.columns.columns l.receiver l.receipt_id (drop l.input-index l.inputs)) ≡ with_columns l.initial.columns (all_awaited l.initial.columns.columns l.receiver l.receipt_id l.inputs)
