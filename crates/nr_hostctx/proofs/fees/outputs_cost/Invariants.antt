-- What holds at the loops of `fees::outputs_cost`.
use Rattle.std.proofs.Common.{◌≡◌, ◌<◌, ◌^◌, take}
use Rattle.nr_hostctx.specs.Logs.{outputs_cost}
use Rattle.nr_hostctx.proofs.fees.outputs_cost.Given as goal

abbrev pub invariant-loop-output : goal.invariant-loop-output
invariant-loop-output l = record {
  so_far : l.sum ≡ outputs_cost l.config l.current (take l.output-index l.outputs) l.count;
  fits : l.sum < 2 ^ 128;
}
