-- The goals of `placing::count_second` that no tactic closes.
use Rattle.nr_wasmtypes.specs.Code.{code_of}
use Rattle.nr_trace.proofs.OnTrails.{side_of}
use Rattle.nr_trace.proofs.placing.count_second.Goals as goal

pub returns-in-Some : goal.returns-in-Some
returns-in-Some c = side_of c.count_side.result (code_of c.args.code.now) _ c.args.so_far c.in-Some.ensures c.count_side.ensures
