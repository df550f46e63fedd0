-- The goals of `expression::is_structured` that no tactic closes.
use Rattle.nr_wasmbin.proofs.OnCode.{any_in_row}
use Rattle.nr_wasmbin.proofs.expression.is_structured.Goals as goal

pub returns-in_default : goal.returns-in_default
returns-in_default c = any_in_row c.args.op c.in_default.not-Block c.in_default.not-Loop c.in_default.not-If c.in_default.not-Else c.in_default.not-End
