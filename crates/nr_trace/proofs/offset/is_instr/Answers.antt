-- The goals of `offset::is_instr` that no tactic closes.
use Rattle.nr_trace.proofs.OnOffsets.{any_instr}
use Rattle.nr_trace.proofs.offset.is_instr.Goals as goal

pub returns-in_default : goal.returns-in_default
returns-in_default c = any_instr c.args.op c.in_default.not-Else c.in_default.not-End
