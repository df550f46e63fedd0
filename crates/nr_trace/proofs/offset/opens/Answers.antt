-- The goals of `offset::opens` that no tactic closes.
use Rattle.nr_trace.proofs.OnOffsets.{any_plain}
use Rattle.nr_trace.proofs.offset.opens.Goals as goal

pub returns-in_default : goal.returns-in_default
returns-in_default c = any_plain c.args.op c.in_default.not-Block c.in_default.not-Loop c.in_default.not-If
