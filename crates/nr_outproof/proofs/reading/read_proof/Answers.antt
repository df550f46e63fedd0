-- The goals of `reading::read_proof` that no tactic closes.
use Rattle.std.proofs.Common.{sym, ◌∙◌}
use Rattle.nr_outproof.proofs.TextLines.{head_is_none, head_missing, head_given}
use Rattle.nr_outproof.proofs.reading.read_proof.Goals as goal

pub returns-in_default : goal.returns-in_default
returns-in_default c = λ _. head_is_none c.args.bytes.now c.in_default.ensures.pieces

pub returns-in-Some-head_in : goal.returns-in-Some-head_in
returns-in-Some-head_in c = head_given c.args.bytes.now c.in-Some.line.now c.in-Some.rest.now c.in-Some-head_in.head _ c.in-Some.ensures.pieces (sym c.head_in.ensures ∙ c.in-Some-head_in.is) c.behind_head.ensures

pub returns-in-None : goal.returns-in-None
returns-in-None c = λ _. head_missing c.args.bytes.now c.in-Some.line.now c.in-Some.rest.now c.in-Some.ensures.pieces (sym c.head_in.ensures ∙ c.in-None.is)
