-- The goals of `shown::text_of` that no tactic closes.
use Rattle.std.proofs.Common.{refl, sym, ◌∙◌}
use Rattle.nr_bytes.proofs.Texts.{text_bad, text_ok}
use Rattle.nr_explain.proofs.shown.text_of.Goals as goal

pub returns-then-all_printed : goal.returns-then-all_printed
returns-then-all_printed c = (rw (text_ok c.args.bytes.now c.in-Ok.ensures.cases.1, sym c.all_printed.ensures ∙ c.if-all_printed.true) refl, c.in-Ok.ensures.cases.0)

pub returns-in-Err : goal.returns-in-Err
returns-in-Err c = rw (text_bad c.args.bytes.now c.in-Err.ensures.cases.0) refl
