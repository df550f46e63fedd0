-- The goals of `texts::is_text` that no tactic closes.
use Rattle.std.proofs.Common.{sym}
use Rattle.nr_bytes.proofs.Texts.{text_ok, text_bad}
use Rattle.nr_hostctx.proofs.texts.is_text.Goals as goal

pub returns-in-Ok : goal.returns-in-Ok
returns-in-Ok c = sym (text_ok c.args.bytes.now c.in-Ok.ensures.cases.1)

pub returns-in-Err : goal.returns-in-Err
returns-in-Err c = sym (text_bad c.args.bytes.now c.in-Err.ensures.cases.0)
