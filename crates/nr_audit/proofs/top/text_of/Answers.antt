-- The goals of `top::text_of` that no tactic closes.
use Rattle.nr_shell.proofs.Leading.{make_follows}
use Rattle.nr_audit.proofs.top.text_of.Goals as goal

pub returns-in-Text : goal.returns-in-Text
returns-in-Text g c = rw c.in-Text.is (make_follows c.copied.ensures)
