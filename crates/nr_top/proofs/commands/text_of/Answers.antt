-- The goals of `commands::text_of` that no tactic closes.
use Rattle.nr_shell.proofs.Leading.{make_follows}
use Rattle.nr_top.proofs.commands.text_of.Goals as goal

pub returns-in-GenerateInput : goal.returns-in-GenerateInput
returns-in-GenerateInput g c = rw c.in-GenerateInput.is (make_follows c.generate_text.ensures)
