-- The goals of `commands::join_parts::joined_text` that no tactic closes.
use Rattle.nr_top.proofs.PartAnswers.{joined_line, joined_stop}
use Rattle.nr_top.proofs.commands.join_parts.joined_text.Goals as goal

pub returns-in-Ok-root_line : goal.returns-in-Ok-root_line
returns-in-Ok-root_line c =
    joined_line c.args.word.now c.root_in.result c.args.parts.now c.in-Ok.entries c.in-Ok-root_line.text c.root_in.ensures c.in-Ok.ensures c.in-Ok-root_line.ensures

pub returns : goal.returns
returns c = joined_stop c.args.word.now c.root_in.result c.args.parts.now c.in-Err.stop c.root_in.ensures c.in-Err.ensures
