-- The goals of `answer::without_feed` that no tactic closes.
use Rattle.nr_files.proofs.Steps.{nothing_off}
use Rattle.nr_files.proofs.answer.without_feed.Goals as goal

pub returns-then-is_empty : goal.returns-then-is_empty
returns-then-is_empty c = nothing_off c.args.text.now c.if-is_empty.ensures
