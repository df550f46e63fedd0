-- The goals of `answer::stated_in` that no tactic closes.
use Rattle.nr_files.proofs.Steps.{state_found}
use Rattle.nr_files.proofs.answer.stated_in.Goals as goal

pub returns-in-Ok : goal.returns-in-Ok
returns-in-Ok c = state_found c.args.text.now c.without_feed.result.now c.in-Ok.stated c.without_feed.ensures c.in-Ok.ensures
