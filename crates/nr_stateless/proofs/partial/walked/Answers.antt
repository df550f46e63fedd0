-- The goals of `partial::walked` that no tactic closes.
use Rattle.nr_stateless.proofs.FoundEntries.{parts_shown}
use Rattle.nr_stateless.proofs.partial.walked.Goals as goal

pub returns-clause-whole : goal.returns-clause-whole
returns-clause-whole c = parts_shown c.args.searched.now c.args.texts.now c.args.root.now c.in_ok-gains.gains c.in_ok-parts.parts c.in_ok-parts.ensures c.in_ok-gains.ensures.whole
