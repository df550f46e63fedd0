-- The goals of `joining::join_parts` that no tactic closes.
use Rattle.nr_parts.proofs.Sets.{joined_always}
use Rattle.nr_parts.proofs.Together.{joined_wholes}
use Rattle.nr_parts.proofs.joining.join_parts.Goals as goal

pub returns-clause-root : goal.returns-clause-root
returns-clause-root c = joined_always c.args.root.now c.args.parts.now c.joined_or_fault.result c.joined_or_fault.ensures

pub returns-clause-whole : goal.returns-clause-whole
returns-clause-whole c = joined_wholes c.args.root.now c.args.parts.now c.joined_or_fault.result c.joined_or_fault.ensures
