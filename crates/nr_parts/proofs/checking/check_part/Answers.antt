-- The goals of `checking::check_part` that no tactic closes.
use Rattle.nr_parts.proofs.Accepted.{accepted_always}
use Rattle.nr_parts.proofs.checking.check_part.Goals as goal

pub returns-clause-always : goal.returns-clause-always
returns-clause-always c = accepted_always c.args.root.now c.args.part.now c.checked.result c.checked.ensures
