-- The goals of `laws::gathered_laws` that no tactic closes.
use Rattle.nr_gathered.proofs.Filed.{gathered_again, gathered_only}
use Rattle.nr_gathered.proofs.laws.gathered_laws.Goals as goal

pub returns-clause-back : goal.returns-clause-back
returns-clause-back c = gathered_again

pub returns-clause-only : goal.returns-clause-only
returns-clause-only c = gathered_only
