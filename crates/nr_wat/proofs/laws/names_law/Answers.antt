-- The goals of `laws::names_law` that no tactic closes.
use Rattle.nr_wat.proofs.Back.{back, named}
use Rattle.nr_wat.proofs.laws.names_law.Goals as goal

pub returns-clause-back : goal.returns-clause-back
returns-clause-back c = back

pub returns-clause-named : goal.returns-clause-named
returns-clause-named c = named
