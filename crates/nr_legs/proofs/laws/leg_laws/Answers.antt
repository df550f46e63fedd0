-- The goals of `laws::leg_laws` that no tactic closes.
use Rattle.nr_legs.proofs.Ends.{goes_on, holds_across}
use Rattle.nr_legs.proofs.Left.{leaves_last}
use Rattle.nr_legs.proofs.laws.leg_laws.Goals as goal

pub returns-clause-start : goal.returns-clause-start
returns-clause-start c = goes_on

pub returns-clause-left : goal.returns-clause-left
returns-clause-left c = leaves_last

pub returns-clause-across : goal.returns-clause-across
returns-clause-across c = holds_across
