-- The goals of `laws::going_on_laws` that no tactic closes.
use Rattle.nr_legs.proofs.Going.{can_go_on, starts_on}
use Rattle.nr_legs.proofs.laws.going_on_laws.Goals as goal

pub returns-clause-can : goal.returns-clause-can
returns-clause-can c = can_go_on

pub returns-clause-starts : goal.returns-clause-starts
returns-clause-starts c = starts_on
