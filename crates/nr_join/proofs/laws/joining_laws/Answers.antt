-- The goals of `laws::joining_laws` that no tactic closes.
use Rattle.nr_join.proofs.Moves.{offering_keeps, delaying_keeps, serving_keeps}
use Rattle.nr_join.proofs.laws.joining_laws.Goals as goal

pub returns-clause-offered : goal.returns-clause-offered
returns-clause-offered c = λ config w r after offered v bounded within e. offering_keeps config w v r bounded within after offered e

pub returns-clause-delayed : goal.returns-clause-delayed
returns-clause-delayed c = delaying_keeps

pub returns-clause-served : goal.returns-clause-served
returns-clause-served c = serving_keeps
