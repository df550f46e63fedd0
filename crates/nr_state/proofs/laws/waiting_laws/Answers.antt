-- The goals of `laws::waiting_laws` that no tactic closes.
use Rattle.nr_state.proofs.OwnInputs.{own_unawaited, unawaited_own, waits_lacking, still_waits}
use Rattle.nr_state.proofs.laws.waiting_laws.Goals as goal

pub returns-clause-unawaited : goal.returns-clause-unawaited
returns-clause-unawaited c = own_unawaited

pub returns-clause-own : goal.returns-clause-own
returns-clause-own c = unawaited_own

pub returns-clause-lacking : goal.returns-clause-lacking
returns-clause-lacking c = waits_lacking

pub returns-clause-still : goal.returns-clause-still
returns-clause-still c = still_waits
