-- The goals of `laws::own_change_laws` that no tactic closes.
use Rattle.std.proofs.Common.{refl}
use Rattle.nr_state.proofs.ValidCalls.{changes_nothing, changes_chained, changes_account, changes_datum, changes_no_datum}
use Rattle.nr_state.proofs.laws.own_change_laws.Goals as goal

pub returns-clause-same : goal.returns-clause-same
returns-clause-same c = changes_nothing

pub returns-clause-chained : goal.returns-clause-chained
returns-clause-chained c = changes_chained

pub returns-clause-balance : goal.returns-clause-balance
returns-clause-balance c = λ id w account amount is. changes_account id w account (record account { amount = amount }) is refl

pub returns-clause-datum_set : goal.returns-clause-datum_set
returns-clause-datum_set c = changes_datum

pub returns-clause-datum_removed : goal.returns-clause-datum_removed
returns-clause-datum_removed c = changes_no_datum
