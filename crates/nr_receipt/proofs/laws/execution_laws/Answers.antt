-- The goals of `laws::execution_laws` that no tactic closes.
use Rattle.nr_receipt.proofs.Executing.{has_small_calls, is_executed, is_settled}
use Rattle.nr_receipt.proofs.Underway.{laws_for}
use Rattle.nr_receipt.proofs.laws.execution_laws.Goals as goal
use Rattle.std.proofs.Common.{refl}

pub returns-clause-executed : goal.returns-clause-executed
returns-clause-executed c = λ config call w r act inputs place good caller valid body bounded within.
    is_executed config r act inputs place body (λ v h. c.valid_world_laws.ensures.kept config v h) (c.token_laws.ensures config) good call (laws_for config config call refl caller c.action_laws.ensures.done c.action_laws.ensures.failed) w valid bounded within

pub returns-clause-settled : goal.returns-clause-settled
returns-clause-settled c = λ config r act place body bounded. is_settled config r act place body bounded

pub returns-clause-small : goal.returns-clause-small
returns-clause-small c = λ config r bounded plain. has_small_calls config r bounded plain
