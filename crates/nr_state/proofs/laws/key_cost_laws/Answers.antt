-- The goals of `laws::key_cost_laws` that no tactic closes.
use Rattle.nr_state.proofs.KeyCosts.{nonce_free, allowance_free}
use Rattle.nr_state.proofs.laws.key_cost_laws.Goals as goal

pub returns-clause-nonce : goal.returns-clause-nonce
returns-clause-nonce c = nonce_free

pub returns-clause-allowance : goal.returns-clause-allowance
returns-clause-allowance c = allowance_free
