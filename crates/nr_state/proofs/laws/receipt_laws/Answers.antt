-- The goals of `laws::receipt_laws` that no tactic closes.
use Rattle.nr_state.proofs.ValidTokens.{moves_receipts, owns_apart}
use Rattle.nr_state.proofs.laws.receipt_laws.Goals as goal

pub returns-clause-sums : goal.returns-clause-sums
returns-clause-sums c = moves_receipts

pub returns-clause-apart : goal.returns-clause-apart
returns-clause-apart c = owns_apart
