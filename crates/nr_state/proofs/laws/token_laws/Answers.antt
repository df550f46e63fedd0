-- The goals of `laws::token_laws` that no tactic closes.
use Rattle.nr_state.proofs.ValidTokens.{moves_tokens}
use Rattle.nr_state.proofs.laws.token_laws.Goals as goal

pub returns : goal.returns
returns c = moves_tokens
