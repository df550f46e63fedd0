-- The goals of `accounts::counts_key` that no tactic closes.
use Rattle.std.proofs.Common.{arith}
use Rattle.nr_state.proofs.accounts.counts_key.Goals as goal

pub returns : goal.returns
returns c = λ _. omega (arith, c.in_ok-usage.ensures)
