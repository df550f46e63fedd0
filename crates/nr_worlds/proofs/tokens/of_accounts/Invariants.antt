-- What holds at the loops of `tokens::of_accounts`.
use Rattle.std.proofs.Common.{◌≡◌, ◌+◌, ◌<◌, ◌^◌, length}
use Rattle.std.specs.Prelude.{sum_by}
use Rattle.nr_state.specs.World.{account_tokens}
use Rattle.nr_worlds.proofs.tokens.of_accounts.Given as goal

abbrev pub invariant-loop-rest : goal.invariant-loop-rest
invariant-loop-rest l = record {
  total : l.sum + sum_by account_tokens l.rest ≡ sum_by account_tokens l.fn.accounts;
  fits : l.sum < 2 ^ 128;
}

abbrev pub decreases-loop-rest : goal.decreases-loop-rest
decreases-loop-rest l = length l.rest
