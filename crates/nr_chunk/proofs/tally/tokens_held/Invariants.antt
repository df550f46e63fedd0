-- What holds at the loops of `tally::tokens_held`.
use Rattle.std.proofs.Common.{◌≡◌, ◌+◌, drop}
use Rattle.std.specs.Prelude.{sum_by}
use Rattle.nr_chunk.proofs.tally.tokens_held.Given as goal
use Rattle.nr_state.specs.World.{account_tokens}

-- the sum so far and what is left make the whole
abbrev pub invariant-loop-account : goal.invariant-loop-account
invariant-loop-account l = record {
  sum : l.sum + sum_by account_tokens (drop l.account-index l.list) ≡ sum_by account_tokens l.list;
}
