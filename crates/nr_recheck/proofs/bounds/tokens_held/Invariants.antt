-- What holds at the loops of `bounds::tokens_held`.
use Rattle.std.proofs.Common.{◌≡◌, ◌<◌, ◌^◌, sum_by, take}
use Rattle.nr_state.specs.World.{account_tokens}
use Rattle.nr_recheck.proofs.bounds.tokens_held.Given as goal

abbrev pub invariant-loop-account : goal.invariant-loop-account
invariant-loop-account l = record {
  so_far : l.sum ≡ sum_by account_tokens (take l.account-index l.list);
  fits : l.sum < 2 ^ 128;
}
