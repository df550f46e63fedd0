-- What holds at the loops of `bounds::tokens_in`.
use Rattle.std.proofs.Common.{◌≡◌, ◌<◌, ◌^◌, true, take}
use Rattle.nr_state.specs.Tokens.{list_tokens}
use Rattle.nr_recheck.specs.Bounds.{are_bounded}
use Rattle.nr_recheck.proofs.bounds.tokens_in.Given as goal

abbrev pub invariant-loop-receipt : goal.invariant-loop-receipt
invariant-loop-receipt l = record {
  bounded : are_bounded l.config (take l.receipt-index l.list) ≡ true;
  so_far : l.sum ≡ list_tokens l.config (take l.receipt-index l.list);
  fits : l.sum < 2 ^ 128;
}
