-- What holds at the loops of `tally::tokens_in`.
use Rattle.std.proofs.Common.{◌≡◌, ◌+◌, drop}
use Rattle.nr_chunk.specs.Chain.{AreBounded}
use Rattle.nr_chunk.proofs.tally.tokens_in.Given as goal
use Rattle.nr_state.specs.Tokens.{list_tokens}

-- the sum so far and what is left make the whole
abbrev pub invariant-loop-receipt : goal.invariant-loop-receipt
invariant-loop-receipt l = record {
  sum : l.sum + list_tokens l.config (drop l.receipt-index l.list) ≡ list_tokens l.config l.list;
  left : AreBounded l.config (drop l.receipt-index l.list);
}
