-- What holds at the loops of `tokens::with_receipts`.
use Rattle.std.proofs.Common.{◌≡◌, ◌+◌, length}
use Rattle.std.specs.List.{list_all}
use Rattle.nr_state.specs.Tokens.{list_tokens}
use Rattle.nr_worlds.specs.Valid.{is_bounded}
use Rattle.nr_worlds.proofs.tokens.with_receipts.Given as goal

abbrev pub invariant-loop-rest : goal.invariant-loop-rest
invariant-loop-rest l = record {
  bounded : list_all (is_bounded l.config) l.rest ≡ list_all (is_bounded l.config) l.fn.receipts;
  tokens : l.sum + list_tokens l.config l.rest ≡ l.fn.before + list_tokens l.config l.fn.receipts;
}

abbrev pub decreases-loop-rest : goal.decreases-loop-rest
decreases-loop-rest l = length l.rest
