-- What holds at the loops of `sums::sum_lists`.
use Rattle.std.proofs.Common.{◌≡◌, ◌≤◌, ◌^◌, drop}
use Rattle.std.specs.List.{AllByRecursion}
use Rattle.nr_chunk.specs.Chain.{AreBounded}
use Rattle.nr_chunk.specs.Tallies.{tally_list}
use Rattle.nr_state.specs.Tokens.{list_tokens}
use Rattle.nr_outcome.specs.Sums.{sum_of, sum_on}
use Rattle.nr_outcome.proofs.sums.sum_lists.Given as goal

-- the sum so far, and what is left behind it
abbrev pub invariant-loop-sent : goal.invariant-loop-sent
invariant-loop-sent g l = record {
  sum : sum_on (λ x. tally_list l.chain.config x.3) l.sum (drop l.sent-index l.left) ≡ sum_of (λ x. tally_list l.chain.config x.3) l.left;
  bounded : AllByRecursion (λ x. AreBounded l.chain.config x.3) (drop l.sent-index l.left);
  small : AllByRecursion (λ x. list_tokens l.chain.config x.3 ≤ 2 ^ 127) (drop l.sent-index l.left);
}
