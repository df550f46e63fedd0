-- What holds at the loops of `sums::sum_worlds`.
use Rattle.std.proofs.Common.{◌≡◌, drop}
use Rattle.std.specs.List.{AllByRecursion}
use Rattle.nr_chunk.specs.Chain.{IsCountable}
use Rattle.nr_chunk.specs.Tallies.{tally_world}
use Rattle.nr_outcome.specs.Sums.{sum_of, sum_on}
use Rattle.nr_outcome.proofs.sums.sum_worlds.Given as goal

-- the sum so far, and what is left behind it
abbrev pub invariant-loop-world : goal.invariant-loop-world
invariant-loop-world g l = record {
  sum : sum_on (λ w. tally_world l.chain.config w) l.sum (drop l.world-index l.worlds) ≡ sum_of (λ w. tally_world l.chain.config w) l.worlds;
  left : AllByRecursion (IsCountable l.chain.config) (drop l.world-index l.worlds);
}
