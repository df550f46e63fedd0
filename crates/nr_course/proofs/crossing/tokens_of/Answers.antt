-- The goals of `crossing::tokens_of` that no tactic closes.
use Rattle.std.proofs.Common.{arith}
use Rattle.nr_chunk.specs.Runs.{chain_in}
use Rattle.nr_course.proofs.Ends.{tokens_fit, tokens_on}
use Rattle.nr_course.proofs.crossing.tokens_of.Goals as goal

pub overflow_add-result : goal.overflow_add-result
overflow_add-result g c =
    omega (arith, tokens_fit (chain_in c.args.chain.now) c.shards.ensures.run c.args.tally.now c.requires)

pub returns : goal.returns
returns g c =
    λ t can.
    tokens_on (chain_in c.args.chain.now) t c.shards.ensures.run can c.args.tally.now _ c.requires (omega arith)
