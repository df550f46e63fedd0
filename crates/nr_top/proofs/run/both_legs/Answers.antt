-- The goals of `run::both_legs` that no tactic closes.
use Rattle.std.proofs.Common.{ap, ◌∙◌}
use Rattle.nr_chunk.specs.Runs.{chain_in}
use Rattle.nr_top.proofs.BothLegs.{both_is}
use Rattle.nr_top.proofs.run.both_legs.Goals as goal

pub returns : goal.returns
returns c =
    both_is (chain_in c.args.outcome.chain) (chain_in c.in_ok-last.last.chain) c.args.turn c.args.supply
    c.in_ok-first.first c.in_ok-more.more c.in_ok-text.text c.write_totals.new.out c.in_ok-crossed.crossed.past
    c.in_ok-totals.totals
    (ap (λ run. chain_in run) c.in_ok-last.ensures ∙ c.in_ok-crossed.ensures.chain)
    c.in_ok-first.ensures c.in_ok-more.ensures c.in_ok-text.ensures c.in_ok-crossed.ensures.past
    c.in_ok-totals.ensures c.in_ok-write_totals.ensures.ok
