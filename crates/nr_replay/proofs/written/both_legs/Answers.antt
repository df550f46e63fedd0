-- The goals of `written::both_legs` that no tactic closes.
use Rattle.std.proofs.Common.{sym, ap, ◌∙◌}
use Rattle.nr_course.specs.Texts.{leg_text}
use Rattle.nr_replay.specs.Chains.{chain_in}
use Rattle.nr_top.proofs.BothLegs.{both_is}
use Rattle.nr_replay.proofs.written.both_legs.Goals as goal

pub returns : goal.returns
returns g c =
    let last = c.in_ok-last.last in
    let same = ap (λ run. chain_in run) c.in_ok-last.ensures.chain in
    both_is (chain_in c.args.outcome.chain) (chain_in last.outcome.chain) c.args.turn c.args.supply
    c.args.first last.text c.in_ok-text.text c.write_totals.new.out c.in_ok-crossed.crossed.past
    c.in_ok-totals.totals (same ∙ c.in_ok-crossed.ensures.chain)
    c.requires.first (c.in_ok-last.ensures.text ∙ ap leg_text (sym same)) c.in_ok-text.ensures c.in_ok-crossed.ensures.past
    c.in_ok-totals.ensures c.in_ok-write_totals.ensures.ok
