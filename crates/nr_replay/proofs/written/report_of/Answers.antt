-- The goals of `written::report_of` that no tactic closes.
use Rattle.std.proofs.Common.{sym, ap, ◌∙◌}
use Rattle.nr_chunk.specs.Start.{start_tokens}
use Rattle.nr_course.specs.Texts.{leg_text}
use Rattle.nr_replay.specs.Chains.{chain_in}
use Rattle.nr_top.specs.Run.{loaded}
use Rattle.nr_top.proofs.BothLegs.{can_turn, report_is}
use Rattle.nr_replay.proofs.written.report_of.Goals as goal

pub reported-requires-clause-first : goal.reported-requires-clause-first
reported-requires-clause-first g c = λ κs within.
    c.in_ok-leg.ensures.text ∙ ap leg_text (sym (ap (λ run. chain_in run) c.in_ok-leg.ensures.chain))

pub reported-requires-clause-can : goal.reported-requires-clause-can
reported-requires-clause-can g c = λ κs within.
    can_turn (loaded c.args.files) (chain_in c.in_ok-leg.leg.outcome.chain) c.in_ok-begun.begun.turn
    (ap (λ run. chain_in run) c.in_ok-leg.ensures.chain ∙ c.in_ok-begun.ensures.first) c.in_ok-begun.ensures.turn
    c.requires.can

pub returns : goal.returns
returns g c =
    let same = ap (λ run. chain_in run) c.in_ok-leg.ensures.chain in
    report_is (loaded c.args.files) (chain_in c.in_ok-leg.leg.outcome.chain) c.in_ok-begun.begun.turn
    c.in_ok-begun.begun.supply c.in_ok-text.text (same ∙ c.in_ok-begun.ensures.first) c.in_ok-begun.ensures.turn
    (c.in_ok-begun.ensures.supply ∙ ap (λ run. start_tokens run.config run.grounds.start) (sym c.in_ok-leg.ensures.chain))
    c.in_ok-text.ensures
