-- The goals of `run::report` that no tactic closes.
use Rattle.std.proofs.Common.{sym, ap, ◌∙◌}
use Rattle.nr_chunk.specs.Runs.{chain_in}
use Rattle.nr_chunk.specs.Start.{start_tokens}
use Rattle.nr_top.specs.Run.{loaded}
use Rattle.nr_top.proofs.BothLegs.{can_turn, report_is}
use Rattle.nr_top.proofs.run.report.Goals as goal

pub reported-requires-clause-can : goal.reported-requires-clause-can
reported-requires-clause-can c =
    can_turn (loaded c.args.files) (chain_in c.in_ok-outcome.outcome.chain) c.in_ok-begun.begun.turn
    (ap (λ run. chain_in run) c.in_ok-outcome.ensures ∙ c.in_ok-begun.ensures.first) c.in_ok-begun.ensures.turn
    c.requires.can

pub returns : goal.returns
returns c =
    let same = ap (λ run. chain_in run) c.in_ok-outcome.ensures in
    report_is (loaded c.args.files) (chain_in c.in_ok-outcome.outcome.chain) c.in_ok-begun.begun.turn
    c.in_ok-begun.begun.supply c.in_ok-text.text (same ∙ c.in_ok-begun.ensures.first) c.in_ok-begun.ensures.turn
    (c.in_ok-begun.ensures.supply ∙ ap (λ run. start_tokens run.config run.grounds.start) (sym c.in_ok-outcome.ensures))
    c.in_ok-text.ensures
