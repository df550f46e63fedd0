-- The goals of `crossing::cross` that no tactic closes.
use Rattle.std.proofs.Common.{sym, ap, subst, ◌∙◌}
use Rattle.nr_chunk.specs.Chain.{Chain, rules_of}
use Rattle.nr_chunk.specs.Runs.{chain_in}
use Rattle.nr_chunk.specs.Start.{start_tokens}
use Rattle.nr_course.specs.Course.{CanTurn, second}
use Rattle.nr_course.specs.Totals.{past_in}
use Rattle.nr_legs.specs.Legs.{cut_start}
use Rattle.nr_overlap.specs.Outcome.{last_worlds, lists_left}
use Rattle.nr_overlap.specs.Run.{ending}
use Rattle.nr_places.specs.Totals.{tally_at}
use Rattle.nr_course.proofs.crossing.cross.Goals as goal

pub tokens_of-supply-requires : goal.tokens_of-supply-requires
tokens_of-supply-requires g c =
    c.in_ok-tally.ensures
    ∙ ap (λ run. tally_at (chain_in run) (ending (rules_of (chain_in run)))) (sym c.chain.ensures)

pub behind-requires-clause-can : goal.behind-requires-clause-can
behind-requires-clause-can g c =
    subst (λ run. CanTurn (chain_in run) c.args.turn) (sym c.into_parts-chain.ensures.chain) c.requires

pub behind-requires-clause-worlds : goal.behind-requires-clause-worlds
behind-requires-clause-worlds g c =
    c.into_parts-chain.ensures.worlds
    ∙ ap (λ run. last_worlds (rules_of (chain_in run))) (sym c.into_parts-chain.ensures.chain)

pub behind-requires-clause-left : goal.behind-requires-clause-left
behind-requires-clause-left g c =
    c.into_parts-chain.ensures.left ∙ ap (λ run. lists_left (rules_of (chain_in run))) (sym c.into_parts-chain.ensures.chain)

pub returns-clause-chain : goal.returns-clause-chain
returns-clause-chain g c =
    c.in_ok-chain.ensures ∙ ap (λ run. second (chain_in run) c.args.turn) c.into_parts-chain.ensures.chain

pub returns-clause-past : goal.returns-clause-past
returns-clause-past g c = c.past_in-past.ensures ∙ ap past_in c.in_ok-tally.ensures

pub returns-clause-supply : goal.returns-clause-supply
returns-clause-supply g c =
    c.tokens_of-supply.ensures c.args.turn
    (subst (λ run. CanTurn (chain_in run) c.args.turn) (sym c.chain.ensures) c.requires)
    ∙ ap (λ run. start_tokens run.config (cut_start (chain_in run) c.args.turn.layout)) c.chain.ensures
    ∙ sym (ap (λ (y : Chain). start_tokens y.config y.start) (c.in_ok-chain.ensures
    ∙ ap (λ run. second (chain_in run) c.args.turn) c.into_parts-chain.ensures.chain))
