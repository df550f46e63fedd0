-- The goals of `tally::tally_state` that no tactic closes.
use Rattle.std.proofs.Common.{List, length, sym, ap, subst, ◌∙◌}
use Rattle.std.specs.Prelude.{sum_by}
use Rattle.nr_chunk.specs.Chain.{AreBounded}
use Rattle.nr_chunk.proofs.Tallied.{tally_is}
use Rattle.nr_chunk.proofs.Values.{all_values}
use Rattle.nr_chunk.proofs.tally.tally_state.Goals as goal
use Rattle.nr_records.specs.declared.account.Account.{Account}
use Rattle.nr_records.specs.declared.receipt.Receipt.{Receipt}
use Rattle.nr_state.specs.Tokens.{list_tokens}
use Rattle.nr_state.specs.World.{account_tokens}
use Rattle.nr_state.specs.Valid.{IsBounded}
use Rattle.nr_state.proofs.Awaiting.{pair_total, pair_exact}

pub tokens_in-requires-clause-bounded : goal.tokens_in-requires-clause-bounded
tokens_in-requires-clause-bounded c =
    let config = c.args.config.now in
    let w = c.args.state.now.world in
    subst (λ (list : List Receipt). AreBounded config list) (sym (c.inner.ensures ∙ c.in_ok-postponed.ensures)) (all_values _ pair_total pair_exact (IsBounded config) w.postponed c.requires.valid.waiting.bounded)

pub returns : goal.returns
returns c =
    let config = c.args.config.now in
    let w = c.args.state.now.world in
    tally_is config w c.tokens_held.result c.tokens_in.result c.tokens_in-2.result _ _
    (c.tokens_held.ensures ∙ ap (λ (list : List Account). sum_by account_tokens list) (c.inner-5.ensures ∙ c.in_ok-held.ensures))
    (c.tokens_in.ensures ∙ ap (λ (list : List Receipt). list_tokens config list) (c.inner.ensures ∙ c.in_ok-postponed.ensures))
    (c.tokens_in-2.ensures ∙ ap (λ (list : List Receipt). list_tokens config list) (c.inner-2.ensures ∙ c.in_ok-delayed.ensures))
    (ap (λ (list : List Receipt). length list) (c.inner-3.ensures ∙ c.in_ok-postponed.ensures))
    (ap (λ (list : List Receipt). length list) (c.inner-4.ensures ∙ c.in_ok-delayed.ensures))
