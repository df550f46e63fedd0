-- The goals of `bounds::is_within` that no tactic closes.
use Rattle.std.proofs.Common.{◌+◌, ◌^◌, List, length, ap, subst, ◌∙◌}
use Rattle.std.specs.Prelude.{◌&&◌, nat_le, sum_by}
use Rattle.nr_fees.specs.Fees.{FitsIn}
use Rattle.nr_records.specs.declared.account.Account.{Account}
use Rattle.nr_records.specs.declared.receipt.Receipt.{Receipt}
use Rattle.nr_state.specs.Tokens.{list_tokens}
use Rattle.nr_state.specs.World.{account_tokens}
use Rattle.nr_recheck.specs.Bounds.{Counts, are_bounded}
use Rattle.nr_recheck.proofs.Sums.{within_is}
use Rattle.nr_recheck.proofs.bounds.is_within.Goals as goal

pub returns : goal.returns
returns c =
    let config = c.args.config.now in
    let w = c.args.state.now.world in
    let waits = c.tokens_waiting-waiting.result in
    let first = c.inner.result.now in
    c.both.ensures ∙ ap (λ b. b && c.is_few-few.result) c.has_room-room.ensures
    ∙ within_is config w c.args.taken.now c.tokens_held.result waits c.tokens_in.result c.is_few-few.result c.requires.valid
    (subst (λ (l : List Account). FitsIn 128 c.tokens_held.result (sum_by account_tokens l)) (c.inner-3.ensures ∙ c.in_ok-held.ensures) c.tokens_held.ensures)
    (subst (λ (l : List Receipt). Counts waits (are_bounded config l && are_bounded config w.delayed) (list_tokens config l + list_tokens config w.delayed)) (c.inner.ensures ∙ c.in_ok-postponed.ensures)
    (subst (λ (l : List Receipt). Counts waits (are_bounded config first && are_bounded config l) (list_tokens config first + list_tokens config l)) (c.inner-2.ensures ∙ c.in_ok-delayed.ensures) c.tokens_waiting-waiting.ensures))
    c.tokens_in.ensures
    (c.is_few-few.ensures ∙ (λ i. nat_le (c.in_ok-served.ensures i + length ((c.inner-4.ensures ∙ c.in_ok-delayed.ensures) i)) (2 ^ 63)))
