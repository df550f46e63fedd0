-- The goals of `queues::take_postponed` that no tactic closes.
use Rattle.std.specs.FinMap as map
use Rattle.nr_state.specs.Changes.{without_postponed}
use Rattle.nr_state.specs.Queues.{less_postponed}
use Rattle.nr_state.proofs.WorldChanges.{Shows, are_postponed, fits_shown, moved}
use Rattle.nr_state.proofs.Worlds.{released_fits}
use Rattle.nr_state.proofs.Postponed.{postponed_less}
use Rattle.nr_state.proofs.queues.take_postponed.Goals as goal

pub invariant_of-state-2 : goal.invariant_of-state-2
invariant_of-state-2 g c =
    let shows : Shows c.state.inside.columns c.state.inside.config c.state.inside.whole c.args.state.now = record { is = c.state.invariant; view = c.state.view_is; whole_before = c.requires.whole } in
    (moved shows (λ k. less_postponed k c.args.receiver.now c.args.receipt_id.now (map.get k.postponed (c.args.receiver.now, c.args.receipt_id.now.0))) _ (without_postponed c.args.state.now.world c.args.receiver.now c.args.receipt_id.now) c.in_ok-receipt.ensures.ok
    (postponed_less _ _ _ (are_postponed shows)) (released_fits _ (fits_shown shows) c.args.receiver.now c.args.receipt_id.now)).0

pub returns-clause-ok : goal.returns-clause-ok
returns-clause-ok g c =
    let shows : Shows c.state.inside.columns c.state.inside.config c.state.inside.whole c.args.state.now = record { is = c.state.invariant; view = c.state.view_is; whole_before = c.requires.whole } in
    (moved shows (λ k. less_postponed k c.args.receiver.now c.args.receipt_id.now (map.get k.postponed (c.args.receiver.now, c.args.receipt_id.now.0))) _ (without_postponed c.args.state.now.world c.args.receiver.now c.args.receipt_id.now) c.in_ok-receipt.ensures.ok
    (postponed_less _ _ _ (are_postponed shows)) (released_fits _ (fits_shown shows) c.args.receiver.now c.args.receipt_id.now)).1
