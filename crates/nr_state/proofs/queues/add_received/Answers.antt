-- The goals of `queues::add_received` that no tactic closes.
use Rattle.nr_state.specs.Changes.{with_received}
use Rattle.nr_state.specs.Queues.{more_received}
use Rattle.nr_state.proofs.WorldChanges.{Shows, are_postponed, fits_shown, moved}
use Rattle.nr_state.proofs.Worlds.{received_fits}
use Rattle.nr_state.proofs.Received.{received_more}
use Rattle.nr_state.proofs.queues.add_received.Goals as goal

pub invariant_of-state-2 : goal.invariant_of-state-2
invariant_of-state-2 g c =
    let shows : Shows c.state.inside.columns c.state.inside.config c.state.inside.whole c.args.state.now = record { is = c.state.invariant; view = c.state.view_is; whole_before = c.requires.whole } in
    (moved shows (λ k. more_received k c.args.receiver.now c.args.data_id.now c.args.bytes.now) _ (with_received c.args.state.now.world c.args.receiver.now c.args.data_id.now c.args.bytes.now) c.in_ok-put_received.ensures.ok
    (received_more _ _ _ _ (are_postponed shows) c.requires.new) (received_fits _ (fits_shown shows) c.args.receiver.now c.args.data_id.now c.args.bytes.now c.in_ok-put_received.ensures.fits.0 c.in_ok-put_received.ensures.fits.1.0 c.in_ok-put_received.ensures.fits.1.1)).0
