-- The goals of `queues::remove_received` that no tactic closes.
use Rattle.std.specs.FinMap as map
use Rattle.nr_state.specs.Changes.{without_received}
use Rattle.nr_state.specs.Queues.{less_received}
use Rattle.nr_state.proofs.WorldChanges.{Shows, are_postponed, fits_shown, moved}
use Rattle.nr_state.proofs.Worlds.{used_fits}
use Rattle.nr_state.proofs.Received.{received_less}
use Rattle.nr_state.proofs.queues.remove_received.Goals as goal

pub invariant_of-state-2 : goal.invariant_of-state-2
invariant_of-state-2 g c =
    let shows : Shows c.state.inside.columns c.state.inside.config c.state.inside.whole c.args.state.now = record { is = c.state.invariant; view = c.state.view_is; whole_before = c.requires.whole } in
    (moved shows (λ k. less_received k c.args.receiver.now c.args.data_id.now (map.get k.received (c.args.receiver.now, c.args.data_id.now.0))) _ (without_received c.args.state.now.world c.args.receiver.now c.args.data_id.now) c.in_ok-found.ensures.ok
    (received_less _ _ _ (are_postponed shows)) (used_fits _ (fits_shown shows) c.args.receiver.now c.args.data_id.now)).0
