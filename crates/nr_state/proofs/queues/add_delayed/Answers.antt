-- The goals of `queues::add_delayed` that no tactic closes.
use Rattle.std.proofs.Common.{arith, ap}
use Rattle.nr_state.specs.Changes.{with_delayed}
use Rattle.nr_state.specs.Queues.{next_in, more_delayed}
use Rattle.nr_state.proofs.WorldChanges.{Shows, columns_shown, are_postponed, fits_shown, moved}
use Rattle.nr_state.proofs.Worlds.{delayed_fits}
use Rattle.nr_state.proofs.Queue.{next_there, delayed_more}
use Rattle.nr_state.proofs.queues.add_delayed.Goals as goal

pub invariant_of-state-2 : goal.invariant_of-state-2
invariant_of-state-2 g c =
    let shows : Shows c.state.inside.columns c.state.inside.config c.state.inside.whole c.args.state.now = record { is = c.state.invariant; view = c.state.view_is; whole_before = c.requires.whole } in
    (moved shows (λ k. more_delayed k k.queue c.args.receipt.now) _
    (with_delayed c.args.state.now.world c.args.receipt.now) c.in_ok-put_delayed.ensures.ok
    (delayed_more _ _ (are_postponed shows))
    (delayed_fits _ (fits_shown shows) c.args.receipt.now c.in_ok-put_delayed.ensures.fits
    (omega (
      arith,
      c.in_ok-put_delayed.ensures.room,
      ap (λ k. next_in k.queue) (columns_shown shows),
      next_there c.args.state.now.world,
    )))).0

pub returns : goal.returns
returns g c =
    let shows : Shows c.state.inside.columns c.state.inside.config c.state.inside.whole c.args.state.now = record { is = c.state.invariant; view = c.state.view_is; whole_before = c.requires.whole } in
    record {
      ok =
          (moved shows (λ k. more_delayed k k.queue c.args.receipt.now) _
          (with_delayed c.args.state.now.world c.args.receipt.now) c.in_ok-put_delayed.ensures.ok
          (delayed_more _ _ (are_postponed shows))
          (delayed_fits _ (fits_shown shows) c.args.receipt.now c.in_ok-put_delayed.ensures.fits
          (omega (
            arith,
            c.in_ok-put_delayed.ensures.room,
            ap (λ k. next_in k.queue) (columns_shown shows),
            next_there c.args.state.now.world,
          )))).1;
      room = omega (arith, c.in_ok-put_delayed.ensures.room, ap (λ k. next_in k.queue) (columns_shown shows), next_there c.args.state.now.world);
    }
