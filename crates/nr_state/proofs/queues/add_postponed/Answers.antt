-- The goals of `queues::add_postponed` that no tactic closes.
use Rattle.nr_state.specs.Changes.{with_postponed}
use Rattle.nr_state.specs.Queues.{more_postponed}
use Rattle.nr_state.proofs.WorldChanges.{Shows, are_postponed, fits_shown, moved}
use Rattle.nr_state.proofs.Worlds.{postponed_fits}
use Rattle.nr_state.proofs.Postponed.{postponed_more}
use Rattle.nr_state.proofs.queues.add_postponed.Goals as goal

pub invariant_of-state-2 : goal.invariant_of-state-2
invariant_of-state-2 g c =
    let shows : Shows c.state.inside.columns c.state.inside.config c.state.inside.whole c.args.state.now = record { is = c.state.invariant; view = c.state.view_is; whole_before = c.requires.whole } in
    (moved shows (λ k. more_postponed k c.args.receipt.now) _ (with_postponed c.args.state.now.world c.args.receipt.now) c.in_ok-put_postponed.ensures.ok
    (postponed_more _ _ (are_postponed shows) c.requires.distinct c.requires.id c.requires.inputs) (postponed_fits _ (fits_shown shows) c.args.receipt.now c.in_ok-put_postponed.ensures.fits)).0

pub returns : goal.returns
returns g c =
    let shows : Shows c.state.inside.columns c.state.inside.config c.state.inside.whole c.args.state.now = record { is = c.state.invariant; view = c.state.view_is; whole_before = c.requires.whole } in
    record {
      ok = (moved shows (λ k. more_postponed k c.args.receipt.now) _ (with_postponed c.args.state.now.world c.args.receipt.now) c.in_ok-put_postponed.ensures.ok
          (postponed_more _ _ (are_postponed shows) c.requires.distinct c.requires.id c.requires.inputs) (postponed_fits _ (fits_shown shows) c.args.receipt.now c.in_ok-put_postponed.ensures.fits)).1;
    }
