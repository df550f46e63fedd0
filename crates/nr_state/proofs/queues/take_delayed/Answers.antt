-- The goals of `queues::take_delayed` that no tactic closes.
use Rattle.std.proofs.Common.{ap, ◌∙◌}
use Rattle.nr_state.specs.Changes.{served_front}
use Rattle.nr_state.specs.Queues.{front_in, less_delayed}
use Rattle.nr_state.proofs.WorldChanges.{Shows, columns_shown, are_postponed, fits_shown, moved}
use Rattle.nr_state.proofs.Worlds.{served_fits}
use Rattle.nr_state.proofs.Queue.{front_there, delayed_less}
use Rattle.nr_state.proofs.queues.take_delayed.Goals as goal

pub invariant_of-state-2 : goal.invariant_of-state-2
invariant_of-state-2 g c =
    let shows : Shows c.state.inside.columns c.state.inside.config c.state.inside.whole c.args.state.now = record { is = c.state.invariant; view = c.state.view_is; whole_before = c.requires.whole } in
    (moved shows (λ k. less_delayed k k.queue) _ (served_front c.args.state.now.world c.args.state.now.world.delayed) c.in_ok-receipt.ensures.ok (delayed_less _ (are_postponed shows)) (served_fits _ (fits_shown shows))).0

pub returns-clause-found : goal.returns-clause-found
returns-clause-found g c =
    let shows : Shows c.state.inside.columns c.state.inside.config c.state.inside.whole c.args.state.now = record { is = c.state.invariant; view = c.state.view_is; whole_before = c.requires.whole } in
    c.in_ok-receipt.ensures.found ∙ ap (λ k. front_in k k.queue) (columns_shown shows) ∙ front_there c.args.state.now.world

pub returns-clause-ok : goal.returns-clause-ok
returns-clause-ok g c =
    let shows : Shows c.state.inside.columns c.state.inside.config c.state.inside.whole c.args.state.now = record { is = c.state.invariant; view = c.state.view_is; whole_before = c.requires.whole } in
    (moved shows (λ k. less_delayed k k.queue) _ (served_front c.args.state.now.world c.args.state.now.world.delayed) c.in_ok-receipt.ensures.ok (delayed_less _ (are_postponed shows)) (served_fits _ (fits_shown shows))).1
