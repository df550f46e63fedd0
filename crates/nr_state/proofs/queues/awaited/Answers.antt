-- The goals of `queues::awaited` that no tactic closes.
use Rattle.std.proofs.Common.{◌≡◌, ap, sym, ◌∙◌}
use Rattle.std.specs.FinMap as map
use Rattle.std.proofs.lemmas.Result.{IfOk-weaker}
use Rattle.nr_state.specs.Queues.{WaitsFor}
use Rattle.nr_state.proofs.Awaiting.{waits_for}
use Rattle.nr_state.proofs.WorldChanges.{Shows, columns_shown, are_postponed}
use Rattle.nr_state.proofs.queues.awaited.Goals as goal

pub returns-clause-waits : goal.returns-clause-waits
returns-clause-waits g c =
    let shows : Shows c.state.inside.columns c.state.inside.config c.state.inside.whole c.args.state.now = record { is = c.state.invariant; view = c.state.view_is; whole_before = c.requires } in
    IfOk-weaker c.awaited.result (λ found. found ≡ map.get c.state.inside.columns.columns.awaited (c.args.receiver.now, c.args.data_id.now.0)) (λ found. WaitsFor c.args.state.now.world c.args.receiver.now c.args.data_id.now found)
    (λ found e. waits_for c.args.state.now.world (are_postponed shows) c.args.receiver.now c.args.data_id.now found
    (sym (e ∙ ap (λ k. map.get k.awaited (c.args.receiver.now, c.args.data_id.now.0)) (columns_shown shows)))) c.awaited.ensures
