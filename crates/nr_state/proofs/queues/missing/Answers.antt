-- The goals of `queues::missing` that no tactic closes.
use Rattle.std.proofs.Common.{◌≡◌, ap, ◌∙◌}
use Rattle.std.specs.FinMap as map
use Rattle.std.specs.Option.{option_map}
use Rattle.std.proofs.lemmas.Result.{IfOk-weaker}
use Rattle.nr_state.specs.Flat.{missing_inputs}
use Rattle.nr_state.proofs.Missing.{missing_at}
use Rattle.nr_state.proofs.WorldChanges.{Shows, columns_shown}
use Rattle.nr_state.proofs.queues.missing.Goals as goal

pub returns-clause-inputs : goal.returns-clause-inputs
returns-clause-inputs g c =
    let shows : Shows c.state.inside.columns c.state.inside.config c.state.inside.whole c.args.state.now = record { is = c.state.invariant; view = c.state.view_is; whole_before = c.requires } in
    IfOk-weaker c.missing.result (λ found. found ≡ map.get c.state.inside.columns.columns.missing (c.args.receiver.now, c.args.receipt_id.now.0))
    (λ found. found ≡ option_map (missing_inputs c.args.state.now.world) (map.get c.args.state.now.world.postponed (c.args.receiver.now, c.args.receipt_id.now.0)))
    (λ found e. e ∙ ap (λ k. map.get k.missing (c.args.receiver.now, c.args.receipt_id.now.0)) (columns_shown shows)
    ∙ missing_at c.args.state.now.world (c.args.receiver.now, c.args.receipt_id.now.0)) c.missing.ensures
