-- The goals of `serving::offer_to` that no tactic closes.
use Rattle.std.proofs.Common.{◌≡◌, ◌∷◌, [], sym, ap, subst, ◌∙◌}
use Rattle.nr_chunk.specs.Chunk.{told}
use Rattle.nr_chunk.specs.Serving.{CanServe}
use Rattle.nr_chunk.specs.Views.{Working}
use Rattle.nr_chunk.specs.Works.{working_of}
use Rattle.nr_chunk.specs.Served.{run_action, run_can, clash_can}
use Rattle.nr_chunk.proofs.serving.offer_to.Goals as goal
use Rattle.nr_join.specs.declared.offered.Offered.{Offered}
use Rattle.nr_state.specs.View.{StateView}
use Rattle.nr_state.specs.World.{World}

pub run-requires-clause-action : goal.run-requires-clause-action
run-requires-clause-action g c =
    let after : World = c.offer.new.state.world in
    run_action c.args.chain.now.config (g.C.Caller.meaning c.args.chain.now.caller) c.promise.ensures (working_of c.args.work.now) c.args.receipt after c.in-Run.receipt c.in-Run.inputs c.requires.can
    (c.in_ok-receipt.ensures.0 ∙ ap (λ (o : Offered). (after, o)) c.in-Run.is)

pub run-requires-clause-can : goal.run-requires-clause-can
run-requires-clause-can g c =
    let after : World = c.offer.new.state.world in
    let k : Working = working_of c.args.work.now in
    let r = c.args.receipt in
    let moved : working_of (record c.args.work.now { state = c.offer.new.state }) ≡ record k { world = after } = ap (λ (s : StateView). working_of (record c.args.work.now { state = s })) c.in_ok-receipt.ensures.1 in
    let is : working_of c.tell_datum.new.work ≡ told (record k { world = after }) r r.body = c.in_ok-tell_datum-in-Run.ensures.told r c.datum_of-datum.ensures ∙ ap (λ (t : Working). told t r r.body) moved in
    subst (λ (t : Working). CanServe c.args.chain.now.config t (c.in-Run.receipt ∷ [])) (sym is)
    (run_can c.args.chain.now.config (g.C.Caller.meaning c.args.chain.now.caller) c.promise.ensures k r after c.in-Run.receipt c.in-Run.inputs c.requires.can (c.in_ok-receipt.ensures.0 ∙ ap (λ (o : Offered). (after, o)) c.in-Run.is))

pub clash-requires-clause-can : goal.clash-requires-clause-can
clash-requires-clause-can g c =
    let after : World = c.offer.new.state.world in
    let k : Working = working_of c.args.work.now in
    let moved : working_of (record c.args.work.now { state = c.offer.new.state }) ≡ record k { world = after } = ap (λ (s : StateView). working_of (record c.args.work.now { state = s })) c.in_ok-receipt.ensures.1 in
    subst (λ (t : Working). CanServe c.args.chain.now.config t (c.in-Clash.receipt ∷ [])) (sym moved)
    (clash_can c.args.chain.now.config (g.C.Caller.meaning c.args.chain.now.caller) c.promise.ensures k c.args.receipt after c.in-Clash.receipt c.in-Clash.held c.requires.can (c.in_ok-receipt.ensures.0 ∙ ap (λ (o : Offered). (after, o)) c.in-Clash.is))
