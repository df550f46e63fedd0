-- The goals of `serving::serve_all` that no tactic closes.
use Rattle.std.proofs.Common.{◌≡◌, ◌∷◌, List, sym, ap, subst, ◌∙◌}
use Rattle.std.specs.Vec.Iter.{into_iter_items}
use Rattle.nr_chunk.specs.Chunk.{serve_all}
use Rattle.nr_chunk.specs.Serving.{CanServe}
use Rattle.nr_chunk.specs.Views.{Working}
use Rattle.nr_chunk.specs.Works.{working_of}
use Rattle.nr_chunk.specs.Served.{can_first, can_go_on}
use Rattle.nr_chunk.proofs.serving.serve_all.Goals as goal
use Rattle.nr_records.specs.declared.receipt.Receipt.{Receipt}

pub serve-requires-clause-can : goal.serve-requires-clause-can
serve-requires-clause-can g c =
    let at = c.loop-receipt in
    let config = c.args.chain.now.config in
    let rest : List Receipt = into_iter_items c.next.new.self in
    can_first config (g.C.Caller.meaning c.args.chain.now.caller) c.promise.ensures (working_of at.work) c.in-Some.receipt rest (subst (λ (list : List Receipt). CanServe config (working_of at.work) list) c.in-Some.ensures.steps.0 at.invariant.can)

pub loop-receipt-preserved : goal.loop-receipt-preserved
loop-receipt-preserved g c =
    let at = c.loop-receipt in
    let config = c.args.chain.now.config in
    let call = g.C.Caller.meaning c.args.chain.now.caller in
    let k : Working = working_of at.work in
    let r : Receipt = c.in-Some.receipt in
    let rest : List Receipt = into_iter_items c.next.new.self in
    let steps : into_iter_items at.receipt-iterator ≡ r ∷ rest = c.in-Some.ensures.steps.0 in
    record {
      ready = c.in_ok-serve.ensures.ready;
      can = subst (λ (t : Working). CanServe config t rest) (sym c.in_ok-serve.ensures.served) (can_go_on config call c.promise.ensures k r rest (subst (λ (list : List Receipt). CanServe config k list) steps at.invariant.can));
      served = ap (λ (t : Working). serve_all config call t rest) c.in_ok-serve.ensures.served ∙ ap (λ (list : List Receipt). serve_all config call k list) (sym steps) ∙ at.invariant.served;
    }
