-- The goals of `serving::serve_delayed` that no tactic closes.
use Rattle.std.proofs.Common.{◌≡◌, ◌<◌, ◌∷◌, [], length, sym, ap, subst, ◌∙◌}
use Rattle.nr_chunk.specs.Chunk.{serve_delayed, serve}
use Rattle.nr_chunk.specs.Serving.{CanServe}
use Rattle.nr_chunk.specs.Views.{Working}
use Rattle.nr_chunk.specs.Works.{working_of}
use Rattle.nr_chunk.specs.Served.{can_front, can_after_front, queue_next, queue_falls, queue_stops, queue_ends, after_front}
use Rattle.nr_chunk.proofs.serving.serve_delayed.Goals as goal

pub serve-requires-clause-can : goal.serve-requires-clause-can
serve-requires-clause-can g c =
    let at = c.loop-alloc in
    subst (λ (t : Working). CanServe c.args.chain.now.config t (c.in-Some.receipt ∷ [])) (sym c.in_ok-receipt.ensures.taken)
    (can_front c.args.chain.now.config (g.C.Caller.meaning c.args.chain.now.caller) c.promise.ensures (working_of at.work) c.in-Some.receipt at.invariant.can (sym c.in_ok-receipt.ensures.found ∙ c.in-Some.is))

pub loop-alloc-smaller : goal.loop-alloc-smaller
loop-alloc-smaller g c =
    let at = c.loop-alloc in
    let config = c.args.chain.now.config in
    let call = g.C.Caller.meaning c.args.chain.now.caller in
    let k : Working = working_of at.work in
    let first = sym c.in_ok-receipt.ensures.found ∙ c.in-Some.is in
    let is : working_of c.serve.new.work ≡ after_front config call c.promise.ensures k c.in-Some.receipt = c.in_ok-serve.ensures.served ∙ ap (λ (t : Working). serve config call t c.in-Some.receipt) c.in_ok-receipt.ensures.taken in
    subst (λ (t : Working). length t.world.delayed < length k.world.delayed) (sym is) (queue_falls config call c.promise.ensures k c.in-Some.receipt at.invariant.can (sym c.has_gas.ensures ∙ c.loop-alloc-test.true) first)

pub loop-alloc-preserved : goal.loop-alloc-preserved
loop-alloc-preserved g c =
    let at = c.loop-alloc in
    let config = c.args.chain.now.config in
    let call = g.C.Caller.meaning c.args.chain.now.caller in
    let k : Working = working_of at.work in
    let first = sym c.in_ok-receipt.ensures.found ∙ c.in-Some.is in
    let is : working_of c.serve.new.work ≡ after_front config call c.promise.ensures k c.in-Some.receipt = c.in_ok-serve.ensures.served ∙ ap (λ (t : Working). serve config call t c.in-Some.receipt) c.in_ok-receipt.ensures.taken in
    record {
      ready = c.in_ok-serve.ensures.ready;
      can = subst (λ (t : Working). CanServe config t []) (sym is) (can_after_front config call c.promise.ensures k c.in-Some.receipt at.invariant.can first);
      served = ap (λ (t : Working). serve_delayed config call t) is ∙ queue_next config call c.promise.ensures k c.in-Some.receipt at.invariant.can (sym c.has_gas.ensures ∙ c.loop-alloc-test.true) first ∙ at.invariant.served;
    }

pub returns-after-loop-alloc-clause-served : goal.returns-after-loop-alloc-clause-served
returns-after-loop-alloc-clause-served g c =
    let at = c.loop-alloc in
    let k : Working = working_of at.work in
    sym (queue_stops c.args.chain.now.config (g.C.Caller.meaning c.args.chain.now.caller) c.promise.ensures k.world.delayed k (sym c.has_gas.ensures ∙ c.loop-alloc-test.false)) ∙ at.invariant.served

pub returns-in_default-clause-served : goal.returns-in_default-clause-served
returns-in_default-clause-served g c =
    let at = c.loop-alloc in
    let k : Working = working_of at.work in
    c.in_ok-receipt.ensures.taken ∙ sym (queue_ends c.args.chain.now.config (g.C.Caller.meaning c.args.chain.now.caller) c.promise.ensures k (sym c.in_ok-receipt.ensures.found ∙ c.in_default.is)) ∙ at.invariant.served
