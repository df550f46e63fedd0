-- The goals of `lists::items_of` that no tactic closes.
use Rattle.std.specs.Prelude.{◌≢◌}
use Rattle.nr_json.specs.Faults.{item_step}
use Rattle.nr_json.specs.declared.fault.JsonFault.TheVariants.{Memory}
use Rattle.nr_json.proofs.Loops.{goes_on, ends, is_done, below}
use Rattle.nr_json.proofs.lists.items_of.Goals as goal

pub returns-in-Err : goal.returns-in-Err
returns-in-Err g c = λ other.
    let told = c.in_item.ensures other in
    let kept : c.in-Err.fault ≢ Memory = below (item_step c.loop-number.number) c.in-Err.fault c.in_item.result told other in
    rw told (ends g.T.Form.reading c.loop-number.number c.loop-number.items.items c.args.values.now c.index-values-number.result c.in-Err.fault c.loop-number-test.true (rw (← c.index-values-number.is) (c.in-Err.ensures kept)) c.loop-number.invariant)

pub loop-number-preserved : goal.loop-number-preserved
loop-number-preserved g c =
    rw c.in_ok-push-in-Ok.ensures.items (goes_on g.T.Form.reading c.loop-number.number c.loop-number.items.items c.args.values.now c.index-values-number.result c.in-Ok.item c.loop-number-test.true (rw (← c.index-values-number.is) c.in-Ok.ensures) c.loop-number.invariant)

pub returns : goal.returns
returns g c = is_done g.T.Form.reading c.loop-number.number c.loop-number.items.items c.args.values.now c.loop-number-test.false c.loop-number.invariant
