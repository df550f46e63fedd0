-- The goals of `section::body_items` that no tactic closes.
use Rattle.std.proofs.lemmas.Result.{err_from_is_err_and}
use Rattle.nr_bytes.specs.Fields.{items_at}
use Rattle.nr_bytes.proofs.Items.{goes_on, ends, is_done}
use Rattle.nr_wasmbin.proofs.OnFields.{items_begin}
use Rattle.nr_wasmbin.specs.Modules.{body_at}
use Rattle.nr_wasmbin.proofs.section.body_items.Goals as goal

pub loop-init : goal.loop-init
loop-init c = items_begin body_at c.in_ok-items.items.items c.args.count c.args.cursor.now c.in_ok-items.ensures.items

pub returns-in_err-item : goal.returns-in_err-item
returns-in_err-item c =
    let p = err_from_is_err_and c.from_residual-in_err-item.result c.from_residual-in_err-item.ensures.1 in
    rw (p.1, p.2) (λ other. ends body_at c.loop.items.items c.args.count c.loop.counter c.loop.cursor c.in_err-item.field-0.0 (items_at body_at c.args.count c.args.cursor.now) c.loop-test.true (c.in_err-item.ensures other) c.loop.invariant)

pub loop-preserved : goal.loop-preserved
loop-preserved c = rw c.in_ok-push.ensures.items (goes_on body_at c.loop.items.items c.args.count c.loop.counter c.loop.cursor c.in_ok-item.item c.read_body.new.cursor (items_at body_at c.args.count c.args.cursor.now) c.loop-test.true c.in_ok-item.ensures c.loop.invariant)

pub returns : goal.returns
returns c = is_done body_at c.loop.items.items c.args.count c.loop.counter c.loop.cursor (items_at body_at c.args.count c.args.cursor.now) c.loop-test.false c.loop.invariant
