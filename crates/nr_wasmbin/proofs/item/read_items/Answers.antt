-- The goals of `item::read_items` that no tactic closes.
use Rattle.std.proofs.Common.{arith}
use Rattle.std.proofs.lemmas.Result.{err_from_is_err_and}
use Rattle.nr_bytes.specs.Fields.{items_at}
use Rattle.nr_bytes.proofs.Items.{goes_on, ends, is_done}
use Rattle.nr_wasmbin.proofs.OnFields.{items_begin}
use Rattle.nr_wasmbin.proofs.item.read_items.Goals as goal

pub loop-init : goal.loop-init
loop-init g c = record {
  reads = items_begin g.T.Item.reading c.in_ok-items.items.items c.args.count c.args.cursor.now c.in_ok-items.ensures.items;
  shorter = omega arith;
}

pub returns-in_err-item-clause-gives : goal.returns-in_err-item-clause-gives
returns-in_err-item-clause-gives g c =
    let p = err_from_is_err_and c.from_residual-in_err-item.result c.from_residual-in_err-item.ensures.1 in
    rw (p.1, p.2) (λ other. ends g.T.Item.reading c.loop.items.items c.args.count c.loop.counter c.loop.cursor c.in_err-item.field-0.0 (items_at g.T.Item.reading c.args.count c.args.cursor.now) c.loop-test.true (c.in_err-item.ensures.gives other) c.loop.invariant.reads)

pub loop-preserved : goal.loop-preserved
loop-preserved g c = record {
  reads = rw c.in_ok-push.ensures.items (goes_on g.T.Item.reading c.loop.items.items c.args.count c.loop.counter c.loop.cursor c.in_ok-item.item c.read.new.cursor (items_at g.T.Item.reading c.args.count c.args.cursor.now) c.loop-test.true c.in_ok-item.ensures.gives c.loop.invariant.reads);
  shorter = omega (arith, c.in_ok-item.ensures.shorter, c.loop.invariant.shorter);
}

pub returns-clause-gives : goal.returns-clause-gives
returns-clause-gives g c = is_done g.T.Item.reading c.loop.items.items c.args.count c.loop.counter c.loop.cursor (items_at g.T.Item.reading c.args.count c.args.cursor.now) c.loop-test.false c.loop.invariant.reads
