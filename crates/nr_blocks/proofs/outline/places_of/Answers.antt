-- The goals of `outline::places_of` that no tactic closes.
use Rattle.std.proofs.lemmas.Result.{err_from_is_err_and}
use Rattle.nr_bytes.specs.Fields.{items_at}
use Rattle.nr_bytes.proofs.Items.{goes_on, ends, is_done}
use Rattle.nr_records.specs.Transactions.{transaction_at}
use Rattle.nr_blocks.specs.Outlines.{placed}
use Rattle.nr_blocks.proofs.outline.places_of.Goals as goal

pub returns-in_err-place : goal.returns-in_err-place
returns-in_err-place c =
    let p = err_from_is_err_and c.from_residual.result c.from_residual.ensures.1 in
    rw (p.1, p.2)
    (λ other.
    ends (placed transaction_at) c.loop.places.items c.args.count c.loop.counter c.loop.reader c.in_err-place.field-0.0
    (items_at (placed transaction_at) c.args.count c.args.reader.now) c.loop-test.true (c.in_err-place.ensures other)
    c.loop.invariant)

pub loop-preserved : goal.loop-preserved
loop-preserved c =
    rw c.in_ok-push.ensures.items
    (goes_on (placed transaction_at) c.loop.places.items c.args.count c.loop.counter c.loop.reader c.in_ok-place.place
    c.read_place.new.reader (items_at (placed transaction_at) c.args.count c.args.reader.now) c.loop-test.true
    c.in_ok-place.ensures
    c.loop.invariant)

pub returns : goal.returns
returns c =
    is_done (placed transaction_at) c.loop.places.items c.args.count c.loop.counter c.loop.reader
    (items_at (placed transaction_at) c.args.count c.args.reader.now) c.loop-test.false c.loop.invariant
