-- The goals of `making::make_transactions` that no tactic closes.
use Rattle.std.proofs.lemmas.Result.{err_from_is_err_and}
use Rattle.nr_records.specs.Transactions.{IsTransaction, transaction_bytes}
use Rattle.nr_blocks.specs.Outlines.{place}
use Rattle.nr_blocks.proofs.LastFirst.{begins, emptied, ends, goes_on, stops}
use Rattle.nr_blocks.proofs.making.make_transactions.Goals as goal

pub loop-place-init : goal.loop-place-init
loop-place-init c =
    begins transaction_bytes place IsTransaction c.args.places c.into_inner-left.result.items
    c.in_ok-transactions.transactions.items c.args.bytes.now.items
    c.into_inner-left.ensures c.in_ok-transactions.ensures.items

pub returns-in_err-transaction : goal.returns-in_err-transaction
returns-in_err-transaction c =
    let p = err_from_is_err_and c.from_residual-in_err-transaction.result
    c.from_residual-in_err-transaction.ensures.1 in
    rw (p.1, p.2)
    (stops transaction_bytes place IsTransaction c.args.places c.args.bytes.now.items c.loop-place.left.items
    c.pop.new.self.items
    c.in-Some.place c.loop-place.transactions.items c.in_err-transaction.field-0.0 c.loop-place.bytes.items
    c.make_transaction.new.bytes.items
    c.in-Some.ensures.items (c.in_err-transaction.ensures) (c.loop-place.invariant) c.make_transaction.new.bytes.items)

pub loop-place-preserved : goal.loop-place-preserved
loop-place-preserved c =
    rw c.in_ok-push.ensures.items
    (goes_on transaction_bytes place IsTransaction c.args.places c.args.bytes.now.items c.loop-place.left.items
    c.pop.new.self.items
    c.in-Some.place c.loop-place.transactions.items c.in_ok-transaction.transaction c.loop-place.bytes.items
    c.make_transaction.new.bytes.items
    c.in-Some.ensures.items (c.in_ok-transaction.ensures) (c.loop-place.invariant))

pub returns : goal.returns
returns c =
    ends transaction_bytes place IsTransaction c.args.places c.args.bytes.now.items c.loop-place.left.items
    c.loop-place.transactions.items
    c.reverse.new.self c.loop-place.bytes.items
    (emptied c.loop-place.left.items c.pop.new.self.items _ c.in_default.ensures.cases.0 c.in_default.ensures.rest
    c.in_default.ensures.items) c.reverse.ensures.items (c.loop-place.invariant)
