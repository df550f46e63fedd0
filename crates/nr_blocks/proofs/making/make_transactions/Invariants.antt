-- What holds at the loops of `making::make_transactions`.
use Rattle.std.proofs.Common.{vec_len}
use Rattle.nr_records.specs.Transactions.{IsTransaction, transaction_bytes}
use Rattle.nr_blocks.specs.Outlines.{place}
use Rattle.nr_blocks.proofs.LastFirst.{Goes}
use Rattle.nr_blocks.proofs.making.make_transactions.Given as goal

abbrev pub invariant-loop-place : goal.invariant-loop-place
invariant-loop-place l =
    Goes transaction_bytes place IsTransaction l.fn.places l.initial.bytes.items l.left.items l.transactions.items
    l.bytes.items

abbrev pub decreases-loop-place : goal.decreases-loop-place
decreases-loop-place l = vec_len l.left
