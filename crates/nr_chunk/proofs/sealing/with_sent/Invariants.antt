-- What holds at the loops of `sealing::with_sent`.
use Rattle.std.proofs.Common.{◌≡◌, ◌++◌, take, map}
use Rattle.nr_chunk.specs.Chunk.{sent}
use Rattle.nr_chunk.proofs.sealing.with_sent.Given as goal

abbrev pub invariant-loop-receipt : goal.invariant-loop-receipt
invariant-loop-receipt l = l.all.items ≡ l.initial.all.items ++ map (sent l.layout) (take l.receipt-index l.outgoing)
