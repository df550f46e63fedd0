-- What holds at the loops of `serving::serve_all`.
use Rattle.std.proofs.Common.{◌≡◌}
use Rattle.std.specs.Vec.Iter.{into_iter_items}
use Rattle.nr_chunk.specs.Chunk.{serve_all}
use Rattle.nr_chunk.specs.Serving.{CanServe}
use Rattle.nr_chunk.specs.Works.{working_of, IsReady}
use Rattle.nr_chunk.proofs.serving.serve_all.Given as goal

-- what is left can be served, and makes the whole
abbrev pub invariant-loop-receipt : goal.invariant-loop-receipt
invariant-loop-receipt g l =
    let call = g.C.Caller.meaning l.chain.caller in
    let left = into_iter_items l.receipt-iterator in
    record {
      ready : IsReady l.work;
      can : CanServe l.chain.config (working_of l.work) left;
      served : serve_all l.chain.config call (working_of l.work) left ≡ serve_all l.chain.config call (working_of l.initial.work) l.fn.list;
    }
