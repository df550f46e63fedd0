-- What holds at the loops of `serving::serve_delayed`.
use Rattle.std.proofs.Common.{◌≡◌, [], length}
use Rattle.nr_chunk.specs.Chunk.{serve_delayed}
use Rattle.nr_chunk.specs.Serving.{CanServe}
use Rattle.nr_chunk.specs.Works.{working_of, IsReady}
use Rattle.nr_chunk.proofs.serving.serve_delayed.Given as goal

-- the queue that is left makes the whole
abbrev pub invariant-loop-alloc : goal.invariant-loop-alloc
invariant-loop-alloc g l =
    let call = g.C.Caller.meaning l.chain.caller in
    record {
      ready : IsReady l.work;
      can : CanServe l.chain.config (working_of l.work) [];
      served : serve_delayed l.chain.config call (working_of l.work) ≡ serve_delayed l.chain.config call (working_of l.initial.work);
    }

abbrev pub decreases-loop-alloc : goal.decreases-loop-alloc
decreases-loop-alloc g l = length l.work.state.world.delayed
