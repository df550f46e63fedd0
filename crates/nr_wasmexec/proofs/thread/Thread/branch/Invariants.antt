-- What holds at the loops of `thread::Thread::branch`.
use Rattle.std.proofs.Common.{◌≡◌, ◌-◌, ◌++◌, List, length, ℕ}
use Rattle.nr_wasmexec.specs.Place.{branched}
use Rattle.nr_wasmexec.proofs.thread.Thread.branch.Given as goal

abbrev pub invariant-loop-k : goal.invariant-loop-k
invariant-loop-k l = record {
  same : branched (l.depth - l._k) l.fn.self.values l.self.locals l.self.contexts ≡ branched l.depth l.fn.self.values l.fn.self.locals l.fn.self.contexts;
  have : l.have ≡ length l.fn.self.values;
  front : (more : List ℕ) × (l.self.values ≡ l.fn.self.values ++ more);
}
