-- What holds at the loops of `thread::Thread::return_from`.
use Rattle.std.proofs.Common.{◌≡◌, ◌++◌, List, length, ℕ}
use Rattle.nr_wasmexec.specs.Place.{returned}
use Rattle.nr_wasmexec.proofs.thread.Thread.return_from.Given as goal

abbrev pub invariant-loop : goal.invariant-loop
invariant-loop l = record {
  same : returned l.fn.self.values l.self.locals l.self.contexts ≡ returned l.fn.self.values l.fn.self.locals l.fn.self.contexts;
  have : l.have ≡ length l.fn.self.values;
  front : (more : List ℕ) × (l.self.values ≡ l.fn.self.values ++ more);
}

abbrev pub decreases-loop : goal.decreases-loop
decreases-loop l = length l.self.contexts
