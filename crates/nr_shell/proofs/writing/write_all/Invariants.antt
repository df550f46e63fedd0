-- What holds at the loops of `writing::write_all`.
use Rattle.std.proofs.Common.{◌≤◌, length}
use Rattle.nr_shell.specs.Writing.{GrewSoFar}
use Rattle.nr_shell.proofs.writing.write_all.Given as goal

-- a front is written, and the rest is left
abbrev pub invariant-loop-rest : goal.invariant-loop-rest
invariant-loop-rest g l = record {
  written : GrewSoFar (g.K.Sink.taken l.initial.sink) (g.K.Sink.taken l.sink) l.text l.rest;
  rises : g.K.Sink.faults l.initial.sink ≤ g.K.Sink.faults l.sink;
}

abbrev pub decreases-loop-rest : goal.decreases-loop-rest
decreases-loop-rest g l = length l.rest
