-- What holds at the loops of `control::add_locals`.
use Rattle.std.proofs.Common.{◌≡◌, ◌++◌, replicate}
use Rattle.nr_wasmexec.proofs.control.add_locals.Given as goal

abbrev pub invariant-loop-k : goal.invariant-loop-k
invariant-loop-k l = l.locals.items ≡ l.fn.locals.items ++ (l.args ++ replicate l._k 0)
