-- What holds at the loops of `making::place`.
use Rattle.std.proofs.Common.{◌≡◌, ◌+◌, drop, length}
use Rattle.nr_wasmexec.specs.Making.{placed}
use Rattle.nr_wasmexec.proofs.making.place.Given as goal

abbrev pub invariant-loop-i : goal.invariant-loop-i
invariant-loop-i l = (length l.table.items ≡ length l.fn.table.items) × (placed l.table.items (l.at + l.i) (drop l.i l.funcs) ≡ placed l.fn.table.items l.at l.funcs)
