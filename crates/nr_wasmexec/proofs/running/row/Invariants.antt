-- What holds at the loops of `running::row`.
use Rattle.std.proofs.Common.{◌*◌, ◌-◌, ◌≤◌}
use Rattle.nr_wasmexec.specs.Machine.{rules_of}
use Rattle.nr_wasmexec.specs.Rows.{IsRow}
use Rattle.nr_wasmexec.proofs.Room.{KeepsRoom}
use Rattle.nr_wasmexec.proofs.running.row.Given as goal

-- so many quiet instructions lead from the start to here
abbrev pub invariant-steps : goal.invariant-steps
invariant-steps g l = record {
  few : l.ran ≤ l.fit;
  row : IsRow (rules_of g.H.Host.meaning l.program l.fn.limits) l.guest (l.fn.limits.cost * l.ran) l.fn.thread l.thread;
  room : KeepsRoom l.fn.thread l.ran l.thread;
}

abbrev pub decreases-steps : goal.decreases-steps
decreases-steps g l = l.fit - l.ran
