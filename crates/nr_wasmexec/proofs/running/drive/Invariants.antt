-- What holds at the loops of `running::drive`.
use Rattle.std.proofs.Common.{◌≡◌, ℕ}
use Rattle.nr_wasmexec.specs.Executing.{SameShape}
use Rattle.nr_wasmexec.specs.Machine.{rules_of, runtime, run_at, work_left}
use Rattle.nr_wasmexec.proofs.running.drive.Given as goal

-- whatever the run comes to from here, it comes to from the start
abbrev pub invariant-steps : goal.invariant-steps
invariant-steps g l =
    let w = rules_of g.H.Host.meaning l.program l.limits in
    let state = g.H.Host.state in
    record {
      leads : (k : ℕ) → (j : ℕ) × (run_at w (runtime (state l.fn.host) l.fn.guest) l.fn.thread j ≡ run_at w (runtime (state l.host) l.guest) l.thread k);
      shape : SameShape l.fn.guest l.guest;
      keeps : g.H.Host.keeps l.fn.host l.host;
    }

abbrev pub decreases-steps : goal.decreases-steps
decreases-steps g l = work_left g.H.Host.meaning (g.H.Host.state l.host) l.thread
