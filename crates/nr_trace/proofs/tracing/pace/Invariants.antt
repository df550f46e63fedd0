-- What holds at the loops of `tracing::pace`.
use Rattle.std.proofs.Common.{◌≡◌, ℕ}
use Rattle.nr_wasmexec.specs.Machine.{rules_of, runtime, run_at, work_left}
use Rattle.nr_trace.specs.Tracing.{trail_at}
use Rattle.nr_trace.specs.Trail.{trail_of}
use Rattle.nr_trace.proofs.tracing.pace.Given as goal

-- whatever the run comes to from here, with its trail, it comes to from the start
abbrev pub invariant-steps : goal.invariant-steps
invariant-steps g l =
    let w = rules_of g.H.Host.meaning l.program l.limits in
    let state = g.H.Host.state in
    let before = runtime (state l.fn.host) l.fn.guest in
    let here = runtime (state l.host) l.guest in
    record {
      leads : (k : ℕ) → (j : ℕ) × (run_at w before l.fn.thread j ≡ run_at w here l.thread k)
          × (trail_at w before l.fn.thread (trail_of l.fn.trail) j ≡ trail_at w here l.thread (trail_of l.trail) k);
      keeps : g.H.Host.keeps l.fn.host l.host;
    }

abbrev pub decreases-steps : goal.decreases-steps
decreases-steps g l = work_left g.H.Host.meaning (g.H.Host.state l.host) l.thread
