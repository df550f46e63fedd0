-- The goals of `tracing::follow_body` that no tactic closes.
use Rattle.std.proofs.Common.{Err, length, replicate, subst}
use Rattle.nr_wasmexec.specs.Machine.{rules_of, runtime}
use Rattle.nr_wasmexec.specs.Reduction.{run_of}
use Rattle.nr_trace.specs.Tracing.{EndsAt}
use Rattle.nr_trace.specs.Trail.{Trail, trail_from, trail_of}
use Rattle.nr_trace.proofs.OnTrails.{placed_end}
use Rattle.nr_trace.proofs.tracing.follow_body.Goals as goal

pub returns-in-Err-Trap-clause-ends : goal.returns-in-Err-Trap-clause-ends
returns-in-Err-Trap-clause-ends g c =
    let w = rules_of g.H.Host.meaning c.args.program.now c.args.limits in
    let s = runtime (g.H.Host.state c.args.host.now) c.args.guest.now in
    let host = g.H.Host.state c.run_body.new.host in
    let guest = c.run_body.new.guest in
    let zeros = replicate (length c.args.body.now.locals) 0 in
    let code = c.args.body.now.code in
    let outcome = run_of w s 0 zeros code in
    subst (λ (t : Trail). EndsAt (Err c.placed.result) c.args.program.now host guest outcome (trail_from w s 0 zeros code t)) c.first-trail.ensures
    (placed_end c.placed.result c.args.program.now host guest c.in-Err-Trap.kind (trail_of c.run_body.new.trail) outcome
    (trail_from w s 0 zeros code (trail_of c.first-trail.result)) (rw c.in-Err-Trap.field-0-is at c.in-Err-Trap.ensures.tracks) c.placed.ensures)
