-- The goals of `running::leap` that no tactic closes.
use Rattle.nr_wasmexec.specs.Machine.{rules_of, runtime, run_at, work_left}
use Rattle.nr_wasmexec.proofs.Paying.{leaps_from, falls_more}
use Rattle.nr_wasmexec.proofs.running.leap.Goals as goal

pub returns-in-Ok-clause-leaps : goal.returns-in-Ok-clause-leaps
returns-in-Ok-clause-leaps g c =
    let w = rules_of g.H.Host.meaning c.args.program.now c.args.limits in
    leaps_from w (run_at w (runtime (g.H.Host.state c.args.host.now) c.args.guest.now) c.args.thread.now)
    (run_at w (runtime (g.H.Host.state c.ride.new.host) c.args.guest.now) c.ride.new.thread) c.in-Ok.ensures.rides
    c.hop.result (g.H.Host.state c.hop.new.host) c.hop.new.guest c.hop.new.thread c.hop.ensures.leaps

pub returns-in-Ok-clause-falls : goal.returns-in-Ok-clause-falls
returns-in-Ok-clause-falls g c =
    let left = work_left g.H.Host.meaning in
    let state = g.H.Host.state in
    falls_more c.hop.result (left (state c.hop.new.host) c.hop.new.thread) (left (state c.ride.new.host) c.ride.new.thread)
    (left (state c.args.host.now) c.args.thread.now) c.in-Ok.ensures.falls c.hop.ensures.falls

pub returns-in-Err-clause-leaps : goal.returns-in-Err-clause-leaps
returns-in-Err-clause-leaps g c = c.in-Err.ensures.rides
