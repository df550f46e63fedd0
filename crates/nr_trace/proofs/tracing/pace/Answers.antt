-- The goals of `tracing::pace` that no tactic closes.
use Rattle.std.proofs.Common.{◌∙◌, ap, sym, refl, suc}
use Rattle.nr_wasmexec.specs.Reduction.{Done, stepped}
use Rattle.nr_wasmexec.specs.Machine.{rules_of, runtime, config_of, run_at}
use Rattle.nr_trace.specs.Tracing.{trail_at}
use Rattle.nr_trace.specs.Trail.{trail_of}
use Rattle.nr_trace.proofs.OnTrails.{tracks_err, trail_goes_on, trail_stays}
use Rattle.nr_wasmexec.proofs.Turning.{too_large, goes_on, over, turns_on, turns_off}
use Rattle.nr_trace.proofs.tracing.pace.Goals as goal

pub steps-init : goal.steps-init
steps-init g c = record {
  leads = λ k. (k, refl, refl);
  keeps = g.met.H.Host.keeps_here c.args.host.now;
}

pub returns-then-is_too_large-clause-tracks : goal.returns-then-is_too_large-clause-tracks
returns-then-is_too_large-clause-tracks g c =
    let w = rules_of g.H.Host.meaning c.args.program.now c.args.limits in
    let s = runtime (g.H.Host.state c.steps.host) c.steps.guest in
    let large = sym c.is_too_large.ensures ∙ c.if-is_too_large.true in
    let from = c.steps.invariant.leads 0 in
    (from.0, from.1 ∙ too_large w s c.steps.thread large, from.2 ∙ trail_stays w s c.steps.thread (trail_of c.steps.trail) large)

pub steps-preserved : goal.steps-preserved
steps-preserved g c =
    let w = rules_of g.H.Host.meaning c.args.program.now c.args.limits in
    let s = runtime (g.H.Host.state c.steps.host) c.steps.guest in
    let r = runtime (g.H.Host.state c.pass.new.host) c.pass.new.guest in
    let small = sym c.is_too_large.ensures ∙ c.if-is_too_large.false in
    let step = turns_on c.in-Ok-true.field-0 (g.H.Host.state c.pass.new.host) c.pass.new.guest c.pass.new.thread s
    (stepped w (config_of (g.H.Host.state c.steps.host) c.steps.guest c.steps.thread)) c.in-Ok-true.field-0-test
    c.in-Ok-true.ensures.turns in
    record {
      leads = λ k.
          let from = c.steps.invariant.leads (suc k) in (
            from.0,
            from.1 ∙ goes_on w s c.steps.thread k r c.pass.new.thread small step,
            from.2 ∙ trail_goes_on w s c.steps.thread (trail_of c.steps.trail) k r c.pass.new.thread (trail_of c.pass.new.trail) small step c.in-Ok-true.ensures.looks,
          );
      keeps = g.met.H.Host.keeps_on _ _ _ c.steps.invariant.keeps c.pass.ensures.keeps;
    }

pub returns-in-Ok-false-clause-tracks : goal.returns-in-Ok-false-clause-tracks
returns-in-Ok-false-clause-tracks g c =
    let w = rules_of g.H.Host.meaning c.args.program.now c.args.limits in
    let s = runtime (g.H.Host.state c.steps.host) c.steps.guest in
    let from = c.steps.invariant.leads 1 in
    let turns = turns_off c.in-Ok-false.field-0 (g.H.Host.state c.pass.new.host) c.pass.new.guest c.pass.new.thread s (stepped w (config_of (g.H.Host.state c.steps.host) c.steps.guest c.steps.thread)) c.in-Ok-false.field-0-test c.in-Ok-false.ensures.turns in
    (from.0, from.1 ∙ (over w s c.steps.thread turns.0.0 (sym c.is_too_large.ensures ∙ c.if-is_too_large.false) turns.0.1 ∙ ap Done turns.1))

pub returns-in-Err-clause-tracks : goal.returns-in-Err-clause-tracks
returns-in-Err-clause-tracks g c =
    let w = rules_of g.H.Host.meaning c.args.program.now c.args.limits in
    let s = runtime (g.H.Host.state c.steps.host) c.steps.guest in
    let before = runtime (g.H.Host.state c.args.host.now) c.args.guest.now in
    tracks_err w s c.steps.thread (trail_of c.steps.trail) (run_at w before c.args.thread.now)
    (trail_at w before c.args.thread.now (trail_of c.args.trail.now))
    c.steps.invariant.leads (sym c.is_too_large.ensures ∙ c.if-is_too_large.false) c.in-Err.stop
    (g.H.Host.state c.pass.new.host) c.pass.new.guest c.pass.new.thread s (trail_of c.pass.new.trail)
    c.in-Err.ensures.turns c.in-Err.ensures.looks
