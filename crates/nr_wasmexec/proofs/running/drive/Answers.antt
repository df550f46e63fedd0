-- The goals of `running::drive` that no tactic closes.
use Rattle.std.proofs.Common.{Err, ◌∙◌, refl}
use Rattle.nr_wasmexec.specs.Machine.{rules_of, runtime, run_at}
use Rattle.nr_wasmexec.proofs.Paying.{leaps_from, leaps_on, leaps_off}
use Rattle.nr_wasmexec.proofs.running.drive.Goals as goal

pub steps-init : goal.steps-init
steps-init g c = record { leads = λ k. (k, refl); shape = (refl, refl); keeps = g.met.H.Host.keeps_here c.args.host.now }

pub steps-preserved : goal.steps-preserved
steps-preserved g c =
    let w = rules_of g.H.Host.meaning c.args.program.now c.args.limits in
    record {
      leads = leaps_on w (run_at w (runtime (g.H.Host.state c.args.host.now) c.args.guest.now) c.args.thread.now)
          (run_at w (runtime (g.H.Host.state c.steps.host) c.steps.guest) c.steps.thread) c.steps.invariant.leads
          c.in-Ok-true.field-0 (g.H.Host.state c.leap.new.host) c.leap.new.guest c.leap.new.thread
          c.in-Ok-true.field-0-test c.in-Ok-true.ensures.leaps;
      shape = (c.leap.ensures.shape.0 ∙ c.steps.invariant.shape.0, c.leap.ensures.shape.1 ∙ c.steps.invariant.shape.1);
      keeps = g.met.H.Host.keeps_on _ _ _ c.steps.invariant.keeps c.leap.ensures.keeps;
    }

pub returns-in-Ok-false-clause-drives : goal.returns-in-Ok-false-clause-drives
returns-in-Ok-false-clause-drives g c =
    let w = rules_of g.H.Host.meaning c.args.program.now c.args.limits in
    leaps_off w (run_at w (runtime (g.H.Host.state c.args.host.now) c.args.guest.now) c.args.thread.now)
    (run_at w (runtime (g.H.Host.state c.steps.host) c.steps.guest) c.steps.thread) c.steps.invariant.leads
    c.in-Ok-false.field-0 (g.H.Host.state c.leap.new.host) c.leap.new.guest c.leap.new.thread
    c.in-Ok-false.field-0-test c.in-Ok-false.ensures.leaps

pub returns-in-Err-clause-drives : goal.returns-in-Err-clause-drives
returns-in-Err-clause-drives g c =
    let w = rules_of g.H.Host.meaning c.args.program.now c.args.limits in
    leaps_from w (run_at w (runtime (g.H.Host.state c.args.host.now) c.args.guest.now) c.args.thread.now)
    (run_at w (runtime (g.H.Host.state c.steps.host) c.steps.guest) c.steps.thread) c.steps.invariant.leads
    (Err c.in-Err.stop) (g.H.Host.state c.leap.new.host) c.leap.new.guest c.leap.new.thread c.in-Err.ensures.leaps

pub returns-in-Ok-false-clause-shape : goal.returns-in-Ok-false-clause-shape
returns-in-Ok-false-clause-shape g c = (c.leap.ensures.shape.0 ∙ c.steps.invariant.shape.0, c.leap.ensures.shape.1 ∙ c.steps.invariant.shape.1)

pub returns-in-Err-clause-shape : goal.returns-in-Err-clause-shape
returns-in-Err-clause-shape g c = (c.leap.ensures.shape.0 ∙ c.steps.invariant.shape.0, c.leap.ensures.shape.1 ∙ c.steps.invariant.shape.1)
