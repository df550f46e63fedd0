-- The goals of `running::try_run` that no tactic closes.
use Rattle.std.proofs.Common.{sym, subst, ap, Option}
use Rattle.nr_wasmexec.specs.Functions.{Func}
use Rattle.nr_wasmexec.specs.Reduction.{run_in}
use Rattle.nr_wasmexec.specs.Machine.{rules_of, runtime, Drives}
use Rattle.nr_wasmexec.proofs.running.try_run.Goals as goal

pub returns-in-Some-clause-drives : goal.returns-in-Some-clause-drives
returns-in-Some-clause-drives g c =
    subst (λ (f : Option Func). Drives c.attempt.result (g.H.Host.state c.attempt.new.host) c.attempt.new.guest (run_in (rules_of g.H.Host.meaning c.args.program.now c.args.limits) (runtime (g.H.Host.state c.args.host.now) c.args.guest.now) f)) (sym c.in-Some.ensures) c.attempt.ensures.drives

pub returns-in-None-clause-drives : goal.returns-in-None-clause-drives
returns-in-None-clause-drives g c =
    (0, ap (λ (f : Option Func). run_in (rules_of g.H.Host.meaning c.args.program.now c.args.limits) (runtime (g.H.Host.state c.args.host.now) c.args.guest.now) f 0) c.in-None.ensures)
