-- The goals of `tracing::follow_func` that no tactic closes.
use Rattle.std.proofs.Common.{Some, ap, subst}
use Rattle.nr_wasmexec.specs.Executing.{func_of}
use Rattle.nr_wasmexec.specs.Machine.{NeverStuck, rules_of, runtime}
use Rattle.nr_wasmexec.specs.Reduction.{run_in}
use Rattle.nr_wasmexec.specs.declared.program.Func.{Func}
use Rattle.nr_trace.proofs.tracing.follow_func.Goals as goal

pub follow_body-requires-clause-never : goal.follow_body-requires-clause-never
follow_body-requires-clause-never g c =
    let w = rules_of g.H.Host.meaning c.args.program.now c.args.limits in
    let s = runtime (g.H.Host.state c.args.host.now) c.args.guest.now in
    subst (λ (f : Func). NeverStuck (run_in w s (Some (func_of f)))) c.in-Coded.is c.requires.never

pub unreachable-requires : goal.unreachable-requires
unreachable-requires g c =
    let w = rules_of g.H.Host.meaning c.args.program.now c.args.limits in
    let s = runtime (g.H.Host.state c.args.host.now) c.args.guest.now in
    c.requires.never 0 (ap (λ (f : Func). run_in w s (Some (func_of f)) 0) c.in-Hosted.is)
