-- The goals of `tracing::trace_func` that no tactic closes.
use Rattle.std.proofs.Common.{◌≡◌, Option, false, subst, true}
use Rattle.std.specs.Prelude.{IsTrue}
use Rattle.nr_wasmexec.specs.Functions.{Func}
use Rattle.nr_wasmexec.specs.Machine.{NeverStuck, rules_of, runtime}
use Rattle.nr_wasmexec.specs.Making.{is_method}
use Rattle.nr_wasmexec.specs.Reduction.{run_in}
use Rattle.nr_trace.proofs.tracing.trace_func.Goals as goal

pub follow_func-requires-clause-never : goal.follow_func-requires-clause-never
follow_func-requires-clause-never g c =
    let w = rules_of g.H.Host.meaning c.args.program.now c.args.limits in
    let s = runtime (g.H.Host.state c.args.host.now) c.args.guest.now in
    subst (λ (x : Option Func). NeverStuck (run_in w s x)) c.in-Some.ensures c.is_never_stuck.ensures

pub unreachable-requires : goal.unreachable-requires
unreachable-requires g c =
    let wrong : false ≡ true = subst (λ (x : Option Func). IsTrue (is_method x)) c.in-None.ensures c.requires.method in cc
