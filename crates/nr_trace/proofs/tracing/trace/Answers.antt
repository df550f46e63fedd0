-- The goals of `tracing::trace` that no tactic closes.
use Rattle.std.proofs.Common.{subst, sym}
use Rattle.std.specs.Prelude.{IsTrue}
use Rattle.nr_wasmexec.specs.Functions.{func_at}
use Rattle.nr_wasmexec.specs.Making.{is_method}
use Rattle.nr_wasmexec.specs.declared.program.Program.{Program}
use Rattle.nr_trace.proofs.OnTrails.{of_parts}
use Rattle.nr_trace.proofs.tracing.trace.Goals as goal

pub trace_func-requires-clause-cost : goal.trace_func-requires-clause-cost
trace_func-requires-clause-cost g c = c.into_parts-program.ensures.sound.cost

pub trace_func-requires-clause-hosts : goal.trace_func-requires-clause-hosts
trace_func-requires-clause-hosts g c = c.into_parts-program.ensures.sound.hosts

pub trace_func-requires-clause-guest : goal.trace_func-requires-clause-guest
trace_func-requires-clause-guest g c = c.into_parts-program.ensures.sound.guest

pub trace_func-requires-clause-method : goal.trace_func-requires-clause-method
trace_func-requires-clause-method g c =
    subst (λ (p : Program). IsTrue (is_method (func_at p c.args.func))) (sym c.into_parts-program.ensures.program) c.requires

pub returns-clause-ends : goal.returns-clause-ends
returns-clause-ends g c =
    let parts = c.into_parts-program in
    of_parts g.H.Host.meaning (g.H.Host.state c.args.host.now) (g.H.Host.state c.trace_func.new.host) c.args.func c.trace_func.result c.trace_func.new.guest
    _ _ _ _ _ _ parts.ensures.program parts.ensures.limits parts.ensures.guest c.trace_func.ensures.ends
