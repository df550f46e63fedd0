-- The goals of `tracing::trace_func` that no tactic closes.
use Rattle.std.proofs.Common.{◌≡◌, ◌-◌, IfOk, Some, arith, subst, ℕ}
use Rattle.nr_module.specs.Running.{run_from, told_at, trail_from}
use Rattle.nr_module.proofs.Runs.{came_at}
use Rattle.nr_trace.specs.Tracing.{Traces}
use Rattle.nr_module.proofs.tracing.trace_func.Goals as goal

pub returns : goal.returns
returns c =
    let m = c.args.machine in
    let func = c.args.func in
    let end = c.trace-end in
    let ended : Traces end.result m.program end.new.host (run_from m c.args.gas func) (trail_from m c.args.gas func) =
    subst (λ (n : ℕ). Traces end.result m.program end.new.host (run_from m n func) (trail_from m n func)) c.from.ensures end.ensures.ends in
    let burnt : c.saturating_sub.result ≡ c.args.gas - end.new.host.gas = omega arith in
    came_at c.args.bytes.now.items c.args.imported m c.args.gas func end.result end.new.host c.told_at.result ended
    (subst (λ (n : ℕ). IfOk c.told_at.result (λ a. told_at c.args.bytes.now.items c.args.imported end.result n ≡ Some a)) burnt c.told_at.ensures)
