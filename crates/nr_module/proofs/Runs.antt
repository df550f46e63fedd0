-- From a run's end to its answer, and what a machine that is made may run.
use Rattle.std.proofs.Common.{◌≡◌, ◌∙◌, ℕ, ◌-◌, List, Option, Some, None, Result, Ok, Err, IfOk, ap, subst, sym}
use Rattle.std.specs.Prelude.{IsTrue}
use Rattle.std.specs.declared.alloc.AllocError.{AllocError}
use Rattle.nr_config.specs.Config.{Config, max_pages}
use Rattle.nr_wasmtypes.specs.declared.module.Module.{Module}
use Rattle.nr_wasmmem.specs.declared.guest.Guest.{Guest}
use Rattle.nr_wasmexec.specs.Functions.{func_at}
use Rattle.nr_wasmexec.specs.Machine.{Ends}
use Rattle.nr_wasmexec.specs.Reduction.{Outcome}
use Rattle.nr_wasmexec.specs.Making.{MachineView, first_guest, is_method, limits_of, machine_of, machine_with}
use Rattle.nr_wasmexec.specs.Making.{program_of}
use Rattle.nr_wasmexec.specs.declared.program.Program.{Program}
use Rattle.nr_wasmexec.specs.declared.stop.RunStop.{RunStop}
use Rattle.nr_wasmexec.specs.declared.stop.RunStop.TheVariants as stop
use Rattle.nr_wasmexec.specs.declared.gauge.Gauge.{Gauge}
use Rattle.nr_trace.specs.Tracing.{EndsAt, Traces}
use Rattle.nr_trace.specs.declared.trail.TraceStop.{TraceStop}
use Rattle.nr_trace.specs.declared.trail.TraceStop.TheVariants as trace
use Rattle.nr_module.specs.Running.{run_from, over, over_at, RunsTo, told, told_at, TracesTo, trail_from, located}
use Rattle.nr_module.specs.declared.verdict.Answer.{Answer}

told_so : (m : MachineView) (gas f : ℕ) (r : Result (Unit {0}) RunStop) (host : Gauge) (guest : Guest) (a : Answer) → Ends r host guest (run_from m gas f) → told r (gas - host.gas) ≡ Some a → RunsTo m gas f a
told_so m gas f (Ok u) host guest a e is = (e.0, ap (over gas) e.1 ∙ is)
told_so m gas f (Err (stop.Trap kind)) host guest a e is = (e.0, ap (over gas) e.1 ∙ is)
told_so m gas f (Err stop.GasExceeded) host guest a e is = (e.0, ap (over gas) e.1 ∙ is)
told_so m gas f (Err (stop.HostFault kind)) host guest a e is = (e.0, ap (over gas) e.1 ∙ is)
told_so m gas f (Err stop.Memory) host guest a e is = let wrong : ⊥ = cc in absurd wrong

pub came : (m : MachineView) (gas f : ℕ) (r : Result (Unit {0}) RunStop) (host : Gauge) (guest : Guest) (answer : Result Answer AllocError) → Ends r host guest (run_from m gas f) → IfOk answer (λ a. told r (gas - host.gas) ≡ Some a) → IfOk answer (λ a. RunsTo m gas f a)
came m gas f r host guest (Ok a) e is = told_so m gas f r host guest a e is
came m gas f r host guest (Err fault) e is = tt

-- the same with the place of a trap
module _ (bytes : List ℕ) (imported : ℕ) (m : MachineView) (gas f : ℕ) where
  abbrev over_here : ℕ → Outcome Gauge → Option Answer
  over_here n o = over_at bytes imported m.program gas o (trail_from m gas f n)

  told_there : (r : Result (Unit {0}) TraceStop) (host : Gauge) (guest : Guest) (a : Answer) → EndsAt r m.program host guest (run_from m gas f) (trail_from m gas f) → told_at bytes imported r (gas - host.gas) ≡ Some a
      → TracesTo bytes imported m gas f a
  told_there (Ok u) host guest a e is = (e.0, ap (over_here e.0) e.1 ∙ is)
  told_there (Err (trace.Trap kind func place)) host guest a e is =
      (e.0, ap (over_here e.0) e.1 ∙ (ap (λ (x : ℕ × ℕ). Some (located bytes imported kind (gas - host.gas) x)) (sym e.2) ∙ is))
  told_there (Err trace.GasExceeded) host guest a e is = (e.0, ap (over_here e.0) e.1 ∙ is)
  told_there (Err (trace.HostFault kind)) host guest a e is = (e.0, ap (over_here e.0) e.1 ∙ is)
  told_there (Err trace.Memory) host guest a e is = let wrong : ⊥ = cc in absurd wrong

pub came_at : (bytes : List ℕ) (imported : ℕ) (m : MachineView) (gas f : ℕ) (r : Result (Unit {0}) TraceStop) (host : Gauge) (answer : Result Answer AllocError) → Traces r m.program host (run_from m gas f) (trail_from m gas f) → IfOk answer (λ a. told_at bytes imported r (gas - host.gas) ≡ Some a)
    → IfOk answer (λ a. TracesTo bytes imported m gas f a)
came_at bytes imported m gas f r host (Ok a) e is = told_there bytes imported m gas f r host e.guest a e.ends is
came_at bytes imported m gas f r host (Err fault) e is = tt

-- a machine that is made runs what its module runs
made_with : (c : Config) (m : Module) (o : Option Guest) (v : MachineView) → machine_with c m o ≡ Ok v
    → program_of m ≡ v.program
made_with c m None v e = absurd cc
made_with c m (Some guest) v e =
    let same : record { program = program_of m; limits = limits_of c; guest = guest } ≡ v = cc in
    ap (λ (x : MachineView). x.program) same

pub made_runs : (c : Config) (m : Module) (v : MachineView) (f : ℕ) → machine_of c m ≡ Ok v
    → IsTrue (is_method (func_at (program_of m) f)) → IsTrue (is_method (func_at v.program f))
made_runs c m v f made runs =
    subst (λ (p : Program). IsTrue (is_method (func_at p f))) (made_with c m (first_guest (max_pages c) m) v made) runs
