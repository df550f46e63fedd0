-- What the run of a method comes to, and what a check says of a valid module. Machines and their runs by WebAssembly
-- Core 1.0; the host, which only counts the gas of instructions (loading the code costs none), the order of a run's
-- steps and the answers are this project's own.
use Rattle.std.specs.Prelude.{◌≡◌, ℕ, ◌-◌, List, Option, Some, None, Result, Ok, Err}
use Rattle.nr_trace.specs.Offsets.{instruction_at}
use Rattle.nr_wasmbin.specs.declared.fault.DecodeFault.{DecodeFault}
use Rattle.nr_wasmexec.specs.Reduction.{Stop, Trap, GasExceeded, HostFault, Outcome, Done, Halted, NeverFits}
use Rattle.nr_wasmexec.specs.Reduction.{Unfinished, run_by}
use Rattle.nr_wasmexec.specs.Machine.{rules_of, runtime}
use Rattle.nr_wasmexec.specs.Making.{MachineView}
use Rattle.nr_wasmexec.specs.declared.making.MakeFault.{MakeFault}
use Rattle.nr_wasmexec.specs.declared.making.MakeFault.TheVariants as make
use Rattle.nr_trace.specs.Trail.{Trail, place_in, trail_by}
use Rattle.nr_wasmexec.specs.declared.program.Program.{Program}
use Rattle.nr_wasmexec.specs.declared.stop.RunStop.{RunStop}
use Rattle.nr_wasmexec.specs.declared.stop.RunStop.TheVariants as stop
use Rattle.nr_wasmexec.specs.Gauge.{gauge}
use Rattle.nr_wasmexec.specs.declared.gauge.Gauge.{Gauge}
use Rattle.nr_trace.specs.declared.trail.TraceStop.{TraceStop}
use Rattle.nr_trace.specs.declared.trail.TraceStop.TheVariants as trace
use Rattle.nr_module.specs.declared.verdict.Answer.{Answer}
use Rattle.nr_module.specs.declared.verdict.Answer.TheVariants.{Good, Unfit, NoMethod, Unmade, Ended, Trapped, Failed}
use Rattle.nr_module.specs.declared.verdict.Answer.TheVariants.{OutOfGas, TrappedAt}

-- a function's run from the machine's first state, with so much gas
abbrev pub run_from : MachineView → ℕ → ℕ → ℕ → Outcome Gauge
run_from m gas f n = run_by (rules_of gauge m.program m.limits) (runtime (record { gas = gas }) m.guest) f n

abbrev pub stopped : ℕ → Stop → Answer
stopped burnt (Trap kind) = Trapped kind burnt
stopped burnt GasExceeded = OutOfGas burnt
stopped burnt (HostFault kind) = Failed kind burnt

-- the answer of a run that had so much gas, where it is over
abbrev pub over : ℕ → Outcome Gauge → Option Answer
over gas (Done s) = Some (Ended (gas - s.host.gas))
over gas (Halted s stop) = Some (stopped (gas - s.host.gas) stop)
over gas NeverFits = None
over gas Unfinished = None

-- the function's run comes to it after some number of steps
abbrev pub RunsTo : MachineView → ℕ → ℕ → Answer → Type 0
RunsTo m gas f a = (n : ℕ) × (over gas (run_from m gas f n) ≡ Some a)

-- the answer of a function's run, where the machine can be made
abbrev pub IsRunIn : Result MachineView MakeFault → ℕ → ℕ → Answer → Type 0
IsRunIn (Err make.Segment) gas f a = a ≡ Unmade
IsRunIn (Err make.Memory) gas f a = ⊥
IsRunIn (Ok m) gas f a = RunsTo m gas f a

-- the answer of a method's run: whether there is such a method comes first, then whether the machine can be made
abbrev pub IsRun : Option ℕ → Result MachineView MakeFault → ℕ → Answer → Type 0
IsRun None made gas a = a ≡ NoMethod
IsRun (Some f) made gas a = IsRunIn made gas f a

-- what a check says: whether the machine can be made
abbrev pub IsCheck : Result MachineView MakeFault → Answer → Type 0
IsCheck (Err make.Segment) a = a ≡ Unfit
IsCheck (Err make.Memory) a = ⊥
IsCheck (Ok m) a = a ≡ Good

-- the answer of a run that ended so and burnt so much gas; none where memory ran out
abbrev pub told : Result (Unit {0}) RunStop → ℕ → Option Answer
told (Ok u) burnt = Some (Ended burnt)
told (Err (stop.Trap kind)) burnt = Some (Trapped kind burnt)
told (Err stop.GasExceeded) burnt = Some (OutOfGas burnt)
told (Err (stop.HostFault kind)) burnt = Some (Failed kind burnt)
told (Err stop.Memory) burnt = None

-- ---- the same with the place of a trap
abbrev pub trail_from : MachineView → ℕ → ℕ → ℕ → Trail
trail_from m gas f n = trail_by (rules_of gauge m.program m.limits) (runtime (record { gas = gas }) m.guest) f n

abbrev pub placed : ℕ → ℕ → ℕ → Result ℕ DecodeFault → Answer
placed kind burnt func (Ok at) = TrappedAt kind burnt func at
placed kind burnt func (Err fault) = Trapped kind burnt

-- a trap in a function at the instruction with this number: where its opcode stands in the bytes of a module that
-- imports so many functions, if one is found there. None is where the frame of a method without instructions is too
-- large.
abbrev pub located : List ℕ → ℕ → ℕ → ℕ → ℕ × ℕ → Answer
located bytes imported kind burnt place =
    placed kind burnt place.0 (instruction_at (place.0 - imported) place.1 bytes)

abbrev pub stopped_at : List ℕ → ℕ → Program → ℕ → Stop → Trail → Answer
stopped_at bytes imported p burnt (Trap kind) t = located bytes imported kind burnt (place_in p t)
stopped_at bytes imported p burnt GasExceeded t = OutOfGas burnt
stopped_at bytes imported p burnt (HostFault kind) t = Failed kind burnt

abbrev pub over_at : List ℕ → ℕ → Program → ℕ → Outcome Gauge → Trail → Option Answer
over_at bytes imported p gas (Done s) t = Some (Ended (gas - s.host.gas))
over_at bytes imported p gas (Halted s stop) t = Some (stopped_at bytes imported p (gas - s.host.gas) stop t)
over_at bytes imported p gas NeverFits t = None
over_at bytes imported p gas Unfinished t = None

abbrev pub TracesTo : List ℕ → ℕ → MachineView → ℕ → ℕ → Answer → Type 0
TracesTo bytes imported m gas f a =
    (n : ℕ) × (over_at bytes imported m.program gas (run_from m gas f n) (trail_from m gas f n) ≡ Some a)

abbrev pub IsTraceIn : List ℕ → ℕ → Result MachineView MakeFault → ℕ → ℕ → Answer → Type 0
IsTraceIn bytes imported (Err make.Segment) gas f a = a ≡ Unmade
IsTraceIn bytes imported (Err make.Memory) gas f a = ⊥
IsTraceIn bytes imported (Ok m) gas f a = TracesTo bytes imported m gas f a

abbrev pub IsTrace : List ℕ → ℕ → Option ℕ → Result MachineView MakeFault → ℕ → Answer → Type 0
IsTrace bytes imported None made gas a = a ≡ NoMethod
IsTrace bytes imported (Some f) made gas a = IsTraceIn bytes imported made gas f a

-- the answer of a run that ended so and burnt so much gas; none where memory ran out
abbrev pub told_at : List ℕ → ℕ → Result (Unit {0}) TraceStop → ℕ → Option Answer
told_at bytes imported (Ok u) burnt = Some (Ended burnt)
told_at bytes imported (Err (trace.Trap kind func place)) burnt = Some (located bytes imported kind burnt (func, place))
told_at bytes imported (Err trace.GasExceeded) burnt = Some (OutOfGas burnt)
told_at bytes imported (Err (trace.HostFault kind)) burnt = Some (Failed kind burnt)
told_at bytes imported (Err trace.Memory) burnt = None
