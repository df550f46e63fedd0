-- The call of a contract. After the NEAR Nomicon, "Runtime Specification", FunctionCall; the order and the costs are
-- this project's.
use Rattle.std.specs.Prelude.{ℕ, ◌+◌, ◌*◌, nat_lt, if◌then◌else◌, List, [], length, Result, Ok, Err, unwrap_or}
use Rattle.std.specs.FinMap.{get}
use Rattle.nr_config.specs.Config.{Config, load_base, load_byte}
use Rattle.nr_wasmexec.specs.Machine.{rules_of, runtime}
use Rattle.nr_wasmexec.specs.Making.{MachineView}
use Rattle.nr_wasmexec.specs.Reduction.{Stop, Trap, GasExceeded, HostFault, Outcome, Done, Halted, NeverFits}
use Rattle.nr_wasmexec.specs.Reduction.{Unfinished, run_by}
use Rattle.nr_wasmmem.specs.Meaning.{burnt}
use Rattle.nr_hostctx.specs.Host.{meaning}
use Rattle.nr_hostctx.specs.State.{fresh, end_of}
use Rattle.nr_hostctx.specs.declared.seen.HostState.{HostState}
use Rattle.nr_state.specs.Calls.{Called, Ended, Stopped}
use Rattle.nr_state.specs.World.{World}
use Rattle.nr_state.specs.declared.calls.CallContext.{CallContext}
use Rattle.nr_contract.specs.Loading.{trapped, failed_binding, out_of_gas, prepared}

-- ---- the run
-- a call that stops burnt what its counter says
abbrev pub stopped : HostState → Stop → Called
stopped s (Trap kind) = Stopped trapped kind s.gas.burnt
stopped s (HostFault kind) = Stopped failed_binding kind s.gas.burnt
stopped s GasExceeded = Stopped out_of_gas 0 s.gas.burnt

-- what a run that is over comes to
abbrev pub over : Outcome HostState → Called
over (Done r) = Ended (end_of r.host) r.host.world
over (Halted r stop) = stopped r.host stop
over NeverFits = Stopped 0 0 0
over Unfinished = Stopped 0 0 0

-- so many steps are enough for so much gas: each takes gas, or ends a block or a frame
abbrev pub enough : ℕ → ℕ
enough gas = 2 * gas + 2

-- the function's run, once the loading is paid
unfoldable pub run : HostState → MachineView → ℕ → Called
run s m f = over (run_by (rules_of meaning m.program m.limits) (runtime s m.guest) f (enough (meaning.gas s)))

-- ---- the call
abbrev pub code_in : World → List ℕ → List ℕ
code_in w id = unwrap_or (get w.code id) []

abbrev pub load_gas : Config → List ℕ → ℕ
load_gas c code = load_base c + load_byte c * length code

abbrev pub started : HostState → ℕ → Result (MachineView × ℕ) (ℕ × ℕ) → Called
started s load (Err failure) = Stopped failure.0 failure.1 load
started s load (Ok found) = run s found.0 found.1

-- the state in which the method begins, with its loading paid
abbrev pub first_state : Config → World → CallContext → ℕ → HostState
first_state c w x load = burnt meaning (fresh w x c) load

abbrev pub loaded : Config → World → CallContext → List ℕ → Called
loaded c w x code =
    if nat_lt x.gas (load_gas c code)
    then Stopped out_of_gas 0 x.gas
    else started (first_state c w x (load_gas c code)) (load_gas c code) (prepared c code x.method)

-- loading is paid first
unfoldable pub call : Config → World → CallContext → Called
call c w x = loaded c w x (code_in w x.current)
