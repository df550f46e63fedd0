-- The moments of a call of a contract. This project's own, over the reduction of WebAssembly Core 1.0, "Execution".
use Rattle.std.specs.Prelude.{◌≡◌, ℕ, zero, suc, ◌^◌, ◌<◌, Ok}
use Rattle.nr_bytes.specs.Numbers.{IsBytes}
use Rattle.nr_config.specs.Config.{Config, IsValidConfig}
use Rattle.nr_contract.specs.Contract.{code_in, first_state, load_gas}
use Rattle.nr_contract.specs.Loading.{prepared}
use Rattle.nr_contract_laws.specs.Numbers.{FitsContext, usage_of}
use Rattle.nr_hostctx.specs.Host.{meaning}
use Rattle.nr_hostctx.specs.declared.seen.HostState.{HostState}
use Rattle.nr_machine_laws.specs.Steps.{LeadsTo, first_step}
use Rattle.nr_state.specs.World.{World}
use Rattle.nr_state.specs.declared.calls.CallContext.{CallContext}
use Rattle.nr_wasmexec.specs.Functions.{func_at}
use Rattle.nr_wasmexec.specs.Machine.{rules_of, runtime}
use Rattle.nr_wasmexec.specs.Making.{MachineView}
use Rattle.nr_wasmexec.specs.Reduction.{Config as State, Rules, Runtime, stepped}

-- so many steps of the run of the function with the number f lead here
abbrev pub Leads : {S : Type 0} → Rules S → Runtime S → ℕ → ℕ → State S → Type 0
Leads w s f zero c = LeadsTo w (first_step s (func_at w.program f)) c
Leads {S} w s f (suc n) c = (b : State S) × Leads w s f n b × LeadsTo w (stepped w b) c

-- ---- a call
-- what its machine runs under
abbrev pub rules : MachineView → Rules HostState
rules m = rules_of meaning m.program m.limits

-- the state in which its method begins, once the loading is paid
abbrev pub begun : Config → World → CallContext → HostState
begun c w x = first_state c w x (load_gas c (code_in w x.current))

-- what its machine begins with
abbrev pub start : Config → World → CallContext → MachineView → Runtime HostState
start c w x m = runtime (begun c w x) m.guest

-- the call runs the function with the number f in this machine
pub record IsRun (c : Config) (w : World) (x : CallContext) (m : MachineView) (f : ℕ) : Type 0 where
  pub config : IsValidConfig c
  pub context : FitsContext x
  pub code : IsBytes (code_in w x.current)
  pub found : prepared c (code_in w x.current) x.method ≡ Ok (m, f)

-- before each of so many steps of the run the account is counted as less than 2 ^ 64 bytes of storage
abbrev pub StaysCounted : Config → World → CallContext → MachineView → ℕ → ℕ → Type 0
StaysCounted c w x m f n =
    (k : ℕ) (s : State HostState) → k < n → Leads (rules m) (start c w x m) f k s → usage_of s.store.host < 2 ^ 64
