-- How the call of a contract ends. This project's own, over the reduction of WebAssembly Core 1.0, "Execution".
use Rattle.std.specs.Prelude.{ℕ, ◌≤◌}
use Rattle.nr_contract.specs.Loading.{bad_code, out_of_gas}
use Rattle.nr_hostctx.specs.Host.{meaning}
use Rattle.nr_hostctx.specs.declared.seen.HostState.{HostState}
use Rattle.nr_wasmexec.specs.Machine.{rules_of, runtime}
use Rattle.nr_wasmexec.specs.Making.{MachineView}
use Rattle.nr_wasmexec.specs.Reduction.{Outcome, run_by}

-- the kinds of failure: code that can't run, no such method, a trap, a fault of a binding, want of gas
abbrev pub IsFailure : ℕ → Type 0
IsFailure kind = (bad_code ≤ kind) × (kind ≤ out_of_gas)

-- a machine runs the function with the number f from this state, for at most n steps
abbrev pub steps : HostState → MachineView → ℕ → ℕ → Outcome HostState
steps s m f n = run_by (rules_of meaning m.program m.limits) (runtime s m.guest) f n
