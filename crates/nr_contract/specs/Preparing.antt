-- What the parts of the code answer: the machine of a call, or why there is none. This project's own.
use Rattle.std.specs.Prelude.{◌≡◌, ℕ, List, Option, Some, None, IsTrue, Result, Ok, Err}
use Rattle.nr_bytes.specs.Reading.{◌>>=◌}
use Rattle.nr_config.specs.Config.{Config}
use Rattle.nr_wasmbin.specs.Modules.{decoded}
use Rattle.nr_wasmexec.specs.Functions.{func_at}
use Rattle.nr_wasmexec.specs.Making.{MachineView, machine_of, is_method}
use Rattle.nr_wasmtypes.specs.declared.module.Module.{Module}
use Rattle.nr_wasmvalid.specs.Kinds.{valid_kind}
use Rattle.nr_wasmvalid.specs.declared.fault.ValidFault.{ValidFault}
use Rattle.nr_wasmvalid.specs.declared.fault.ValidFault.TheVariants as valid
use Rattle.nr_contract.specs.Loading.{made, no_method, bad_code}
use Rattle.nr_contract.specs.Verdicts.{module_verdict}
use Rattle.nr_contract.specs.declared.refused.Refused.{Refused}
use Rattle.nr_contract.specs.declared.refused.Refused.TheVariants.{Failed, Memory}

abbrev pub Prepares : Result (MachineView × ℕ) Refused → Result (MachineView × ℕ) (ℕ × ℕ) → Type 0
Prepares (Ok found) due = due ≡ Ok found
Prepares (Err (Failed kind part)) due = due ≡ Err (kind, part)
Prepares (Err Memory) due = Unit {0}

-- the function may run
abbrev pub CanRun : MachineView × ℕ → Type 0
CanRun found = IsTrue (is_method (func_at found.0.program found.1))

-- under these limits the code is decoded to this module, which is valid
abbrev pub IsLoaded : ℕ → ℕ → List ℕ → Module → Type 0
IsLoaded most pages code m = (decoded most code ≡ Ok m) × (module_verdict pages m ≡ Ok tt)

-- the machine's code is this module, which is valid
abbrev pub RunsOver : ℕ → Module → MachineView × ℕ → Type 0
RunsOver pages m found = (found.0.program.code ≡ m) × (module_verdict pages m ≡ Ok tt)

abbrev pub with_machine : Config → Result (Module × ℕ) (ℕ × ℕ) → Result (MachineView × ℕ) (ℕ × ℕ)
with_machine c found = found >>= λ it. made it.1 (machine_of c it.0)

abbrev pub with_method : MachineView → Option ℕ → Result (MachineView × ℕ) (ℕ × ℕ)
with_method m None = Err (no_method, 0)
with_method m (Some f) = Ok (m, f)

-- a module that isn't valid
abbrev pub invalid : ValidFault → Refused
invalid (valid.Types func place) = Failed bad_code (valid_kind (valid.Types func place))
invalid (valid.Index func place) = Failed bad_code (valid_kind (valid.Index func place))
invalid (valid.Label func place) = Failed bad_code (valid_kind (valid.Label func place))
invalid (valid.Limit func place) = Failed bad_code (valid_kind (valid.Limit func place))
invalid (valid.Import func place) = Failed bad_code (valid_kind (valid.Import func place))
invalid valid.Memory = Memory
