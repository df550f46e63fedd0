-- What runs in the call of a contract: the machine of its code, or why there is none. After the NEAR Nomicon,
-- "Runtime Specification", FunctionCall; the order, the kinds of failure and their parts are this project's.
use Rattle.std.specs.Prelude.{ℕ, List, Option, Some, None, Result, Ok, Err}
use Rattle.nr_bytes.specs.Reading.{◌>>=◌}
use Rattle.nr_config.specs.Config.{Config, max_code, max_pages}
use Rattle.nr_wasmbin.specs.Modules.{decoded}
use Rattle.nr_wasmbin.specs.Kinds.{decode_kind}
use Rattle.nr_wasmbin.specs.declared.fault.DecodeFault.{DecodeFault}
use Rattle.nr_wasmtypes.specs.declared.module.Module.{Module}
use Rattle.nr_wasmvalid.specs.Kinds.{valid_kind}
use Rattle.nr_wasmvalid.specs.declared.fault.ValidFault.{ValidFault}
use Rattle.nr_wasmexec.specs.Making.{MachineView, machine_of, program_of, method_of}
use Rattle.nr_wasmexec.specs.declared.making.MakeFault.{MakeFault}
use Rattle.nr_wasmexec.specs.declared.making.MakeFault.TheVariants as make
use Rattle.nr_contract.specs.Verdicts.{module_verdict}

-- ---- failures, by kind and part
abbrev pub bad_code : ℕ
bad_code = 13

abbrev pub no_method : ℕ
no_method = 14

abbrev pub trapped : ℕ
trapped = 15

abbrev pub failed_binding : ℕ
failed_binding = 16

abbrev pub out_of_gas : ℕ
out_of_gas = 17

-- why the code can't run, by the number of the fault's kind, or by this one where a segment doesn't fit
abbrev pub segment_part : ℕ
segment_part = 21

-- ---- what runs: the machine of the code and the function of the method, or the kind and the part of the failure
abbrev pub named : Module → Option ℕ → Result (Module × ℕ) (ℕ × ℕ)
named m None = Err (no_method, 0)
named m (Some f) = Ok (m, f)

abbrev pub judged : Module → List ℕ → Result (Unit {0}) ValidFault → Result (Module × ℕ) (ℕ × ℕ)
judged m method (Err e) = Err (bad_code, valid_kind e)
judged m method (Ok typed) = named m (method_of (program_of m) method)

abbrev pub read : Config → List ℕ → Result Module DecodeFault → Result (Module × ℕ) (ℕ × ℕ)
read c method (Err e) = Err (bad_code, decode_kind e)
read c method (Ok m) = judged m method (module_verdict (max_pages c) m)

abbrev pub made : ℕ → Result MachineView MakeFault → Result (MachineView × ℕ) (ℕ × ℕ)
made f (Ok m) = Ok (m, f)
made f (Err make.Segment) = Err (bad_code, segment_part)
made f (Err make.Memory) = Err (bad_code, 0)

-- the code is decoded and judged, the method is looked up, and the machine is made
unfoldable pub prepared : Config → List ℕ → List ℕ → Result (MachineView × ℕ) (ℕ × ℕ)
prepared c code method = do
  found ← read c method (decoded (max_code c) code)
  made found.1 (machine_of c found.0)
