-- Which verdicts on the bytes of a file are right, and the answer of what is done with a module. Modules by WebAssembly
-- Core 1.0.
use Rattle.std.specs.Prelude.{◌≡◌, ◌≢◌, ℕ, List, Ok, Err}
use Rattle.nr_config.specs.Config.{Config, max_code, max_pages}
use Rattle.nr_wasmtypes.specs.declared.module.Module.{Module}
use Rattle.nr_wasmbin.specs.Modules.{decoded}
use Rattle.nr_wasmbin.specs.declared.fault.DecodeFault.TheVariants as decode
use Rattle.nr_wasmvalid.specs.Modules.{IsValid, IsFirstBreach}
use Rattle.nr_wasmvalid.specs.declared.fault.ValidFault.TheVariants as valid
use Rattle.nr_wasmexec.specs.Making.{machine_of, method_of, program_of}
use Rattle.nr_module.specs.Command.{Task, Check, Run, Trace}
use Rattle.nr_module.specs.Listing.{imported_count}
use Rattle.nr_module.specs.Plans.{Question}
use Rattle.nr_module.specs.Running.{IsCheck, IsRun, IsTrace}
use Rattle.nr_module.specs.declared.verdict.Answer.{Answer}
use Rattle.nr_module.specs.declared.verdict.Verdict.{Verdict}
use Rattle.nr_module.specs.declared.verdict.Verdict.TheVariants.{Undecoded, Invalid, Done}

-- the answer of what is done with a module that is valid, of these bytes
abbrev pub IsAnswer : Config → List ℕ → Module → Task → Answer → Type 0
IsAnswer c bytes m Check a = IsCheck (machine_of c m) a
IsAnswer c bytes m (Run method gas) a = IsRun (method_of (program_of m) method) (machine_of c m) gas a
IsAnswer c bytes m (Trace method gas) a =
    IsTrace bytes (imported_count m) (method_of (program_of m) method) (machine_of c m) gas a

-- what the bytes are: no module by their first fault, no valid one by its first breach, or a valid one with its answer
abbrev pub IsVerdict : Question → Verdict → Type 0
IsVerdict q (Undecoded fault) = (fault ≢ decode.Memory) × (decoded (max_code q.config) q.bytes ≡ Err fault)
IsVerdict q (Invalid fault) =
    (fault ≢ valid.Memory) × (m : Module) × (decoded (max_code q.config) q.bytes ≡ Ok m)
    × IsFirstBreach (max_pages q.config) m fault
IsVerdict q (Done a) =
    (m : Module) × (decoded (max_code q.config) q.bytes ≡ Ok m) × IsValid (max_pages q.config) m
    × IsAnswer q.config q.bytes m q.task a
