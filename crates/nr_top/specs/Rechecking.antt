-- `recheck`: the lines of a chunk that is run again from the file that `gather` writes of it. This project's own.
use Rattle.std.specs.Prelude.{ℕ, List}
use Rattle.nr_config.specs.Config.{Config}
use Rattle.nr_contract.specs.Contract.{call}
use Rattle.nr_gathered.specs.Files.{gathered_in}
use Rattle.nr_gathered.specs.declared.fault.GatheredFault.{GatheredFault}
use Rattle.nr_gathered.specs.declared.fault.GatheredFault.TheVariants as file
use Rattle.nr_gathered.specs.declared.gathered.Gathered.{Gathered}
use Rattle.nr_recheck.specs.Rechecking.{rechecked}
use Rattle.nr_recheck.specs.declared.fault.RecheckFault.{RecheckFault}
use Rattle.nr_recheck.specs.declared.fault.RecheckFault.TheVariants as fault
use Rattle.nr_report.specs.Lines.{chunk_text}
use Rattle.nr_shell.specs.Plans.{Plan, Answer, and_then, by_reading, file_plan}
use Rattle.nr_top.specs.declared.status.Status.{Status}
use Rattle.nr_top.specs.declared.status.Status.TheVariants.{Gathered as faulty_gathered, NoMemory}

-- ---- a gathered chunk, in a file of at most 256 MiB; its faults, by kind and place
abbrev pub gathered_status : GatheredFault → Status
gathered_status (file.Spelling at) = faulty_gathered 1 at
gathered_status (file.Stake at) = faulty_gathered 5 at
gathered_status file.Memory = NoMemory

abbrev pub by_gathered_bytes : List ℕ → Plan Gathered Status
by_gathered_bytes bytes = by_reading gathered_status (gathered_in bytes)

abbrev pub gathered_plan : List ℕ → Plan Gathered Status
gathered_plan name = and_then (file_plan name 268435456 (faulty_gathered 0 0)) by_gathered_bytes

-- ---- the chunk that is run again
abbrev pub recheck_status : RecheckFault → Status
recheck_status fault.Place = faulty_gathered 7 0
recheck_status fault.Missing = faulty_gathered 2 0
recheck_status fault.BadText = faulty_gathered 3 0
recheck_status fault.TooMany = faulty_gathered 8 0
recheck_status fault.NotWorld = faulty_gathered 4 0
recheck_status fault.Bounds = faulty_gathered 6 0
recheck_status fault.Memory = NoMemory

abbrev pub recheck_answer : Config → Gathered → Plan (List ℕ) Status
recheck_answer c g =
    and_then (by_reading recheck_status (rechecked c (call c) g)) (λ report. Answer (chunk_text report))

abbrev pub by_gathered : List ℕ → Config → Plan (List ℕ) Status
by_gathered file c = and_then (gathered_plan file) (recheck_answer c)
