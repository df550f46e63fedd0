-- The configuration that a word of a command names, as a plan. This project's own.
use Rattle.std.specs.Prelude.{ℕ, List, [], ◌∷◌, cond}
use Rattle.nr_config.specs.Config.{Config, free}
use Rattle.nr_config.specs.Reading.{configuration}
use Rattle.nr_config.specs.declared.fault.ConfigFault.{ConfigFault}
use Rattle.nr_config.specs.declared.fault.ConfigFault.TheVariants.{NotJson, Missing, NotWhole, OutOfRange, Memory}
use Rattle.nr_shell.specs.Plans.{Plan, Answer, and_then, by_reading, file_plan}
use Rattle.nr_words.specs.Command.{is_free}

-- what a program refuses a faulty configuration with, by the fault's kind and entry; no bytes lead to want of memory
abbrev pub fault_refusal : {E : Type 0} → (ℕ → ℕ → E) → ConfigFault → E
fault_refusal refusal NotJson = refusal 1 0
fault_refusal refusal (Missing entry) = refusal 2 entry
fault_refusal refusal (NotWhole entry) = refusal 3 entry
fault_refusal refusal (OutOfRange entry) = refusal 4 entry
fault_refusal refusal Memory = refusal 0 0

abbrev pub by_config_bytes : {E : Type 0} → (ℕ → ℕ → E) → List ℕ → Plan Config E
by_config_bytes refusal bytes = by_reading (fault_refusal refusal) (configuration bytes)

-- `free`, the built-in one, or the name of a file of at most 1 MiB
abbrev pub config_plan : {E : Type 0} → (ℕ → ℕ → E) → List ℕ → Plan Config E
config_plan refusal word =
    cond (is_free word) (Answer free) (and_then (file_plan word 1048576 (refusal 0 0)) (by_config_bytes refusal))

-- the files that it asks for: the built-in configuration loads none
abbrev pub config_files : List ℕ → List (List ℕ)
config_files word = cond (is_free word) [] (word ∷ [])
