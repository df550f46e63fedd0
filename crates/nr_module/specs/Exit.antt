-- How a program ends with an answer: its exit status, and what it tells beside it. This project's own.
use Rattle.std.specs.Prelude.{ℕ, List, [], ◌∷◌, codes}
use Rattle.nr_shell.specs.Exit.{told_line}
use Rattle.nr_module.specs.declared.status.Status.{Status}
use Rattle.nr_module.specs.declared.status.Status.TheVariants.{Sound, Unfit, Faulty, Usage, Config, ReadFault}
use Rattle.nr_module.specs.declared.status.Status.TheVariants.{WriteFault}
use Rattle.nr_module.specs.declared.status.Status.TheVariants.{NoMemory}

-- the exit status, and the numbers that it tells
abbrev pub told : Status → ℕ × List ℕ
told Sound = (0, [])
told Unfit = (0, [])
told Faulty = (20, [])
told Usage = (1, [])
told (Config kind entry) = (2, kind ∷ entry ∷ [])
told ReadFault = (5, [])
told WriteFault = (6, [])
told NoMemory = (7, [])

-- the line that tells it: of a valid module of which no machine can be made, what each run of a method that it has
-- answers; else the status with its numbers
abbrev pub note : Status → List ℕ
note Unfit = codes "make 21"
note status = told_line (told status)
