-- How a program ends with an answer: its exit status, and the line that tells it. This project's own.
use Rattle.std.specs.Prelude.{ℕ, List, [], ◌∷◌, ◌++◌, decimal}
use Rattle.nr_shell.specs.Exit.{spaced}
use Rattle.nr_top.specs.declared.status.Status.{Status}
use Rattle.nr_top.specs.declared.status.Status.TheVariants.{Done, Usage, Config, Genesis, Blocks, Schedule, Proof}
use Rattle.nr_top.specs.declared.status.Status.TheVariants.{NoItem, Gathered, Parts, ReadFault, WriteFault, NoMemory}

-- the exit status, and the numbers that it tells
abbrev pub told : Status → ℕ × List ℕ
told Done = (0, [])
told Usage = (1, [])
told (Config kind entry) = (2, kind ∷ entry ∷ [])
told (Genesis kind a b c) = (3, kind ∷ a ∷ b ∷ c ∷ [])
told (Blocks kind a) = (4, kind ∷ a ∷ [])
told ReadFault = (5, [])
told WriteFault = (6, [])
told NoMemory = (7, [])
told (Schedule kind line) = (8, kind ∷ line ∷ [])
told (Proof kind line) = (10, kind ∷ line ∷ [])
told (NoItem count) = (11, count ∷ [])
told (Gathered kind a) = (12, kind ∷ a ∷ [])
told (Parts kind a) = (13, kind ∷ a ∷ [])

-- the exit status and the numbers, parted by single spaces
abbrev pub status_line : Status → List ℕ
status_line status = decimal (told status).0 ++ spaced (told status).1
