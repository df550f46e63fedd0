-- Refusals in words. This project's own.
use Rattle.std.specs.Prelude.{ℕ, List, [], ◌∷◌, ◌++◌, Option, Some, None, codes, unwrap_or}
use Rattle.nr_explain.specs.Programs.{told_of}
use Rattle.nr_files.specs.Lines.{too_long}
use Rattle.nr_files.specs.declared.status.Status.{Status}
use Rattle.nr_files.specs.declared.status.Status.TheVariants.{Done, Usage, NoSentence, Config, TooLong, Faulty}
use Rattle.nr_files.specs.declared.status.Status.TheVariants.{ReadFault, WriteFault, NoMemory}
use Rattle.nr_top.specs.Exit.{status_line}
use Rattle.nr_top.specs.declared.status.Status.{Status as RunStatus}

-- ---- a refusal of a file, with the file's name before it
abbrev pub named : List ℕ → List ℕ → Status
named file line = Faulty (file ++ (codes ": " ++ line))

abbrev pub of_file : List ℕ → Status → Status
of_file file Done = Done
of_file file Usage = Usage
of_file file NoSentence = NoSentence
of_file file (Config kind entry) = Config kind entry
of_file file TooLong = named file too_long
of_file file (Faulty line) = named file line
of_file file (ReadFault name) = ReadFault name
of_file file WriteFault = WriteFault
of_file file NoMemory = NoMemory

-- ---- a refusal of a run: what `explain` says of the line by which `near_serial` tells it, or the line where it says
-- nothing
abbrev pub sentence_of : List ℕ → List ℕ
sentence_of line = unwrap_or (told_of (codes "near_serial" ∷ line ∷ [])) line

abbrev pub of_run : RunStatus → Status
of_run status = Faulty (sentence_of (status_line status))

-- ---- the file that is loaded last, where a schedule is
abbrev pub last_name : Option (List ℕ) → List ℕ
last_name None = []
last_name (Some schedule) = schedule
