-- How a program ends with an answer: its exit status, and the line that tells it. This project's own.
use Rattle.std.specs.Prelude.{ℕ, List, ◌∷◌, ◌++◌, codes, decimal}
use Rattle.nr_files.specs.Help.{help_text}
use Rattle.nr_files.specs.Lines.{too_long}
use Rattle.nr_files.specs.declared.status.Status.{Status}
use Rattle.nr_files.specs.declared.status.Status.TheVariants.{Done, Usage, NoSentence, Config, TooLong, Faulty}
use Rattle.nr_files.specs.declared.status.Status.TheVariants.{ReadFault, WriteFault, NoMemory}

abbrev pub exit_status : Status → ℕ
exit_status Done = 0
exit_status Usage = 1
exit_status NoSentence = 21
exit_status (Config kind entry) = 2
exit_status TooLong = 20
exit_status (Faulty line) = 20
exit_status (ReadFault name) = 5
exit_status WriteFault = 6
exit_status NoMemory = 7

-- of words that are no command the words of all commands, and why a file or a line is refused or couldn't be read, in
-- words; otherwise the exit status and the numbers, parted by single spaces
abbrev pub status_line : Status → List ℕ
status_line Done = decimal 0
status_line Usage = codes "The words are no command. These are:" ++ 10 ∷ help_text
status_line NoSentence = codes "There is no sentence for these words."
status_line (Config kind entry) = decimal 2 ++ 32 ∷ decimal kind ++ 32 ∷ decimal entry
status_line TooLong = too_long
status_line (Faulty line) = line
status_line (ReadFault name) = codes "the file " ++ (name ++ codes " can't be read")
status_line WriteFault = decimal 6
status_line NoMemory = decimal 7
