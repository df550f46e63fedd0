-- Which answers of the top call are right for a plan, and what the sink then took. This project's own.
use Rattle.std.specs.Prelude.{ℕ, Bool, List, Option}
use Rattle.nr_shell.specs.Classes.{Class, CutShort, Exhausted, Refusal, ServesAs, Unreadable, Written, is_refusal}
use Rattle.nr_shell.specs.Plans.{Plan}
use Rattle.nr_shell.specs.declared.stop.Stop.{Stop}
use Rattle.nr_shell.specs.declared.stop.Stop.TheVariants.{Unread, Memory, Refused}
use Rattle.nr_audit.specs.declared.status.Status.{Status}
use Rattle.nr_audit.specs.declared.status.Status.TheVariants.{Done, Usage, Config, Genesis, Blocks}
use Rattle.nr_audit.specs.declared.status.Status.TheVariants.{ReadFault, WriteFault, NoMemory}

-- what each status says
abbrev pub class : Status → Class
class Done = Written
class WriteFault = CutShort
class ReadFault = Unreadable
class NoMemory = Exhausted
class Usage = Refusal
class (Config kind entry) = Refusal
class (Genesis kind a b c) = Refusal
class (Blocks kind a) = Refusal

abbrev pub refuses : Status → Bool
refuses status = is_refusal (class status)

-- the answer of a command that stopped before the writing
abbrev pub stop_status : Stop Status → Status
stop_status Unread = ReadFault
stop_status Memory = NoMemory
stop_status (Refused status) = status

-- The answer is right for the plan and the files, only files of the plan were asked for, in their order, and the sink
-- took what belongs to it.
abbrev pub Serves : Status → Plan (List ℕ) Status → (List ℕ → Option (List ℕ)) → List (List ℕ) → List (List ℕ)
    → Option (List ℕ) → Option (List ℕ) → Type 0
Serves status plan held asked asks took takes = ServesAs (class status) status plan held asked asks took takes
