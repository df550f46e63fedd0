-- Which answers of the top call are right for a plan, and what the sink then took. This project's own.
use Rattle.std.specs.Prelude.{◌≡◌, ◌⊎◌, ℕ, Bool, true, false, List, [], ◌∷◌, ◌++◌, Option, Result, Ok, Err}
use Rattle.std.specs.Prelude.{string_bytes}
use Rattle.std.specs.Global.{Global}
use Rattle.std.specs.declared.string.String.{String}
use Rattle.serde_json.specs.View.{view}
use Rattle.nr_bytes.specs.Outside.{Grew}
use Rattle.nr_shell.specs.Answers.{Breaks, Comes, Stops}
use Rattle.nr_shell.specs.Plans.{Plan, Answer, Refuse}
use Rattle.nr_shell.specs.Writing.{GrewInPart}
use Rattle.nr_shell.specs.declared.stop.Stop.{Stop}
use Rattle.nr_shell.specs.declared.stop.Stop.TheVariants.{Unread, Memory, Refused}
use Rattle.nr_files.specs.Due.{Output, Bytes, Json, Compact, IsWritten}
use Rattle.nr_files.specs.declared.fault.Fault.{Fault}
use Rattle.nr_files.specs.declared.fault.Fault.TheVariants as fault
use Rattle.nr_files.specs.declared.output.Output.{Output as CodeOutput}
use Rattle.nr_files.specs.declared.output.Output.TheVariants as code
use Rattle.nr_files.specs.declared.halt.Halt.{Halt}
use Rattle.nr_files.specs.declared.status.Status.{Status}
use Rattle.nr_files.specs.declared.status.Status.TheVariants.{Done, Usage, NoSentence, Config, TooLong, Faulty}
use Rattle.nr_files.specs.declared.status.Status.TheVariants.{ReadFault, WriteFault, NoMemory}

-- ---- answers to bytes that are there
abbrev pub output_in : CodeOutput → Output
output_in (code.Bytes bytes) = Bytes bytes
output_in (code.Json value) = Json (view value)
output_in (code.Compact value) = Compact (view value)

-- the fault tells this line, unless memory ran out
abbrev pub Tells : Fault → List ℕ → Type 0
Tells (fault.Words told) line = told ≡ line
Tells fault.Memory line = Unit {0}

-- the fault tells this text, or that there was no memory for it
abbrev pub TellsText : {E : Type 0} → Fault → Result (String Global) E → Type 0
TellsText f (Ok text) = f ≡ fault.Words (string_bytes text)
TellsText f (Err e) = f ≡ fault.Memory

-- the fault is the one that is due
abbrev pub Refuses : {Y : Type 0} → Fault → Result Y (List ℕ) → Type 0
Refuses (fault.Words line) answer = answer ≡ Err line
Refuses fault.Memory answer = Unit {0}

abbrev pub AnswersAs : {X Y : Type 0} → (X → Y) → Result X Fault → Result Y (List ℕ) → Type 0
AnswersAs view (Ok x) answer = answer ≡ Ok (view x)
AnswersAs view (Err f) answer = Refuses f answer

-- ---- answers to words and files
-- a plan refuses words, a configuration, and a file
abbrev pub refuses : Status → Bool
refuses Done = false
refuses Usage = true
refuses NoSentence = true
refuses (Config kind entry) = true
refuses TooLong = true
refuses (Faulty line) = true
refuses (ReadFault name) = false
refuses WriteFault = false
refuses NoMemory = false

-- ---- commands that stop before the writing
-- why, without the file that was loaded last
abbrev pub stopped : {X : Type 0} → Result X Halt → Result X (Stop Status)
stopped (Ok x) = Ok x
stopped (Err halt) = Err halt.stop

-- the last file that was asked for is this one
abbrev pub EndsIn : List (List ℕ) → List ℕ → Type 0
EndsIn asks name = (before : List (List ℕ)) × (asks ≡ before ++ name ∷ [])

-- where a file is unread, it is the one that is told
abbrev pub NamesLast : {X : Type 0} → Result X Halt → List (List ℕ) → Type 0
NamesLast (Ok x) asks = Unit {0}
NamesLast (Err halt) asks = halt.stop ≡ Unread → EndsIn asks halt.file.now

-- the status of a stop, which tells the file that is unread unless there is no memory for its name
abbrev pub IsStatusOf : Stop Status → List ℕ → Status → Type 0
IsStatusOf Unread file status = (status ≡ ReadFault file) ⊎ (status ≡ NoMemory)
IsStatusOf Memory file status = status ≡ NoMemory
IsStatusOf (Refused refusal) file status = status ≡ refusal

-- The answer is right for the plan and the files, only files of the plan were asked for, in their order, and the sink
-- took what belongs to it: what stands for the output, a front of it, or nothing. A file that is unread is the one that
-- was asked for last.
abbrev pub Serves : Status → Plan Output Status → (List ℕ → Option (List ℕ)) → List (List ℕ) → List (List ℕ)
    → Option (List ℕ) → Option (List ℕ) → Type 0
Serves Done plan held asked asks took takes =
    (o : Output) × (bytes : List ℕ) × Comes held asked asks plan (Answer o) × IsWritten o bytes
    × Grew took takes bytes
Serves WriteFault plan held asked asks took takes =
    (o : Output) × (bytes : List ℕ) × Comes held asked asks plan (Answer o) × IsWritten o bytes
    × GrewInPart took takes bytes
Serves (ReadFault name) plan held asked asks took takes =
    Breaks held asked asks plan × EndsIn asks name × (takes ≡ took)
Serves NoMemory plan held asked asks took takes = Stops held asked asks plan × (takes ≡ took)
Serves Usage plan held asked asks took takes = Comes held asked asks plan (Refuse Usage) × (takes ≡ took)
Serves NoSentence plan held asked asks took takes = Comes held asked asks plan (Refuse NoSentence) × (takes ≡ took)
Serves (Config kind entry) plan held asked asks took takes =
    Comes held asked asks plan (Refuse (Config kind entry)) × (takes ≡ took)
Serves TooLong plan held asked asks took takes = Comes held asked asks plan (Refuse TooLong) × (takes ≡ took)
Serves (Faulty line) plan held asked asks took takes =
    Comes held asked asks plan (Refuse (Faulty line)) × (takes ≡ took)
