-- Which answers of the top call are right for a plan, and what the sink then took. This project's own.
use Rattle.std.specs.Prelude.{◌≡◌, ◌≢◌, ℕ, Bool, true, false, List, [], ◌∷◌, ◌++◌, length, Option, Result, Ok, Err}
use Rattle.std.specs.Prelude.{codes, cond, string_bytes}
use Rattle.std.specs.declared.alloc.AllocError.{AllocError}
use Rattle.nr_bytes.specs.Outside.{Grew}
use Rattle.nr_config.specs.Config.{free, max_code}
use Rattle.nr_shell.specs.Answers.{Breaks, Comes, Stops}
use Rattle.nr_shell.specs.Plans.{Plan, Answer, Refuse, Ask}
use Rattle.nr_shell.specs.Writing.{GrewInPart}
use Rattle.nr_shell.specs.declared.stop.Stop.{Stop}
use Rattle.nr_shell.specs.declared.stop.Stop.TheVariants.{Unread, Memory, Refused}
use Rattle.nr_wasmbin.specs.Modules.{decoded}
use Rattle.nr_wasmbin.specs.declared.fault.DecodeFault.{DecodeFault}
use Rattle.nr_wasmbin.specs.declared.fault.DecodeFault.TheVariants as decode
use Rattle.nr_wasmtypes.specs.declared.module.Module.{Module}
use Rattle.nr_wat.specs.Fields.{module_text as whole_text}
use Rattle.nr_state.specs.Calls.{Called}
use Rattle.nr_onecall.specs.Setting.{called_of}
use Rattle.nr_onecall.specs.Texts.{called_text, has_ended}
use Rattle.nr_module.specs.Lines.{decode_text, rated, verdict_text}
use Rattle.nr_module.specs.Listing.{module_text}
use Rattle.nr_module.specs.Plans.{Question, Due, Judge, Show, Try, Write}
use Rattle.nr_module.specs.Verdicts.{IsVerdict}
use Rattle.nr_module.specs.declared.command.View.{View}
use Rattle.nr_module.specs.declared.command.View.TheVariants.{Brief, Whole}
use Rattle.nr_module.specs.declared.status.Status.{Status}
use Rattle.nr_module.specs.declared.status.Status.TheVariants.{Sound, Unfit, Faulty, Usage, Config, ReadFault}
use Rattle.nr_module.specs.declared.status.Status.TheVariants.{WriteFault}
use Rattle.nr_module.specs.declared.status.Status.TheVariants.{NoMemory}
use Rattle.nr_module.specs.declared.telling.Line.{Line}
use Rattle.nr_module.specs.declared.verdict.Rating.{Rating}
use Rattle.nr_module.specs.declared.verdict.Rating.TheVariants as rating
use Rattle.nr_module.specs.declared.verdict.Verdict.{Verdict}

-- a plan refuses words, a configuration, and a module's file that is too long
abbrev pub refuses : Status → Bool
refuses Sound = false
refuses Unfit = false
refuses Faulty = true
refuses Usage = true
refuses (Config kind entry) = true
refuses ReadFault = false
refuses WriteFault = false
refuses NoMemory = false

-- the answer of a command that stopped before it had a line
abbrev pub stop_status : Stop Status → Status
stop_status Unread = ReadFault
stop_status Memory = NoMemory
stop_status (Refused status) = status

-- the line of a right verdict on bytes, and how well it is
abbrev pub TellsVerdict : Question → List ℕ → Rating → Type 0
TellsVerdict q line r = (v : Verdict) × IsVerdict q v × (line ≡ verdict_text v) × (r ≡ rated v)

-- the lines of a call, which is well where it came to its end
abbrev pub rated_end : Bool → Rating
rated_end ended = cond ended rating.Sound rating.Faulty

abbrev pub TellsCall : Called → List ℕ → Rating → Type 0
TellsCall called line r = (line ≡ called_text called) × (r ≡ rated_end (has_ended called))

-- a text, which is well
abbrev pub TellsText : List ℕ → List ℕ → Rating → Type 0
TellsText text line r = (line ≡ text) × (r ≡ rating.Sound)

-- what shows a module, whose file has so many bytes
abbrev pub view_text : View → ℕ → Module → List ℕ
view_text Brief size m = module_text size m
view_text Whole size m = whole_text m

-- the lines of what is decoded, which is well, or the line of the first fault
abbrev pub TellsDecoded : View → ℕ → Result Module DecodeFault → List ℕ → Rating → Type 0
TellsDecoded view size (Ok m) line r = (line ≡ view_text view size m) × (r ≡ rating.Sound)
TellsDecoded view size (Err fault) line r = (fault ≢ decode.Memory) × (line ≡ decode_text fault) × (r ≡ rating.Faulty)

-- those of a file's bytes
abbrev pub TellsShown : View → List ℕ → List ℕ → Rating → Type 0
TellsShown view bytes line r = TellsDecoded view (length bytes) (decoded (max_code free) bytes) line r

-- what tells an end of a plan: the line of a verdict on what the files give, the lines of a call or of a module, a
-- text, or `long` for a file that is too long
abbrev pub TellsEnd : Plan Due Status → List ℕ → Rating → Type 0
TellsEnd (Answer (Judge q)) line r = TellsVerdict q line r
TellsEnd (Answer (Try c q code)) line r = TellsCall (called_of c code q) line r
TellsEnd (Answer (Show view bytes)) line r = TellsShown view bytes line r
TellsEnd (Answer (Write text)) line r = TellsText text line r
TellsEnd (Refuse status) line r = (status ≡ Faulty) × (line ≡ codes "long" ++ 10 ∷ []) × (r ≡ rating.Faulty)
TellsEnd (Ask name limit long by_bytes) line r = ⊥

-- a line that tells the end to which the files lead was written
pub record Writes (r : Rating) (plan : Plan Due Status) (held : List ℕ → Option (List ℕ)) (asked asks : List (List ℕ))
    (took takes : Option (List ℕ)) : Type 0 where
  pub end : Plan Due Status
  pub line : List ℕ
  pub comes : Comes held asked asks plan end
  pub tells : TellsEnd end line r
  pub grew : Grew took takes line

-- or a front of it
pub record Begins (plan : Plan Due Status) (held : List ℕ → Option (List ℕ)) (asked asks : List (List ℕ))
    (took takes : Option (List ℕ)) : Type 0 where
  pub end : Plan Due Status
  pub line : List ℕ
  pub rated_as : Rating
  pub comes : Comes held asked asks plan end
  pub tells : TellsEnd end line rated_as
  pub grew : GrewInPart took takes line

-- The answer is right for the plan and the files, only files of the plan were asked for, in their order, and the sink
-- took what belongs to it.
abbrev pub Serves : Status → Plan Due Status → (List ℕ → Option (List ℕ)) → List (List ℕ) → List (List ℕ)
    → Option (List ℕ) → Option (List ℕ) → Type 0
Serves Sound plan held asked asks took takes = Writes rating.Sound plan held asked asks took takes
Serves Unfit plan held asked asks took takes = Writes rating.Unfit plan held asked asks took takes
Serves Faulty plan held asked asks took takes = Writes rating.Faulty plan held asked asks took takes
Serves WriteFault plan held asked asks took takes = Begins plan held asked asks took takes
Serves ReadFault plan held asked asks took takes = Breaks held asked asks plan × (takes ≡ took)
Serves NoMemory plan held asked asks took takes = Stops held asked asks plan × (takes ≡ took)
Serves Usage plan held asked asks took takes = Comes held asked asks plan (Refuse Usage) × (takes ≡ took)
Serves (Config kind entry) plan held asked asks took takes =
    Comes held asked asks plan (Refuse (Config kind entry)) × (takes ≡ took)

-- what the telling of a line comes to, where memory sufficed for it: the sink took it, or a front of it
abbrev pub Told : Result Line AllocError → Status → Option (List ℕ) → Option (List ℕ) → Type 0
Told (Ok line) Sound took takes = (line.rating ≡ rating.Sound) × Grew took takes (string_bytes line.text)
Told (Ok line) Unfit took takes = (line.rating ≡ rating.Unfit) × Grew took takes (string_bytes line.text)
Told (Ok line) Faulty took takes = (line.rating ≡ rating.Faulty) × Grew took takes (string_bytes line.text)
Told (Ok line) WriteFault took takes = GrewInPart took takes (string_bytes line.text)
Told (Ok line) Usage took takes = ⊥
Told (Ok line) (Config kind entry) took takes = ⊥
Told (Ok line) ReadFault took takes = ⊥
Told (Ok line) NoMemory took takes = ⊥
Told (Err fault) status took takes = (status ≡ NoMemory) × (takes ≡ took)
