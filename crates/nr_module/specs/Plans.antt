-- What each command does, as a plan: it asks for the configuration, where it has one, and then for the module's file.
-- This project's own.
use Rattle.std.specs.Prelude.{ℕ, List, [], ◌∷◌, ◌++◌, Option, Some, None}
use Rattle.nr_config.specs.Config.{Config}
use Rattle.nr_configfile.specs.Plans.{config_files, config_plan}
use Rattle.nr_shell.specs.Plans.{Plan, Answer, Refuse, and_then, file_plan}
use Rattle.nr_onecall.specs.Setting.{CallRequest}
use Rattle.nr_module.specs.Command.{Command, OfModule, OfCall, OfShown, OfText, Call, Names, Task, task_in}
use Rattle.nr_module.specs.declared.command.View.{View}
use Rattle.nr_module.specs.declared.question.Loaded.{Loaded}
use Rattle.nr_module.specs.declared.question.Question.{Question as LentQuestion}
use Rattle.nr_module.specs.declared.question.Shown.{Shown}
use Rattle.nr_module.specs.declared.status.Status.{Status}
use Rattle.nr_module.specs.declared.status.Status.TheVariants.{Faulty, Usage, Config as faulty_config}

-- the bytes of a module's file, the configuration that judges them, and what is done with the module
pub record Question : Type 0 where
  pub config : Config
  pub task : Task
  pub bytes : List ℕ

-- what a plan comes to: bytes that are to be judged, called under a configuration, or shown as a module, or a text that
-- is to be written
pub data Due : Type 0 where
  Judge : Question → Due
  Try : Config → CallRequest → List ℕ → Due
  Show : View → List ℕ → Due
  Write : List ℕ → Due

abbrev pub question_in : LentQuestion → Question
question_in q = record { config = q.config; task = task_in q.work; bytes = q.bytes.items }

abbrev pub due_in : LentQuestion → Due
due_in q = Judge (question_in q)

abbrev pub tried_in : CallRequest → Loaded → Due
tried_in q l = Try l.config q l.code.items

abbrev pub shown_in : Shown → Due
shown_in s = Show s.view s.bytes.items

-- the module's file, of at most 64 MiB
abbrev pub by_config : Names → Config → Plan Due Status
by_config names c =
    and_then (file_plan names.file 67108864 Faulty)
    (λ bytes. Answer (Judge (record { config = c; task = names.task; bytes = bytes })))

abbrev pub module_plan : Names → Plan Due Status
module_plan names = and_then (config_plan faulty_config names.config) (by_config names)

abbrev pub code_plan : Call → Config → Plan Due Status
code_plan call c = and_then (file_plan call.file 67108864 Faulty) (λ bytes. Answer (Try c call.request bytes))

abbrev pub call_plan : Call → Plan Due Status
call_plan call = and_then (config_plan faulty_config call.config) (code_plan call)

-- a module is shown under the built-in configuration, which loads no file
abbrev pub shown_plan : View → List ℕ → Plan Due Status
shown_plan view name = and_then (file_plan name 67108864 Faulty) (λ bytes. Answer (Show view bytes))

-- words that are no command are refused
abbrev pub plan : Option Command → Plan Due Status
plan None = Refuse Usage
plan (Some (OfModule names)) = module_plan names
plan (Some (OfCall call)) = call_plan call
plan (Some (OfShown view name)) = shown_plan view name
plan (Some (OfText text)) = Answer (Write text)

-- the files of a command in their order, each of which it asks for once
abbrev pub files_of : Option Command → List (List ℕ)
files_of None = []
files_of (Some (OfModule names)) = config_files names.config ++ names.file ∷ []
files_of (Some (OfCall call)) = config_files call.config ++ call.file ∷ []
files_of (Some (OfShown view name)) = name ∷ []
files_of (Some (OfText text)) = []
