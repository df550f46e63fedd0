-- The words of the command line: `check CONFIG FILE`, `run CONFIG FILE METHOD GAS`, `trap CONFIG FILE METHOD GAS`,
-- `call CONFIG FILE METHOD ARGS GAS` or the same with DEPOSIT behind it, `list FILE`, `text FILE`, `help` or `version`.
-- The commands are this project's own.
use Rattle.std.specs.Prelude.{ℕ, List, [], ◌∷◌, cond, Option, Some, None, codes, option_and_then}
use Rattle.std.specs.Str.{bytes_eq}
use Rattle.nr_words.specs.Forms.{Value, Text, Number, read}
use Rattle.nr_onecall.specs.Setting.{CallRequest}
use Rattle.nr_module.specs.Arguments.{args_in, deposit_in}
use Rattle.nr_module.specs.Help.{forms, paid_forms, help_text, version_text}
use Rattle.nr_module.specs.declared.command.CallNames.{CallNames}
use Rattle.nr_module.specs.declared.command.FileNames.{FileNames}
use Rattle.nr_module.specs.declared.command.View.{View}
use Rattle.nr_module.specs.declared.command.View.TheVariants.{Brief, Whole}
use Rattle.nr_module.specs.declared.command.Work.{Work}
use Rattle.nr_module.specs.declared.command.Work.TheVariants as work
use Rattle.nr_module.specs.declared.command.Words.{Words}
use Rattle.nr_module.specs.declared.command.Words.TheVariants as lent

-- what is done with a module: it is checked, or a method of it is run with so much gas, where a trap may be told with
-- its place
pub data Task : Type 0 where
  Check : Task
  Run : (method : List ℕ) (gas : ℕ) → Task
  Trace : (method : List ℕ) (gas : ℕ) → Task

-- the configuration, `free` or the name of a file, the module's file, and what is done with it
pub record Names : Type 0 where
  pub config : List ℕ
  pub file : List ℕ
  pub task : Task

-- the configuration, the contract's file, and what is called
pub record Call : Type 0 where
  pub config : List ℕ
  pub file : List ℕ
  pub request : CallRequest

-- something is done with a module, a contract is called, the module of a file is shown, or a text is written
pub data Command : Type 0 where
  OfModule : Names → Command
  OfCall : Call → Command
  OfShown : View → List ℕ → Command
  OfText : List ℕ → Command

-- ---- what the words of a form are
abbrev pub check_of : List Value → Option Command
check_of (Text config ∷ Text name ∷ []) = Some (OfModule (record { config = config; file = name; task = Check }))
check_of values = None

abbrev pub run_of : List Value → Option Command
run_of (Text config ∷ Text name ∷ Text method ∷ Number gas ∷ []) =
    Some (OfModule (record { config = config; file = name; task = Run method gas }))
run_of values = None

abbrev pub trap_of : List Value → Option Command
trap_of (Text config ∷ Text name ∷ Text method ∷ Number gas ∷ []) =
    Some (OfModule (record { config = config; file = name; task = Trace method gas }))
trap_of values = None

abbrev pub to_call : List ℕ → List ℕ → List ℕ → Option (List ℕ) → ℕ → ℕ → Option Command
to_call config name method None gas deposit = None
to_call config name method (Some args) gas deposit =
    let asked : CallRequest = record { method = method; args = args; gas = gas; deposit = deposit } in
    Some (OfCall (record { config = config; file = name; request = asked }))

-- no tokens come with it
abbrev pub call_of : List Value → Option Command
call_of (Text config ∷ Text name ∷ Text method ∷ Text args ∷ Number gas ∷ []) =
    to_call config name method (args_in args) gas 0
call_of values = None

abbrev pub to_pay : List ℕ → List ℕ → List ℕ → Option (List ℕ) → ℕ → Option ℕ → Option Command
to_pay config name method args gas None = None
to_pay config name method args gas (Some deposit) = to_call config name method args gas deposit

abbrev pub paid_of : List Value → Option Command
paid_of (Text config ∷ Text name ∷ Text method ∷ Text args ∷ Number gas ∷ Text deposit ∷ []) =
    to_pay config name method (args_in args) gas (deposit_in deposit)
paid_of values = None

abbrev pub view_of : View → List Value → Option Command
view_of view (Text name ∷ []) = Some (OfShown view name)
view_of view values = None

abbrev pub found_command : List ℕ × List Value → Option Command
found_command found = cond (bytes_eq found.0 (codes "check")) (check_of found.1)
    (cond (bytes_eq found.0 (codes "run")) (run_of found.1)
    (cond (bytes_eq found.0 (codes "trap")) (trap_of found.1)
    (cond (bytes_eq found.0 (codes "call")) (call_of found.1)
    (cond (bytes_eq found.0 (codes "list")) (view_of Brief found.1)
    (cond (bytes_eq found.0 (codes "text")) (view_of Whole found.1)
    (cond (bytes_eq found.0 (codes "help")) (Some (OfText help_text))
    (cond (bytes_eq found.0 (codes "version")) (Some (OfText version_text)) None)))))))

-- a call with tokens
abbrev pub paid_by : List ℕ × List Value → Option Command
paid_by found = paid_of found.1

unfoldable pub paid_command : List (List ℕ) → Option Command
paid_command words = option_and_then paid_by (read paid_forms words)

-- words that have no form of the first table may have one of the second
abbrev pub command_by : Option (List ℕ × List Value) → Option Command → Option Command
command_by None paid = paid
command_by (Some found) paid = found_command found

unfoldable pub command : List (List ℕ) → Option Command
command words = command_by (read forms words) (paid_command words)

-- ---- lent words
abbrev pub task_in : Work → Task
task_in work.Check = Check
task_in (work.Run method gas) = Run method.now gas
task_in (work.Trap method gas) = Trace method.now gas

abbrev pub names_in : FileNames → Names
names_in n = record { config = n.config.now; file = n.file.now; task = task_in n.work }

abbrev pub named_request : CallNames → CallRequest
named_request n = record { method = n.method.now; args = n.args; gas = n.gas; deposit = n.deposit }

abbrev pub call_in : CallNames → Call
call_in n = record { config = n.config.now; file = n.file.now; request = named_request n }

abbrev pub command_in : Words → Command
command_in (lent.Module names) = OfModule (names_in names)
command_in (lent.Call names) = OfCall (call_in names)
command_in (lent.Shown view name) = OfShown view name.now
command_in (lent.Text text) = OfText text.now
