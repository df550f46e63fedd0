-- What `replay` and `check` of `near_files` do, as a plan: what `genesis`, `blocks`, then `run` or `check`, and `show
-- report` do one behind another, where each file between them is there as bytes. This project's own.
use Rattle.std.specs.Prelude.{ℕ, List, [], ◌∷◌, ◌++◌, false, Option, Some, None, codes}
use Rattle.nr_config.specs.Config.{Config as Configuration, free}
use Rattle.nr_configfile.specs.Plans.{config_files, config_plan}
use Rattle.nr_files.specs.Command.{Request, meant}
use Rattle.nr_files.specs.Due.{Output, Bytes, Json, Compact}
use Rattle.nr_files.specs.Plans.{by_config, files_of as other_files, plan as other_plan}
use Rattle.nr_files.specs.declared.command.Work.{Work}
use Rattle.nr_files.specs.declared.command.Work.TheVariants.{MakeBlocks, MakeGenesis, ShowReport}
use Rattle.nr_files.specs.declared.status.Status.{Status}
use Rattle.nr_files.specs.declared.status.Status.TheVariants.{Config}
use Rattle.nr_shell.specs.Plans.{Plan, Answer, and_then, with_bytes, map_refusal}
use Rattle.nr_top.specs.Plans.{replay_bytes, schedule_files}
use Rattle.nr_jsonrun.specs.Command.{run_names}
use Rattle.nr_jsonrun.specs.Words.{of_file, of_run}
use Rattle.nr_words.specs.Command.{Names}

abbrev pub request : Work → List ℕ → Request
request work file = record { work = work; compact = false; config = codes "free"; file = file }

-- ---- `genesis` and `blocks`: the bytes that are written, and nothing of what isn't bytes
abbrev pub bytes_of : Output → List ℕ
bytes_of (Bytes bytes) = bytes
bytes_of (Json d) = []
bytes_of (Compact d) = []

abbrev pub made : Work → Configuration → List ℕ → Plan (List ℕ) Status
made work c file =
    and_then (map_refusal (of_file file) (by_config (request work file) c)) (λ output. Answer (bytes_of output))

-- ---- `run`, or with a schedule `check`, over these bytes
abbrev pub ran : Names → Configuration → List ℕ → List ℕ → Plan (List ℕ) Status
ran names c genesis blocks = map_refusal of_run (replay_bytes names names.schedule c genesis blocks)

-- ---- `show report` of this text
abbrev pub report : List ℕ
report = codes "the report"

abbrev pub shown : List ℕ → Plan Output Status
shown text = map_refusal (of_file report) (with_bytes text (by_config (request ShowReport report) free))

-- ---- one behind another; blocks are made and reports are shown under no configuration
abbrev pub over_both : Names → Configuration → List ℕ → List ℕ → Plan Output Status
over_both names c genesis blocks = and_then (ran names c genesis blocks) shown

abbrev pub over_genesis : Names → Configuration → List ℕ → Plan Output Status
over_genesis names c genesis = and_then (made MakeBlocks free names.blocks) (over_both names c genesis)

abbrev pub over_config : Names → Configuration → Plan Output Status
over_config names c = and_then (made MakeGenesis c names.genesis) (over_genesis names c)

abbrev pub jsonrun_plan : Names → Plan Output Status
jsonrun_plan names = and_then (config_plan Config names.config) (over_config names)

-- the files that it asks for
abbrev pub jsonrun_files : Names → List (List ℕ)
jsonrun_files names = config_files names.config ++ names.genesis ∷ names.blocks ∷ schedule_files names.schedule

-- ---- all commands of `near_files`
abbrev pub plan_by : List (List ℕ) → Option Names → Plan Output Status
plan_by words None = other_plan (meant words)
plan_by words (Some names) = jsonrun_plan names

abbrev pub plan : List (List ℕ) → Plan Output Status
plan words = plan_by words (run_names words)

abbrev pub files_by : List (List ℕ) → Option Names → List (List ℕ)
files_by words None = other_files (meant words)
files_by words (Some names) = jsonrun_files names

abbrev pub files_of : List (List ℕ) → List (List ℕ)
files_of words = files_by words (run_names words)
