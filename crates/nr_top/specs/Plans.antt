-- What each command does, as a plan: the files that it asks for in their order, and what it answers or refuses. This
-- project's own commands and limits.
use Rattle.std.specs.Prelude.{ℕ, ◌+◌, cond, nat_lt, List, [], ◌∷◌, ◌++◌, Option, Some, None, length}
use Rattle.nr_words.specs.Command.{Command, Replay, Generate, Roots, Prove, Verify, Cut, CheckPart, JoinParts, Gather}
use Rattle.nr_words.specs.Command.{Recheck, Names}
use Rattle.nr_words.specs.declared.words.ChunkItem.{ChunkItem}
use Rattle.nr_words.specs.declared.words.ChunkPlace.{ChunkPlace}
use Rattle.nr_words.specs.declared.words.StatePart.{StatePart}
use Rattle.nr_configfile.specs.Plans.{config_files, config_plan}
use Rattle.nr_chainfiles.specs.Plans.{by_config, chain_files, chain_plan}
use Rattle.nr_chainfiles.specs.declared.loading.ChainFiles.{ChainFiles}
use Rattle.nr_chunk.specs.Chain.{shards_of}
use Rattle.nr_course.specs.Course.{Course}
use Rattle.nr_course.specs.Texts.{course_text}
use Rattle.nr_course.specs.declared.turn.Turn.{Turn}
use Rattle.nr_schedule.specs.Checking.{check_text}
use Rattle.nr_schedule.specs.Schedule.{schedule_read}
use Rattle.nr_schedule.specs.declared.schedule.Line.{Line}
use Rattle.nr_schedule.specs.declared.schedule.ScheduleFault.{ScheduleFault}
use Rattle.nr_schedule.specs.declared.schedule.ScheduleFault.TheVariants as schedule
use Rattle.nr_config.specs.Config.{Config}
use Rattle.nr_shell.specs.Plans.{Plan, Answer, Refuse, and_then, by_reading, file_plan, with_bytes}
use Rattle.nr_top.specs.Gathering.{gather_answer}
use Rattle.nr_top.specs.Generated.{generated_text}
use Rattle.nr_top.specs.Proving.{by_item, by_proof_bytes, roots_text}
use Rattle.nr_top.specs.Rechecking.{by_gathered}
use Rattle.nr_top.specs.Roots.{root_in}
use Rattle.nr_top.specs.Run.{loaded}
use Rattle.nr_top.specs.StateParts.{check_part_plan, cut_answer, join_parts_plan, part_names}
use Rattle.nr_top.specs.declared.status.Status.{Status}
use Rattle.nr_top.specs.declared.status.Status.TheVariants.{Usage, Config as faulty_config, Genesis as faulty_genesis}
use Rattle.nr_top.specs.declared.status.Status.TheVariants.{Blocks as faulty_blocks, Schedule as faulty_schedule}
use Rattle.nr_top.specs.declared.status.Status.TheVariants.{Proof as faulty_proof, NoMemory}

-- ---- the lines of a schedule for so many shards, in a file of at most 1 MiB; its faults, by kind and line
abbrev pub schedule_status : ScheduleFault → Status
schedule_status (schedule.NoLine n) = faulty_schedule 1 n
schedule_status schedule.Memory = NoMemory

abbrev pub by_schedule_bytes : ℕ → List ℕ → Plan (List Line) Status
by_schedule_bytes shards bytes = by_reading schedule_status (schedule_read shards bytes)

abbrev pub schedule_plan : ℕ → List ℕ → Plan (List Line) Status
schedule_plan shards name = and_then (file_plan name 1048576 (faulty_schedule 0 0)) (by_schedule_bytes shards)

-- ---- the run of the three files of a chain
abbrev pub files_plan : Names → Plan ChainFiles Status
files_plan names = chain_plan faulty_config faulty_genesis faulty_blocks names

abbrev pub course_plan : Names → Plan Course Status
course_plan names = and_then (files_plan names) (λ files. Answer (loaded files))

-- ---- commands
-- `run` and `replay`
abbrev pub run_plan : Names → Plan (List ℕ) Status
run_plan names = and_then (course_plan names) (λ o. Answer (course_text o))

-- `check`, over a schedule that names the shards of any leg: as many as the greater of the two shard counts
abbrev pub most_by : ℕ → Option Turn → ℕ
most_by shards None = shards
most_by shards (Some t) = cond (nat_lt shards (length t.layout + 1)) (length t.layout + 1) shards

abbrev pub most_shards : Course → ℕ
most_shards o = most_by (shards_of o.first) o.turn

abbrev pub by_course : List ℕ → Course → Plan (List ℕ) Status
by_course file o = and_then (schedule_plan (most_shards o) file) (λ lines. Answer (check_text o lines))

abbrev pub check_plan : Names → List ℕ → Plan (List ℕ) Status
check_plan names file = and_then (course_plan names) (by_course file)

abbrev pub replay_plan : Names → Option (List ℕ) → Plan (List ℕ) Status
replay_plan names None = run_plan names
replay_plan names (Some file) = check_plan names file

-- ---- the same behind the configuration
abbrev pub course_by : Names → Config → Plan Course Status
course_by names c =
    and_then (by_config faulty_config faulty_genesis faulty_blocks names c) (λ files. Answer (loaded files))

abbrev pub replay_by : Names → Option (List ℕ) → Config → Plan (List ℕ) Status
replay_by names None c = and_then (course_by names c) (λ o. Answer (course_text o))
replay_by names (Some file) c = and_then (course_by names c) (by_course file)

-- where the files of the genesis and of the blocks have these bytes
abbrev pub replay_bytes : Names → Option (List ℕ) → Config → List ℕ → List ℕ → Plan (List ℕ) Status
replay_bytes names schedule c genesis blocks = with_bytes blocks (with_bytes genesis (replay_by names schedule c))

-- `roots`
abbrev pub roots_plan : Names → Plan (List ℕ) Status
roots_plan names = and_then (course_plan names) (λ o. Answer (roots_text o))

-- `prove`
abbrev pub prove_plan : Names → ChunkItem → Plan (List ℕ) Status
prove_plan names item = and_then (course_plan names) (by_item item)

-- `verify`, over a file of at most 256 MiB
abbrev pub verify_plan : List ℕ → List ℕ → Plan (List ℕ) Status
verify_plan root name = and_then (file_plan name 268435456 (faulty_proof 0 0)) (by_proof_bytes (root_in root))

-- `part`
abbrev pub part_plan : Names → StatePart → Plan (List ℕ) Status
part_plan names part = and_then (course_plan names) (cut_answer part)

-- `gather`
abbrev pub gather_plan : Names → ChunkPlace → Plan (List ℕ) Status
gather_plan names chunk = and_then (course_plan names) (gather_answer chunk)

-- `recheck`
abbrev pub recheck_plan : List ℕ → List ℕ → Plan (List ℕ) Status
recheck_plan word file = and_then (config_plan faulty_config word) (by_gathered file)

-- `gen` asks for no file
abbrev pub command_plan : Command → Plan (List ℕ) Status
command_plan (Replay names) = replay_plan names names.schedule
command_plan (Generate start shards blocks) = Answer (generated_text start shards blocks)
command_plan (Roots names) = roots_plan names
command_plan (Prove names item) = prove_plan names item
command_plan (Verify root name) = verify_plan root name
command_plan (Cut names part) = part_plan names part
command_plan (CheckPart word file) = check_part_plan word file
command_plan (JoinParts word count prefix) = join_parts_plan word count prefix
command_plan (Gather names chunk) = gather_plan names chunk
command_plan (Recheck config file) = recheck_plan config file

-- words that are no command are refused
abbrev pub plan : Option Command → Plan (List ℕ) Status
plan None = Refuse Usage
plan (Some c) = command_plan c

-- ---- the files of a command in their order, each of which it asks for once
abbrev pub schedule_files : Option (List ℕ) → List (List ℕ)
schedule_files None = []
schedule_files (Some file) = file ∷ []

abbrev pub files_of : Option Command → List (List ℕ)
files_of None = []
files_of (Some (Replay names)) = chain_files names ++ schedule_files names.schedule
files_of (Some (Generate start shards blocks)) = []
files_of (Some (Roots names)) = chain_files names
files_of (Some (Prove names item)) = chain_files names
files_of (Some (Verify root name)) = name ∷ []
files_of (Some (Cut names part)) = chain_files names
files_of (Some (CheckPart word file)) = file ∷ []
files_of (Some (JoinParts word count prefix)) = part_names prefix count
files_of (Some (Gather names chunk)) = chain_files names
files_of (Some (Recheck config file)) = config_files config ++ file ∷ []
