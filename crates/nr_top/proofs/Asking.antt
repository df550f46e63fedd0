-- Which files the plan of a command asks for.
use Rattle.std.proofs.Common.{ℕ, List, [], ◌∷◌, ◌++◌, length, Option, Some, None, Result, Ok, Err}
use Rattle.nr_chainfiles.specs.Plans.{by_config, chain_files}
use Rattle.nr_chainfiles.proofs.Asking.{by_config_asks, chain_asks}
use Rattle.nr_course.specs.Course.{Course, height_in, leg_at}
use Rattle.nr_course.specs.Texts.{course_text}
use Rattle.nr_config.specs.Config.{Config}
use Rattle.nr_configfile.specs.Plans.{config_files, config_plan}
use Rattle.nr_configfile.proofs.Asking.{config_asks}
use Rattle.nr_ids.specs.declared.key.Hash32.{Hash32}
use Rattle.nr_outproof.specs.Proofs.{proof_of}
use Rattle.nr_outproof.specs.Items.{items}
use Rattle.nr_outproof.specs.Texts.{proof_read}
use Rattle.nr_outproof.specs.declared.fault.ProofFault.{ProofFault}
use Rattle.nr_outproof.specs.declared.proof.Proof.{Proof}
use Rattle.nr_records.specs.declared.chunk_result.ChunkResult.{ChunkResult}
use Rattle.nr_contract.specs.Contract.{call}
use Rattle.nr_gathered.specs.Files.{gathered_in}
use Rattle.nr_gathered.specs.declared.gathered.Gathered.{Gathered}
use Rattle.nr_recheck.specs.Rechecking.{rechecked}
use Rattle.nr_report.specs.Lines.{chunk_text}
use Rattle.nr_top.specs.Rechecking.{by_gathered, by_gathered_bytes, gathered_plan, gathered_status, recheck_answer, recheck_status}
use Rattle.nr_shell.specs.Plans.{Plan, Answer, Asks, and_then, by_reading, file_plan}
use Rattle.nr_shell.proofs.Ends.{file_asks, reading_asks, then_asks}
use Rattle.nr_shell.proofs.WithBytes.{both_asks}
use Rattle.nr_top.specs.Plans.{by_course, by_schedule_bytes, course_by, course_plan, files_of, files_plan, most_shards, plan, prove_plan, recheck_plan, replay_by, replay_bytes, replay_plan, schedule_files, schedule_plan, schedule_status, verify_plan}
use Rattle.nr_top.specs.Chunks.{result_at}
use Rattle.nr_top.specs.Proving.{by_chunk, by_item, by_proof, by_proof_bytes, by_proof_read, roots_text}
use Rattle.nr_top.specs.Roots.{root_in}
use Rattle.nr_top.specs.Run.{loaded}
use Rattle.nr_schedule.specs.Checking.{check_text}
use Rattle.nr_schedule.specs.Schedule.{schedule_read}
use Rattle.nr_top.specs.Gathering.{gather_answer}
use Rattle.nr_top.specs.StateParts.{cut_answer}
use Rattle.nr_top.proofs.PartAsking.{all_asks, check_part_asks, cut_asks, gather_asks, join_parts_asks}
use Rattle.nr_top.specs.declared.status.Status.{Status}
use Rattle.nr_top.specs.declared.status.Status.TheVariants.{Config as faulty_config, Genesis as faulty_genesis, Blocks as faulty_blocks, Schedule as faulty_schedule, Proof as faulty_proof, Gathered as faulty_gathered}
use Rattle.nr_words.specs.Command.{Command, Replay, Generate, Roots, Prove, Verify, Cut, CheckPart, JoinParts, Gather, Recheck, Names}
use Rattle.nr_words.specs.declared.words.ChunkItem.{ChunkItem}

-- a file, behind whose bytes no other is asked for
file_alone : {A : Type 0} (name : List ℕ) (limit : ℕ) (long : Status) (next : List ℕ → Plan A Status) → ((bytes : List ℕ) → Asks [] (next bytes)) → Asks (name ∷ []) (and_then (file_plan name limit long) next)
file_alone name limit long next more = then_asks (name ∷ []) [] (file_plan name limit long) next (file_asks name limit long) more

schedule_asks : (shards : ℕ) (name : List ℕ) → Asks (name ∷ []) (schedule_plan shards name)
schedule_asks shards name = file_alone name 1048576 (faulty_schedule 0 0) (by_schedule_bytes shards) (λ b. reading_asks schedule_status (schedule_read shards b))

-- ---- the chain
course_asks : (names : Names) → Asks (chain_files names) (course_plan names)
course_asks names =
    all_asks (chain_files names) (files_plan names) (λ files. Answer (loaded files))
    (chain_asks faulty_config faulty_genesis faulty_blocks names) (λ files. tt)

-- ---- commands
by_course_asks : (file : List ℕ) (o : Course) → Asks (file ∷ []) (by_course file o)
by_course_asks file o =
    then_asks (file ∷ []) [] (schedule_plan (most_shards o) file) (λ lines. Answer (check_text o lines))
    (schedule_asks (most_shards o) file) (λ lines. tt)

replay_asks : (names : Names) (schedule : Option (List ℕ)) → Asks (chain_files names ++ schedule_files schedule) (replay_plan names schedule)
replay_asks names None = then_asks (chain_files names) [] (course_plan names) (λ o. Answer (course_text o)) (course_asks names) (λ o. tt)
replay_asks names (Some file) = then_asks (chain_files names) (file ∷ []) (course_plan names) (by_course file) (course_asks names) (by_course_asks file)

-- ---- behind the configuration
pub course_by_asks : (names : Names) (c : Config) → Asks (names.genesis ∷ names.blocks ∷ []) (course_by names c)
course_by_asks names c =
    then_asks (names.genesis ∷ names.blocks ∷ []) [] (by_config faulty_config faulty_genesis faulty_blocks names c) (λ files. Answer (loaded files))
    (by_config_asks faulty_config faulty_genesis faulty_blocks names c) (λ files. tt)

replay_by_asks : (names : Names) (schedule : Option (List ℕ)) (c : Config) → Asks (names.genesis ∷ names.blocks ∷ schedule_files schedule) (replay_by names schedule c)
replay_by_asks names None c = then_asks (names.genesis ∷ names.blocks ∷ []) [] (course_by names c) (λ o. Answer (course_text o)) (course_by_asks names c) (λ o. tt)
replay_by_asks names (Some file) c = then_asks (names.genesis ∷ names.blocks ∷ []) (file ∷ []) (course_by names c) (by_course file) (course_by_asks names c) (by_course_asks file)

pub replay_bytes_asks : (names : Names) (schedule : Option (List ℕ)) (c : Config) (genesis blocks : List ℕ) → Asks (schedule_files schedule) (replay_bytes names schedule c genesis blocks)
replay_bytes_asks names schedule c genesis blocks =
    both_asks genesis blocks names.genesis names.blocks (schedule_files schedule) (replay_by names schedule c) (replay_by_asks names schedule c)

-- the chain, behind whose files no other is asked for
course_alone : (names : Names) (next : Course → Plan (List ℕ) Status) → ((o : Course) → Asks [] (next o)) → Asks (chain_files names) (and_then (course_plan names) next)
course_alone names next more = all_asks (chain_files names) (course_plan names) next (course_asks names) more

proof_asks : (count : ℕ) (p : Option Proof) → Asks [] (by_proof count p)
proof_asks count None = tt
proof_asks count (Some p) = tt

chunk_asks : (item : ChunkItem) (y : Option ChunkResult) → Asks [] (by_chunk item y)
chunk_asks item None = tt
chunk_asks item (Some y) = proof_asks (length (items item.kind y)) (proof_of y item.kind item.place)

prove_asks : (names : Names) (item : ChunkItem) → Asks (chain_files names) (prove_plan names item)
prove_asks names item =
    course_alone names (by_item item)
    (λ o. let x = leg_at o item.height in chunk_asks item (result_at x item.shard (height_in x item.height)))

proof_read_asks : (root : Hash32) (r : Result Proof ProofFault) → Asks [] (by_proof_read root r)
proof_read_asks root (Ok p) = tt
proof_read_asks root (Err f) = tt

verify_asks : (root name : List ℕ) → Asks (name ∷ []) (verify_plan root name)
verify_asks root name =
    file_alone name 268435456 (faulty_proof 0 0) (by_proof_bytes (root_in root)) (λ b. proof_read_asks (root_in root) (proof_read b))

answer_asks : (c : Config) (g : Gathered) → Asks [] (recheck_answer c g)
answer_asks c g =
    then_asks [] [] (by_reading recheck_status (rechecked c (call c) g)) (λ (report : ChunkResult). Answer (chunk_text report))
    (reading_asks recheck_status (rechecked c (call c) g)) (λ report. tt)

gathered_asks : (name : List ℕ) → Asks (name ∷ []) (gathered_plan name)
gathered_asks name = file_alone name 268435456 (faulty_gathered 0 0) by_gathered_bytes (λ b. reading_asks gathered_status (gathered_in b))

by_gathered_asks : (file : List ℕ) (c : Config) → Asks (file ∷ []) (by_gathered file c)
by_gathered_asks file c = then_asks (file ∷ []) [] (gathered_plan file) (recheck_answer c) (gathered_asks file) (answer_asks c)

recheck_asks : (word file : List ℕ) → Asks (config_files word ++ file ∷ []) (recheck_plan word file)
recheck_asks word file = then_asks (config_files word) (file ∷ []) (config_plan faulty_config word) (by_gathered file) (config_asks faulty_config word) (by_gathered_asks file)

pub plan_asks : (asked : Option Command) → Asks (files_of asked) (plan asked)
plan_asks None = tt
plan_asks (Some (Replay names)) = replay_asks names names.schedule
plan_asks (Some (Generate start shards blocks)) = tt
plan_asks (Some (Roots names)) = course_alone names (λ o. Answer (roots_text o)) (λ o. tt)
plan_asks (Some (Prove names item)) = prove_asks names item
plan_asks (Some (Verify root name)) = verify_asks root name
plan_asks (Some (Cut names part)) = course_alone names (cut_answer part) (cut_asks part)
plan_asks (Some (CheckPart word file)) = check_part_asks word file
plan_asks (Some (JoinParts word count prefix)) = join_parts_asks word count prefix
plan_asks (Some (Gather names chunk)) = course_alone names (gather_answer chunk) (gather_asks chunk)
plan_asks (Some (Recheck config file)) = recheck_asks config file
