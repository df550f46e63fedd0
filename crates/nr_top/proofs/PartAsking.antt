-- Which files the commands on parts and on gathered chunks ask for, the chain's aside.
use Rattle.std.proofs.Common.{ℕ, ◌+◌, Bool, true, false, cond, List, [], ◌∷◌, subst}
use Rattle.std.proofs.lemmas.List.{append-nil}
use Rattle.nr_chunk.specs.Chain.{Chain}
use Rattle.nr_columns.specs.declared.entry.Entry.{Entry}
use Rattle.nr_course.specs.Course.{Course, height_in, leg_at}
use Rattle.nr_ids.specs.declared.key.Hash32.{Hash32}
use Rattle.nr_parts.specs.Checking.{checked}
use Rattle.nr_parts.specs.Files.{part_in}
use Rattle.nr_parts.specs.Joining.{joined_or_fault}
use Rattle.nr_parts.specs.declared.part.Part.{Part}
use Rattle.nr_shell.specs.Plans.{Plan, Answer, Refuse, Asks, and_then, by_reading, file_plan}
use Rattle.nr_shell.proofs.Ends.{file_asks, reading_asks, then_asks}
use Rattle.nr_top.specs.Roots.{root_in}
use Rattle.nr_top.specs.Chunks.{has_chunk}
use Rattle.nr_top.specs.Gathering.{gather_answer, gather_text, leg_gather}
use Rattle.nr_top.specs.StateParts.{by_part_bytes, check_answer, check_part_plan, cut_answer, join_answer, join_parts_plan, join_status, leg_cut, part_file_plan, part_line, part_names, part_status, part_text, parts_plan, root_line}
use Rattle.nr_top.specs.declared.status.Status.{Status}
use Rattle.nr_top.specs.declared.status.Status.TheVariants.{NoItem, Parts as faulty_parts}
use Rattle.nr_words.specs.declared.words.ChunkPlace.{ChunkPlace}
use Rattle.nr_words.specs.declared.words.StatePart.{StatePart}

-- ---- `part`
leg_cut_asks : (p : StatePart) (x : Chain) → Asks [] (leg_cut p x)
leg_cut_asks p x = by (has_chunk x p.shard p.height)
  where
    by : (b : Bool) → Asks [] (cond {A = Plan (List ℕ) Status} b (Answer (part_text x p)) (Refuse (NoItem 0)))
    by true = tt
    by false = tt

pub cut_asks : (p : StatePart) (o : Course) → Asks [] (cut_answer p o)
cut_asks p o = let x = leg_at o p.height in leg_cut_asks (record p { height = height_in x p.height }) x

-- ---- `gather`
leg_gather_asks : (p : ChunkPlace) (x : Chain) → Asks [] (leg_gather p x)
leg_gather_asks p x = by (has_chunk x p.shard p.height)
  where
    by : (b : Bool) → Asks [] (cond {A = Plan (List ℕ) Status} b (Answer (gather_text x p)) (Refuse (NoItem 0)))
    by true = tt
    by false = tt

pub gather_asks : (p : ChunkPlace) (o : Course) → Asks [] (gather_answer p o)
gather_asks p o = let x = leg_at o p.height in leg_gather_asks (record p { height = height_in x p.height }) x

-- ---- `checkpart`
part_file_asks : (position : ℕ) (name : List ℕ) → Asks (name ∷ []) (part_file_plan position name)
part_file_asks position name =
    then_asks (name ∷ []) [] (file_plan name 268435456 (faulty_parts 0 position)) (by_part_bytes position)
    (file_asks name 268435456 (faulty_parts 0 position)) (λ b. reading_asks (part_status position) (part_in b))

checked_asks : (root : Hash32) (part : Part) → Asks [] (check_answer root part)
checked_asks root part =
    then_asks [] [] (by_reading (part_status 0) (checked root part)) (λ accepted. Answer (part_line part))
    (reading_asks (part_status 0) (checked root part)) (λ accepted. tt)

pub check_part_asks : (root file : List ℕ) → Asks (file ∷ []) (check_part_plan root file)
check_part_asks root file =
    then_asks (file ∷ []) [] (part_file_plan 0 file) (check_answer (root_in root)) (part_file_asks 0 file)
    (checked_asks (root_in root))

-- behind the files no other is asked for
pub all_asks : {A B : Type 0} (names : List (List ℕ)) (p : Plan A Status) (next : A → Plan B Status) → Asks names p → ((a : A) → Asks [] (next a)) → Asks names (and_then p next)
all_asks names p next asks more = subst (λ (files : List (List ℕ)). Asks files (and_then p next)) (append-nil names) (then_asks names [] p next asks more)

-- ---- `joinparts`
parts_asks : (position : ℕ) (names : List (List ℕ)) → Asks names (parts_plan position names)
unfolding parts_plan
parts_asks position [] = tt
parts_asks position (name ∷ names) =
    then_asks (name ∷ []) names (part_file_plan position name) (λ part. and_then (parts_plan (position + 1) names) (λ others. Answer (part ∷ others)))
    (part_file_asks position name) (λ part. all_asks names (parts_plan (position + 1) names) (λ others. Answer (part ∷ others)) (parts_asks (position + 1) names) (λ others. tt))

joined_asks : (root : List ℕ) (parts : List Part) → Asks [] (join_answer root parts)
joined_asks root parts =
    then_asks [] [] (by_reading (join_status (root_in root) parts) (joined_or_fault (root_in root) parts)) (λ (es : List Entry). Answer (root_line root es))
    (reading_asks (join_status (root_in root) parts) (joined_or_fault (root_in root) parts)) (λ es. tt)

pub join_parts_asks : (word : List ℕ) (count : ℕ) (prefix : List ℕ) → Asks (part_names prefix count) (join_parts_plan word count prefix)
join_parts_asks word count prefix =
    all_asks (part_names prefix count) (parts_plan 0 (part_names prefix count)) (join_answer word) (parts_asks 0 (part_names prefix count)) (joined_asks word)
