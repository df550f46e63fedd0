-- The commands on parts of a state: what is cut out of a run, and what is written of parts in files. This project's
-- own.
use Rattle.std.specs.Prelude.{ℕ, ◌+◌, cond, List, [], ◌∷◌, ◌++◌, length, map, codes, decimal, unwrap_or}
use Rattle.std.specs.List.{range_with_len}
use Rattle.nr_chunk.specs.Chain.{Chain}
use Rattle.nr_columns.specs.declared.entry.Entry.{Entry}
use Rattle.nr_course.specs.Course.{Course, height_in, leg_at}
use Rattle.nr_ids.specs.declared.key.Hash32.{Hash32}
use Rattle.nr_parts.specs.Checking.{checked}
use Rattle.nr_parts.specs.Cutting.{part_cut}
use Rattle.nr_parts.specs.Files.{part_bytes, part_in}
use Rattle.nr_parts.specs.Joining.{first_refused, joined_or_fault}
use Rattle.nr_parts.specs.declared.fault.PartFault.{PartFault}
use Rattle.nr_parts.specs.declared.fault.PartFault.TheVariants as fault
use Rattle.nr_parts.specs.declared.part.Part.{Part}
use Rattle.nr_report.specs.Lines.{line}
use Rattle.nr_shell.specs.Plans.{Plan, Answer, Refuse, and_then, by_reading, file_plan}
use Rattle.nr_top.specs.Chunks.{has_chunk, state_after}
use Rattle.nr_top.specs.Roots.{root_in}
use Rattle.nr_top.specs.declared.status.Status.{Status}
use Rattle.nr_top.specs.declared.status.Status.TheVariants.{NoItem, Parts as faulty_parts, NoMemory}
use Rattle.nr_words.specs.declared.words.StatePart.{StatePart}

-- ---- a part that is cut out of the state of a shard behind a chunk
-- the file of the part
unfoldable pub part_text : Chain → StatePart → List ℕ
part_text x p = part_bytes (part_cut (state_after x p.shard p.height) p.count p.number)

-- of a chain, by the height as it counts there
abbrev pub leg_cut : StatePart → Chain → Plan (List ℕ) Status
leg_cut p x = cond (has_chunk x p.shard p.height) (Answer (part_text x p)) (Refuse (NoItem 0))

-- of the leg that has the height
abbrev pub cut_answer : StatePart → Course → Plan (List ℕ) Status
cut_answer p o = let x = leg_at o p.height in leg_cut (record p { height = height_in x p.height }) x

-- ---- a part in a file of at most 256 MiB; the faults of the part at a position, by kind and number: the place of a
-- field, the index of an entry, the position of a part out of order, 0 where the whole has another root, and else the
-- part's position
abbrev pub part_status : ℕ → PartFault → Status
part_status position (fault.Spelling at) = faulty_parts 1 at
part_status position (fault.Numbers count number) = faulty_parts 2 position
part_status position (fault.Root found) = faulty_parts 3 position
part_status position (fault.Missing hash) = faulty_parts 4 position
part_status position (fault.BadText hash) = faulty_parts 5 position
part_status position (fault.Entries index) = faulty_parts 6 index
part_status position (fault.Order astray) = faulty_parts 7 astray
part_status position (fault.Whole found) = faulty_parts 8 0
part_status position fault.TooMany = faulty_parts 9 position
part_status position fault.Memory = NoMemory

abbrev pub by_part_bytes : ℕ → List ℕ → Plan Part Status
by_part_bytes position bytes = by_reading (part_status position) (part_in bytes)

abbrev pub part_file_plan : ℕ → List ℕ → Plan Part Status
part_file_plan position name = and_then (file_plan name 268435456 (faulty_parts 0 position)) (by_part_bytes position)

-- ---- one part against a root
abbrev pub part_line : Part → List ℕ
part_line p =
    line (codes "part" ∷ decimal p.number ∷ decimal p.count ∷ codes "entries" ∷ decimal (length p.entries) ∷ [])

abbrev pub check_answer : Hash32 → Part → Plan (List ℕ) Status
check_answer root part = and_then (by_reading (part_status 0) (checked root part)) (λ accepted. Answer (part_line part))

abbrev pub check_part_plan : List ℕ → List ℕ → Plan (List ℕ) Status
check_part_plan word file = and_then (part_file_plan 0 file) (check_answer (root_in word))

-- ---- all parts of a root, in files whose names are a prefix and the part's position, from 0
abbrev pub part_name : List ℕ → ℕ → List ℕ
part_name prefix position = prefix ++ decimal position

abbrev pub part_names : List ℕ → ℕ → List (List ℕ)
part_names prefix count = map (part_name prefix) (range_with_len 0 count)

-- the parts of files with these names, the first of which stands at a position: each file is read before the next one
-- is asked for
unfoldable pub parts_plan : ℕ → List (List ℕ) → Plan (List Part) Status
parts_plan position [] = Answer []
parts_plan position (name ∷ names) =
    and_then (part_file_plan position name)
    (λ part. and_then (parts_plan (position + 1) names) (λ others. Answer (part ∷ others)))

-- a fault of a single part is that of the first one that is refused
abbrev pub join_status : Hash32 → List Part → PartFault → Status
join_status root parts f = part_status (unwrap_or (first_refused root 0 parts) 0) f

abbrev pub root_line : List ℕ → List Entry → List ℕ
root_line word es = line (codes "root" ∷ word ∷ codes "entries" ∷ decimal (length es) ∷ [])

abbrev pub join_answer : List ℕ → List Part → Plan (List ℕ) Status
join_answer word parts =
    and_then (by_reading (join_status (root_in word) parts) (joined_or_fault (root_in word) parts))
    (λ es. Answer (root_line word es))

abbrev pub join_parts_plan : List ℕ → ℕ → List ℕ → Plan (List ℕ) Status
join_parts_plan word count prefix = and_then (parts_plan 0 (part_names prefix count)) (join_answer word)
