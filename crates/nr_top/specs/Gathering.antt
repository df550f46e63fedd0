-- `gather`: the file of a chunk of a run with all that it is run again from. This project's own.
use Rattle.std.specs.Prelude.{ℕ, ◌-◌, cond, List}
use Rattle.nr_chunk.specs.Chain.{Chain}
use Rattle.nr_course.specs.Course.{Course, height_in, leg_at}
use Rattle.nr_extract.specs.Chunk.{gathered_chunk}
use Rattle.nr_gathered.specs.Files.{gathered_bytes}
use Rattle.nr_shell.specs.Plans.{Plan, Answer, Refuse}
use Rattle.nr_top.specs.Chunks.{has_chunk}
use Rattle.nr_top.specs.declared.status.Status.{Status}
use Rattle.nr_top.specs.declared.status.Status.TheVariants.{NoItem}
use Rattle.nr_words.specs.declared.words.ChunkPlace.{ChunkPlace}

-- the file of the chunk
unfoldable pub gather_text : Chain → ChunkPlace → List ℕ
gather_text x p = gathered_bytes (gathered_chunk x p.shard (p.height - 1))

-- of a chain, by the height as it counts there
abbrev pub leg_gather : ChunkPlace → Chain → Plan (List ℕ) Status
leg_gather p x = cond (has_chunk x p.shard p.height) (Answer (gather_text x p)) (Refuse (NoItem 0))

-- of the leg that has the height
abbrev pub gather_answer : ChunkPlace → Course → Plan (List ℕ) Status
gather_answer p o = let x = leg_at o p.height in leg_gather (record p { height = height_in x p.height }) x
