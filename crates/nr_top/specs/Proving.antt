-- The roots of a chain's chunks, the proof of an item of one of them, and what is said of a proof: what is written,
-- or why nothing is. This project's own.
use Rattle.std.specs.Prelude.{ℕ, ◌+◌, Bool, true, false, List, [], ◌∷◌, ◌++◌, length, Option, Some, None, Result, Ok}
use Rattle.std.specs.Prelude.{Err, codes, decimal}
use Rattle.nr_chunk.specs.Chain.{Chain, rules_of}
use Rattle.nr_course.specs.Course.{Course, height_in, leg_at, second}
use Rattle.nr_course.specs.declared.turn.Turn.{Turn}
use Rattle.nr_ids.specs.declared.key.Hash32.{Hash32}
use Rattle.nr_outproof.specs.Items.{items}
use Rattle.nr_outproof.specs.Proofs.{accepts, proof_of, root_of}
use Rattle.nr_outproof.specs.Texts.{proof_read, proof_text}
use Rattle.nr_outproof.specs.declared.fault.ProofFault.{ProofFault}
use Rattle.nr_outproof.specs.declared.fault.ProofFault.TheVariants as fault
use Rattle.nr_outproof.specs.declared.proof.Proof.{Proof}
use Rattle.nr_outcome.specs.Texts.{text_below}
use Rattle.nr_records.specs.declared.chunk_result.ChunkResult.{ChunkResult}
use Rattle.nr_report.specs.Lines.{hash_word, line}
use Rattle.nr_shell.specs.Plans.{Plan, Answer, Refuse}
use Rattle.nr_top.specs.Chunks.{result_at}
use Rattle.nr_top.specs.declared.status.Status.{Status}
use Rattle.nr_top.specs.declared.status.Status.TheVariants.{NoMemory, NoItem, Proof as faulty_proof}
use Rattle.nr_words.specs.declared.kind.ProofKind.TheVariants.{Outcome, Receipt}
use Rattle.nr_words.specs.declared.words.ChunkItem.{ChunkItem}

-- ---- `roots`: a line for each chunk, with the root of its outcomes and that of its receipts
abbrev pub roots_line : ChunkResult → List ℕ
roots_line y =
    line (codes "roots" ∷ decimal y.height.0 ∷ decimal y.shard.0 ∷ hash_word (root_of y Outcome)
    ∷ hash_word (root_of y Receipt) ∷ [])

abbrev pub roots_told : Option ChunkResult → List ℕ
roots_told None = []
roots_told (Some y) = roots_line y

abbrev pub height_roots : Chain → ℕ → List ℕ
height_roots x h = text_below (rules_of x).shards (λ s. roots_told (result_at x s h))

-- by height, from 1, and then shard
unfoldable pub leg_roots : Chain → List ℕ
leg_roots x = text_below (rules_of x).heights (λ h. height_roots x (h + 1))

abbrev pub later_roots : Chain → Option Turn → List ℕ
later_roots x None = []
later_roots x (Some t) = leg_roots (second x t)

-- of the one leg, or of both
abbrev pub roots_text : Course → List ℕ
roots_text o = leg_roots o.first ++ later_roots o.first o.turn

-- ---- `prove`: the text of the proof; where there is no such chunk the count is 0, and where the place isn't below the
-- number of the chunk's items of the kind it is that number
abbrev pub by_proof : ℕ → Option Proof → Plan (List ℕ) Status
by_proof count None = Refuse (NoItem count)
by_proof count (Some p) = Answer (proof_text p)

abbrev pub by_chunk : ChunkItem → Option ChunkResult → Plan (List ℕ) Status
by_chunk item None = Refuse (NoItem 0)
by_chunk item (Some y) = by_proof (length (items item.kind y)) (proof_of y item.kind item.place)

abbrev pub by_item : ChunkItem → Course → Plan (List ℕ) Status
by_item item o = let x = leg_at o item.height in by_chunk item (result_at x item.shard (height_in x item.height))

-- ---- `verify`: whether the proof of a file is accepted against a root; the faults of its text, by kind and line
abbrev pub judgement : Bool → List ℕ
judgement true = line (codes "valid" ∷ [])
judgement false = line (codes "invalid" ∷ [])

abbrev pub proof_status : ProofFault → Status
proof_status (fault.Form n) = faulty_proof 1 n
proof_status fault.Memory = NoMemory

abbrev pub by_proof_read : Hash32 → Result Proof ProofFault → Plan (List ℕ) Status
by_proof_read root (Ok p) = Answer (judgement (accepts root p))
by_proof_read root (Err f) = Refuse (proof_status f)

abbrev pub by_proof_bytes : Hash32 → List ℕ → Plan (List ℕ) Status
by_proof_bytes root bytes = by_proof_read root (proof_read bytes)
