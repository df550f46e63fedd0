-- The items of a chunk: the bytes of each of its lines of a kind. This project's own, spelled by Borsh 1.0.
use Rattle.std.specs.Prelude.{ℕ, List, [], ◌∷◌, ◌++◌, Bool, true, false, cond, not}
use Rattle.std.specs.List.{flat_map}
use Rattle.nr_bytes.specs.Numbers.{little}
use Rattle.nr_bytes.specs.Spelling.{list}
use Rattle.nr_bytes.specs.Writing.{counted_bytes}
use Rattle.nr_ids.specs.Keys.{hash_bytes}
use Rattle.nr_records.specs.declared.chunk_result.RunStatus.{RunStatus}
use Rattle.nr_records.specs.declared.chunk_result.RunStatus.TheVariants.{Value, Promise, Failure, Clash}
use Rattle.nr_records.specs.declared.chunk_result.Outcome.{Outcome}
use Rattle.nr_records.specs.declared.chunk_result.ChunkLine.{ChunkLine}
use Rattle.nr_records.specs.declared.chunk_result.ChunkLine.TheVariants.{TxOk, TxRefused, Run, Postponed, Received}
use Rattle.nr_records.specs.declared.chunk_result.ChunkLine.TheVariants.{Lost, Late, Sent}
use Rattle.nr_records.specs.declared.chunk_result.ChunkResult.{ChunkResult}
use Rattle.nr_words.specs.declared.kind.ProofKind.{ProofKind}
use Rattle.nr_words.specs.declared.kind.ProofKind.TheVariants.{Outcome as OfOutcome, Receipt as OfReceipt}

-- how a receipt ended: an ordinal, and what it says follows
abbrev pub status_bytes : RunStatus → List ℕ
status_bytes (Value bytes) = 0 ∷ counted_bytes bytes
status_bytes (Promise id) = 1 ∷ hash_bytes id
status_bytes (Failure index kind part) = 2 ∷ (little 4 index ++ (little 4 kind ++ little 4 part))
status_bytes Clash = 3 ∷ []

abbrev pub run_bytes : Outcome → List ℕ
run_bytes o =
    hash_bytes o.receipt_id ++ (status_bytes o.status
    ++ (little 8 o.gas ++ (little 16 o.burnt ++ list counted_bytes o.logs)))

-- the bytes of a line; all but those of receipts that left begin with an ordinal
unfoldable pub line_item : ChunkLine → List ℕ
line_item (TxOk hash id) = 0 ∷ (hash_bytes hash ++ hash_bytes id)
line_item (TxRefused hash number first second) =
    1 ∷ (hash_bytes hash ++ (little 4 number ++ (little 16 first ++ little 16 second)))
line_item (Run o) = 2 ∷ run_bytes o
line_item (Postponed id) = 3 ∷ hash_bytes id
line_item (Received id) = 4 ∷ hash_bytes id
line_item (Lost id) = 5 ∷ hash_bytes id
line_item (Late id) = 6 ∷ hash_bytes id
line_item (Sent dest id hash) = little 4 dest.0 ++ (hash_bytes id ++ hash_bytes hash)

-- the line is of a receipt that left
abbrev pub is_sent : ChunkLine → Bool
is_sent (TxOk hash id) = false
is_sent (TxRefused hash number first second) = false
is_sent (Run o) = false
is_sent (Postponed id) = false
is_sent (Received id) = false
is_sent (Lost id) = false
is_sent (Late id) = false
is_sent (Sent dest id hash) = true

abbrev pub is_of : ProofKind → ChunkLine → Bool
is_of OfOutcome line = not (is_sent line)
is_of OfReceipt line = is_sent line

-- the item of a line, where it is of the kind
abbrev pub item_in : ProofKind → ChunkLine → List (List ℕ)
item_in kind line = cond (is_of kind line) (line_item line ∷ []) []

-- the items of a chunk, in the order of its lines
abbrev pub items : ProofKind → ChunkResult → List (List ℕ)
items kind result = flat_map (item_in kind) result.lines
