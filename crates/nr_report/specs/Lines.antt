-- The text of results: one line for each, its fields parted by single spaces. This project's own report.
use Rattle.std.specs.Prelude.{ℕ, List, [], ◌∷◌, ◌++◌, codes, decimal, slice_index}
use Rattle.std.specs.List.{flat_map}
use Rattle.hex.specs.Hex.{encode_lower}
use Rattle.nr_ids.specs.declared.key.Hash32.{Hash32}
use Rattle.nr_records.specs.declared.chunk_result.RunStatus.{RunStatus}
use Rattle.nr_records.specs.declared.chunk_result.RunStatus.TheVariants.{Value, Promise, Failure, Clash}
use Rattle.nr_records.specs.declared.chunk_result.Outcome.{Outcome}
use Rattle.nr_records.specs.declared.chunk_result.ChunkLine.{ChunkLine}
use Rattle.nr_records.specs.declared.chunk_result.ChunkLine.TheVariants.{TxOk, TxRefused, Run, Postponed, Received}
use Rattle.nr_records.specs.declared.chunk_result.ChunkLine.TheVariants.{Lost, Late, Sent}
use Rattle.nr_records.specs.declared.chunk_result.ChunkResult.{ChunkResult}
use Rattle.nr_report.specs.declared.totals.Totals.{Totals}

abbrev pub Words : Type 0
Words = List (List ℕ)

-- the words with a space between each two, and a line feed
abbrev pub line : Words → List ℕ
line [] = 10 ∷ []
line (word ∷ []) = word ++ 10 ∷ []
line (word ∷ next ∷ words) = word ++ 32 ∷ line (next ∷ words)

unfoldable pub hash_word : Hash32 → List ℕ
hash_word hash = encode_lower hash.0

-- bytes in hexadecimal, and a dash for none
unfoldable pub bytes_word : List ℕ → List ℕ
bytes_word [] = codes "-"
bytes_word (b ∷ bytes) = encode_lower (b ∷ bytes)

abbrev pub run_words : Outcome → RunStatus → Words
run_words o (Value bytes) = codes "value" ∷ bytes_word bytes ∷ decimal o.gas ∷ decimal o.burnt ∷ []
run_words o (Promise id) = codes "promise" ∷ hash_word id ∷ decimal o.gas ∷ decimal o.burnt ∷ []
run_words o (Failure index kind part) =
    codes "failure" ∷ decimal index ∷ decimal kind ∷ decimal part ∷ decimal o.gas ∷ decimal o.burnt ∷ []
run_words o Clash = codes "clash" ∷ codes "0" ∷ decimal o.burnt ∷ []

abbrev pub run_line : Outcome → RunStatus → List ℕ
run_line o status = line (codes "run" ∷ hash_word o.receipt_id ∷ run_words o status)

abbrev pub log_line : List ℕ → List ℕ
log_line bytes = line (codes "log" ∷ bytes_word bytes ∷ [])

-- the logs that have lines: none of a receipt that failed or clashed, since its changes don't stand
abbrev pub told_logs : RunStatus → List (List ℕ) → List (List ℕ)
told_logs (Value bytes) logs = logs
told_logs (Promise id) logs = logs
told_logs (Failure index kind part) logs = []
told_logs Clash logs = []

abbrev pub line_text : ChunkLine → List ℕ
line_text (TxOk hash id) = line (codes "tx" ∷ hash_word hash ∷ codes "ok" ∷ hash_word id ∷ [])
line_text (TxRefused hash number first second) =
    line (codes "tx" ∷ hash_word hash ∷ codes "refused" ∷ decimal number ∷ decimal first ∷ decimal second ∷ [])
line_text (Run o) = run_line o o.status ++ flat_map log_line (told_logs o.status o.logs)
line_text (Postponed id) = line (codes "post" ∷ hash_word id ∷ [])
line_text (Received id) = line (codes "data" ∷ hash_word id ∷ [])
line_text (Lost id) = line (codes "lost" ∷ hash_word id ∷ [])
line_text (Late id) = line (codes "late" ∷ hash_word id ∷ [])
line_text (Sent dest id hash) = line (codes "out" ∷ decimal dest.0 ∷ hash_word id ∷ hash_word hash ∷ [])

-- a chunk's own line, and then its lines
abbrev pub chunk_line : ChunkResult → List ℕ
chunk_line r =
    line (codes "chunk" ∷ decimal r.height.0 ∷ decimal r.shard.0 ∷ hash_word r.root ∷ decimal r.gas ∷ decimal r.burnt
    ∷ [])

unfoldable pub chunk_text : ChunkResult → List ℕ
chunk_text r = chunk_line r ++ flat_map line_text r.lines

abbrev pub total_line : List ℕ → List ℕ → List ℕ
total_line what n = line (codes "total" ∷ what ∷ n ∷ [])

-- routed, executed, postponed, delayed, in flight
abbrev pub places_words : List ℕ → Words
places_words places =
    decimal (slice_index places 0) ∷ decimal (slice_index places 1) ∷ decimal (slice_index places 2)
    ∷ decimal (slice_index places 3) ∷ decimal (slice_index places 4) ∷ []

abbrev pub tokens_text : Totals → List ℕ
tokens_text t =
    total_line (codes "supply") (decimal t.supply)
    ++ total_line (codes "accounts") (decimal t.accounts)
    ++ total_line (codes "receipts") (decimal t.receipts)
    ++ total_line (codes "burnt") (decimal t.burnt)

unfoldable pub totals_text : Totals → List ℕ
totals_text t = tokens_text t ++ line (codes "total" ∷ codes "places" ∷ places_words t.places)
