-- Lines whose numbers, hashes and counts fit their fields, so that their bytes tell them. Borsh 1.0.
use Rattle.std.specs.Prelude.{◌≡◌, ◌<◌, ◌^◌, true}
use Rattle.nr_bytes.specs.Spelling.{IsCounted, FitsList}
use Rattle.nr_ids.specs.Keys.{IsHash}
use Rattle.nr_records.specs.declared.chunk_result.RunStatus.{RunStatus}
use Rattle.nr_records.specs.declared.chunk_result.RunStatus.TheVariants.{Value, Promise, Failure, Clash}
use Rattle.nr_records.specs.declared.chunk_result.Outcome.{Outcome}
use Rattle.nr_records.specs.declared.chunk_result.ChunkLine.{ChunkLine}
use Rattle.nr_records.specs.declared.chunk_result.ChunkLine.TheVariants.{TxOk, TxRefused, Run, Postponed, Received}
use Rattle.nr_records.specs.declared.chunk_result.ChunkLine.TheVariants.{Lost, Late, Sent}
use Rattle.nr_words.specs.declared.kind.ProofKind.{ProofKind}
use Rattle.nr_outproof.specs.Items.{is_of}

abbrev pub FitsStatus : RunStatus → Type 0
FitsStatus (Value bytes) = IsCounted bytes
FitsStatus (Promise id) = IsHash id
FitsStatus (Failure index kind part) = (index < 256 ^ 4) × ((kind < 256 ^ 4) × (part < 256 ^ 4))
FitsStatus Clash = Unit {0}

abbrev pub FitsRun : Outcome → Type 0
FitsRun o =
    IsHash o.receipt_id × (FitsStatus o.status
    × ((o.gas < 256 ^ 8) × ((o.burnt < 256 ^ 16) × FitsList IsCounted o.logs)))

abbrev pub FitsLine : ChunkLine → Type 0
FitsLine (TxOk hash id) = IsHash hash × IsHash id
FitsLine (TxRefused hash number first second) =
    IsHash hash × ((number < 256 ^ 4) × ((first < 256 ^ 16) × (second < 256 ^ 16)))
FitsLine (Run o) = FitsRun o
FitsLine (Postponed id) = IsHash id
FitsLine (Received id) = IsHash id
FitsLine (Lost id) = IsHash id
FitsLine (Late id) = IsHash id
FitsLine (Sent dest id hash) = (dest.0 < 256 ^ 4) × (IsHash id × IsHash hash)

-- a line that is an item of the kind
abbrev pub FitsKind : ProofKind → ChunkLine → Type 0
FitsKind kind line = is_of kind line ≡ true → FitsLine line
