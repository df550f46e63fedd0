-- What holds of a run of chunks while its threads run, by what words, places and views show. This project's own.
use Rattle.std.specs.Prelude.{List, Option}
use Rattle.atomic_table.specs.Table.{State}
use Rattle.nr_chunk.specs.Chain.{Chain, IsChain, rules_of}
use Rattle.nr_chunk.specs.Views.{Kept, Working}
use Rattle.nr_exchange.specs.declared.note.Note.{Note}
use Rattle.nr_exchange.specs.declared.planned.Serial.{Serial}
use Rattle.nr_exchange.specs.Rule.{ExchangeRule}
use Rattle.nr_exchange.specs.SerialPlan.{serial_plan}
use Rattle.nr_overlap.specs.declared.position.Position.{Position}
use Rattle.nr_places.specs.Replay.{HoldsAt}
use Rattle.nr_records.specs.declared.chunk_result.ChunkResult.{ChunkResult}
use Rattle.nr_records.specs.declared.receipt.Receipt.{Receipt}
use Rattle.nr_workers.specs.Standing.{AreShown}

-- a run of these phases, as its exchange has it
abbrev pub ChainSerial : Type 0 → Type 0
ChainSerial P = Serial P Kept Working (List Receipt) ChunkResult

-- wherever the exchange rule of this run holds, at positions with the numbers and claims of the views and each
-- shard's own stage
abbrev pub HoldsWhileRunning : {P : Type 0} → ChainSerial P → (P → Chain) → Type 0
HoldsWhileRunning {P} run chain_of = (s : State (Option (List Receipt)) (Note (ChainSerial P))) (ps : List Position)
    → IsChain (chain_of run.0) → ExchangeRule run (serial_plan (λ p. rules_of (chain_of p)) run) s
    → AreShown (rules_of (chain_of run.0)) s.views ps → HoldsAt (chain_of run.0) ps
