-- What a part of a run holds: tokens of accounts and of receipts, burnt tokens, and how many receipts were routed,
-- executed, postponed, delayed and are in flight. This project's own.
use Rattle.std.specs.Prelude.{ℕ, ◌+◌, Bool, true, false, List, [], ◌∷◌, length, count_by}
use Rattle.std.specs.FinMap.{len}
use Rattle.nr_chunk.specs.Views.{Kept, Working}
use Rattle.nr_chunk.specs.declared.tally.Tally.{Tally}
use Rattle.nr_config.specs.Config.{Config}
use Rattle.nr_records.specs.declared.chunk_result.ChunkLine.{ChunkLine}
use Rattle.nr_records.specs.declared.chunk_result.ChunkLine.TheVariants as line
use Rattle.nr_records.specs.declared.chunk_result.ChunkResult.{ChunkResult}
use Rattle.nr_records.specs.declared.receipt.Receipt.{Receipt}
use Rattle.nr_state.specs.Tokens.{list_tokens, waiting_tokens}
use Rattle.nr_state.specs.World.{World, accounts_tokens}

abbrev pub five : ℕ → ℕ → ℕ → ℕ → ℕ → List ℕ
five routed executed postponed delayed flight = routed ∷ executed ∷ postponed ∷ delayed ∷ flight ∷ []

abbrev pub is_sent : ChunkLine → Bool
is_sent (line.Sent dest id hash) = true
is_sent l = false

-- data that were stored, used or lost count as executed, and so does a clash
abbrev pub is_execution : ChunkLine → Bool
is_execution (line.Run outcome) = true
is_execution (line.Received id) = true
is_execution (line.Lost id) = true
is_execution l = false

abbrev pub executions : List ChunkLine → ℕ
executions lines = count_by is_execution lines

abbrev pub tally_state : Config → World → Tally
tally_state c w =
    record {
      accounts = accounts_tokens w;
      receipts = waiting_tokens c w;
      burnt = 0;
      places = five 0 0 (len w.postponed) (length w.delayed) 0;
    }

-- what a shard carries between its chunks is in flight
abbrev pub tally_world : Config → Kept → Tally
tally_world c w =
    record {
      accounts = accounts_tokens w.world;
      receipts = waiting_tokens c w.world + list_tokens c w.carried;
      burnt = 0;
      places = five 0 0 (len w.world.postponed) (length w.world.delayed) (length w.carried);
    }

-- a chunk at work has routed its local receipts alone
abbrev pub tally_working : Config → Working → Tally
tally_working c k =
    record {
      accounts = accounts_tokens k.world;
      receipts = waiting_tokens c k.world + list_tokens c k.outgoing;
      burnt = k.burnt;
      places = five k.local (executions k.lines) (len k.world.postponed) (length k.world.delayed) 0;
    }

abbrev pub tally_report : ChunkResult → Tally
tally_report r =
    record {
      accounts = 0;
      receipts = 0;
      burnt = r.burnt;
      places = five (r.local + count_by is_sent r.lines) (executions r.lines) 0 0 0;
    }

abbrev pub tally_list : Config → List Receipt → Tally
tally_list c list =
    record { accounts = 0; receipts = list_tokens c list; burnt = 0; places = five 0 0 0 0 (length list) }
