-- Which chunks a chain has, what each comes to in the run to the end, and the state behind it. After the Nomicon,
-- Chain Specification.
use Rattle.std.specs.Prelude.{ℕ, ◌&&◌, Bool, nat_lt, List, Option}
use Rattle.std.specs.FinMap.{entries}
use Rattle.nr_chunk.specs.Chain.{Chain, rules_of, shards_of}
use Rattle.nr_overlap.specs.Moment.{report_at}
use Rattle.nr_overlap.specs.Run.{ending}
use Rattle.nr_overlap.specs.Serial.{world_after}
use Rattle.nr_records.specs.declared.chunk_result.ChunkResult.{ChunkResult}
use Rattle.nr_state.specs.Flat.{flat}

-- the shard is one of the chain's, and the block of the height has its chunk
abbrev pub has_chunk : Chain → ℕ → ℕ → Bool
has_chunk x shard height = nat_lt shard (shards_of x) && (rules_of x).present shard height

-- the result of the chunk of a shard at a height, if there is one
abbrev pub result_at : Chain → ℕ → ℕ → Option ChunkResult
result_at x shard height = report_at (rules_of x) (ending (rules_of x)) shard height

-- the trie entries of a shard's world behind a height, by the serial run, in the order of their keys' bytes
abbrev pub state_after : Chain → ℕ → ℕ → List (List ℕ × List ℕ)
state_after x shard height = entries (flat (world_after (rules_of x) shard height).world)
