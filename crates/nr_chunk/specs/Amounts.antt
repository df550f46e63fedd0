-- What chunks keep: tokens. After the Nomicon, Economics.
use Rattle.std.specs.Prelude.{List}
use Rattle.nr_chunk.specs.Chain.{Chain, kept_tokens, working_tokens}
use Rattle.nr_chunk.specs.Views.{Kept, Working}
use Rattle.nr_overlap.specs.Balance.{Amount}
use Rattle.nr_records.specs.declared.chunk_result.ChunkResult.{ChunkResult}
use Rattle.nr_records.specs.declared.receipt.Receipt.{Receipt}
use Rattle.nr_state.specs.Tokens.{list_tokens}

-- ---- tokens: none are made
abbrev pub tokens : Chain → Amount Kept Working (List Receipt) ChunkResult
tokens x = record {
  world = kept_tokens x.config;
  working = λ s h n k. working_tokens x.config k;
  list = list_tokens x.config;
  report = λ s h r. r.burnt;
  made_so_far = λ s h n k. 0;
  made = λ s h r. 0;
}
