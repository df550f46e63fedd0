-- What holds at the loops of `blocks::chunks`.
use Rattle.std.proofs.Common.{◌≡◌, length}
use Rattle.nr_gen.specs.Chain.{chunk_of}
use Rattle.nr_gen.specs.Turns.{in_turn}
use Rattle.nr_gen.proofs.blocks.chunks.Given as goal

abbrev pub invariant-loop-shard : goal.invariant-loop-shard
invariant-loop-shard l = record {
  made : (l.list.items, (l.number, l.nonces.items)) ≡ in_turn l.shard (chunk_of l.shards) (l.fn.number, l.fn.nonces.items);
  nonces : length l.nonces.items ≡ l.shards;
}
