-- What holds at the loops of `blocks::blocks_of`.
use Rattle.std.proofs.Common.{◌≡◌, length, replicate}
use Rattle.nr_gen.specs.Chain.{block_of}
use Rattle.nr_gen.specs.Turns.{in_turn}
use Rattle.nr_gen.proofs.blocks.blocks_of.Given as goal

abbrev pub invariant-loop-below : goal.invariant-loop-below
invariant-loop-below l = record {
  made : (l.list.items, (l.number, l.nonces.items)) ≡ in_turn l.below (block_of l.shards) (l.start, replicate l.shards 0);
  nonces : length l.nonces.items ≡ l.shards;
}
