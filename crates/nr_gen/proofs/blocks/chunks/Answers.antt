-- The goals of `blocks::chunks` that no tactic closes.
use Rattle.nr_gen.proofs.Lists.{turns_begin, turns_grow}
use Rattle.nr_gen.specs.Chain.{chunk_of}
use Rattle.nr_gen.proofs.blocks.chunks.Goals as goal

pub loop-shard-init : goal.loop-shard-init
loop-shard-init c = record {
  made = turns_begin (chunk_of c.args.shards) _ _ c.new-list.ensures.items;
  nonces = c.requires.nonces;
}

pub loop-shard-preserved : goal.loop-shard-preserved
loop-shard-preserved c = record {
  made = turns_grow (chunk_of c.args.shards) _ _ _ _ _ _ _ c.loop-shard.invariant.made c.in_ok-chunk.ensures.made c.in_ok-push.ensures.items;
  nonces = c.chunk.ensures.nonces;
}
