-- The goals of `genesis::entries_of` that no tactic closes.
use Rattle.nr_gen.specs.Founding.{shard_entries}
use Rattle.nr_gen.proofs.Lists.{joined_none, joined_all}
use Rattle.nr_gen.proofs.genesis.entries_of.Goals as goal

pub loop-shard-init : goal.loop-shard-init
loop-shard-init c = joined_none _ (shard_entries c.args.code.now) c.new-entries.ensures.items

pub loop-shard-preserved : goal.loop-shard-preserved
loop-shard-preserved c = joined_all _ (shard_entries c.args.code.now) _ _ c.loop-shard.invariant c.in_ok-push_shard.ensures
