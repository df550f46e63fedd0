-- What holds at the loops of `genesis::entries_of`.
use Rattle.std.proofs.Common.{◌≡◌}
use Rattle.nr_gen.specs.Founding.{shard_entries}
use Rattle.nr_gen.specs.Turns.{joined_below}
use Rattle.nr_gen.proofs.genesis.entries_of.Given as goal

abbrev pub invariant-loop-shard : goal.invariant-loop-shard
invariant-loop-shard l = l.entries.items ≡ joined_below l.shard (shard_entries l.code)
