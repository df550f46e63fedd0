-- What holds at the loops of `blocks::transactions`.
use Rattle.std.proofs.Common.{◌≡◌}
use Rattle.nr_gen.specs.Chain.{transaction_of}
use Rattle.nr_gen.specs.Turns.{in_turn}
use Rattle.nr_gen.proofs.blocks.transactions.Given as goal

abbrev pub invariant-loop-user : goal.invariant-loop-user
invariant-loop-user l = (l.list.items, l.number) ≡ in_turn l.user (transaction_of l.shards l.shard l.nonce) l.fn.number
