-- The goals of `blocks::transactions` that no tactic closes.
use Rattle.nr_gen.proofs.Lists.{turns_begin, turns_grow}
use Rattle.nr_gen.specs.Chain.{transaction_of}
use Rattle.nr_gen.proofs.blocks.transactions.Goals as goal

pub loop-user-init : goal.loop-user-init
loop-user-init c = turns_begin (transaction_of c.args.shards c.args.shard c.args.nonce) _ _ c.new-list.ensures.items

pub loop-user-preserved : goal.loop-user-preserved
loop-user-preserved c =
    turns_grow (transaction_of c.args.shards c.args.shard c.args.nonce) _ _ _ _ _ _ _ c.loop-user.invariant c.in_ok-transaction.ensures c.in_ok-push.ensures.items
