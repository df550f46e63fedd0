-- The goals of `genesis::push_users` that no tactic closes.
use Rattle.nr_gen.specs.Founding.{user_entries}
use Rattle.nr_gen.proofs.Lists.{joined_begins, joined_grows}
use Rattle.nr_gen.proofs.genesis.push_users.Goals as goal

pub loop-user-init : goal.loop-user-init
loop-user-init c = joined_begins _ (user_entries c.args.shard)

pub loop-user-preserved : goal.loop-user-preserved
loop-user-preserved c = joined_grows _ _ (user_entries c.args.shard) _ _ c.loop-user.invariant c.in_ok-push_user.ensures
