-- The goals of `genesis::push_user` that no tactic closes.
use Rattle.std.proofs.Common.{[], ◌∷◌, append_assoc}
use Rattle.nr_state.specs.Usage.{zero_hash}
use Rattle.nr_blocks.specs.declared.genesis_entry.GenesisEntry.TheVariants as kind
use Rattle.nr_gen.specs.Founding.{first_account, full_key, user_usage}
use Rattle.nr_gen.specs.Names.{user_id, user_key}
use Rattle.nr_gen.proofs.genesis.push_user.Goals as goal

pub returns : goal.returns
returns c =
    rw (c.in_ok-push-2.ensures.items, c.in_ok-push.ensures.items, c.in_ok-user_id.ensures, c.in_ok-id.ensures, c.user_key.ensures, c.first_account-account.ensures)
    (append_assoc c.args.entries.now.items (kind.Account (user_id c.args.shard c.args.user) (first_account zero_hash user_usage) ∷ [])
    (kind.Key (user_id c.args.shard c.args.user) (user_key c.args.shard c.args.user) full_key ∷ []))
