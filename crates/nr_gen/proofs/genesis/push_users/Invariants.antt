-- What holds at the loops of `genesis::push_users`.
use Rattle.std.proofs.Common.{◌≡◌, ◌++◌}
use Rattle.nr_gen.specs.Founding.{user_entries}
use Rattle.nr_gen.specs.Turns.{joined_below}
use Rattle.nr_gen.proofs.genesis.push_users.Given as goal

abbrev pub invariant-loop-user : goal.invariant-loop-user
invariant-loop-user l = l.entries.items ≡ l.initial.entries.items ++ joined_below l.user (user_entries l.shard)
