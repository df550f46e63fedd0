-- What holds at the loops of `accounts::push_prefixes`.
use Rattle.std.proofs.Common.{◌≡◌, ◌++◌, map, take}
use Rattle.nr_stateless.specs.Accounts.{all_below}
use Rattle.nr_stateless.proofs.accounts.push_prefixes.Given as goal

abbrev pub invariant-loop-prefix : goal.invariant-loop-prefix
invariant-loop-prefix l = l.list.items ≡ l.initial.list.items ++ map all_below (take l.prefix-index l.prefixes)
