-- What holds at the loops of `accounts::searched_of`.
use Rattle.std.proofs.Common.{◌≡◌, ◌∷◌, take}
use Rattle.std.specs.List.{flat_map}
use Rattle.nr_columns.specs.Keys.{queue_key}
use Rattle.nr_stateless.specs.Accounts.{all_below, of_account}
use Rattle.nr_stateless.proofs.accounts.searched_of.Given as goal

abbrev pub invariant-loop-id : goal.invariant-loop-id
invariant-loop-id l = l.list.items ≡ all_below queue_key ∷ flat_map of_account (take l.id-index l.accounts)
