-- An account in the world of its shard, whose contract runs. After the NEAR Nomicon, "Data Structures", Account.
use Rattle.std.specs.Prelude.{◌≡◌, ℕ, ◌-◌, ◌<◌, ◌≤◌, Bool, true, false, List, unwrap_or, IsSome, Result, Ok, Err}
use Rattle.std.specs.FinMap.{get}
use Rattle.nr_config.specs.Config.{Config}
use Rattle.nr_records.specs.declared.account.Account.{Account}
use Rattle.nr_state.specs.Usage.{zero_hash}
use Rattle.nr_state.specs.View.{StateView, with_world}
use Rattle.nr_state.specs.World.{World, with_account}

abbrev pub no_account : Account
no_account = record { amount = 0; locked = 0; code_hash = zero_hash; storage_usage = 0 }

abbrev pub account_in : World → List ℕ → Account
account_in w id = unwrap_or (get w.accounts id) no_account

-- the account with less of its amount
abbrev pub account_less : Account → ℕ → Account
account_less a n = record a { amount = a.amount - n }

abbrev pub world_less : World → List ℕ → ℕ → World
world_less w id n = with_account w id (account_less (account_in w id) n)

-- ---- what parts of the code answer
-- the account stands in a state under the call's configuration, in which no change was left in the middle
pub record IsReady (s : StateView) (c : Config) (id : List ℕ) : Type 0 where
  pub whole : s.whole ≡ true
  pub config : s.config ≡ c
  pub stands : IsSome (get s.world.accounts id)

abbrev pub Spends : {E : Type 0} → Result Bool E → ℕ → List ℕ → StateView → StateView → Type 0
Spends (Ok true) n id old new =
    (n ≤ (account_in old.world id).amount) × (new ≡ with_world old (world_less old.world id n))
Spends (Ok false) n id old new = ((account_in old.world id).amount < n) × (new ≡ old)
Spends (Err e) n id old new = Unit {0}
