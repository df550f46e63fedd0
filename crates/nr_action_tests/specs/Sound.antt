-- What the states of the tests are like. This project's own.
use Rattle.std.specs.Prelude.{◌≡◌, ◌^◌, ◌≤◌, true, []}
use Rattle.nr_config.specs.Config.{Config}
use Rattle.nr_fees.specs.Fees.{receipt_tokens}
use Rattle.nr_records.specs.declared.receipt.Receipt.{Receipt}
use Rattle.nr_state.specs.Tokens.{world_tokens}
use Rattle.nr_state.specs.Valid.{IsBounded, IsValidWorld}
use Rattle.nr_state.specs.View.{StateView}

-- the state is of this configuration, its world is valid and doesn't hold much, and no checkpoint stands
pub record IsSound (c : Config) (s : StateView) : Type 0 where
  pub whole : s.whole ≡ true
  pub config : s.config ≡ c
  pub marks : s.marks ≡ []
  pub valid : IsValidWorld c s.world
  pub tokens : world_tokens c s.world ≤ 2 ^ 100

-- a receipt is within its bounds, and doesn't hold much
pub record IsSmall (c : Config) (r : Receipt) : Type 0 where
  pub bounded : IsBounded c r
  pub tokens : receipt_tokens c r ≤ 2 ^ 100
