-- What conversion keeps. Laws of this project's own.
use Rattle.std.specs.Prelude.{◌≡◌, ℕ, ◌+◌, ◌^◌, ◌<◌, true}
use Rattle.nr_config.specs.Config.{Config}
use Rattle.nr_fees.specs.Fees.{receipt_tokens}
use Rattle.nr_state.specs.Queues.{is_act}
use Rattle.nr_state.specs.Tokens.{world_tokens}
use Rattle.nr_state.specs.Valid.{IsValidWorld, IsBounded}
use Rattle.nr_state.specs.World.{World}
use Rattle.nr_txconvert.specs.declared.converted.Converted.{Converted}

-- from a valid world, at a price, to the world behind the conversion
pub record IsPaid (c : Config) (w : World) (price : ℕ) (after : World) (made : Converted) : Type 0 where
  -- the world stays valid
  pub valid : IsValidWorld c after
  -- the tokens that leave the world are in the receipt, or burnt
  pub tokens : world_tokens c after + receipt_tokens c made.receipt + made.burnt ≡ world_tokens c w
  -- all but accounts and keys is the same
  pub rest : after ≡ record w { accounts = after.accounts; keys = after.keys }
  -- the receipt is one of actions, and its gas price and its prepaid gas fit in 64 bits
  pub action : is_act made.receipt.body ≡ true
  pub bounded : price < 2 ^ 64 → IsBounded c made.receipt
