-- What executions and settlements keep. Laws of this project's own.
use Rattle.std.specs.Prelude.{◌≡◌, ◌+◌, ◌^◌, ◌<◌, ◌≤◌}
use Rattle.std.specs.List.{AllByRecursion}
use Rattle.nr_config.specs.Config.{Config}
use Rattle.nr_fees.specs.Fees.{attached, gas_of, receipt_tokens}
use Rattle.nr_receipt.specs.Execution.{Execution}
use Rattle.nr_receipt.specs.declared.executed.Executed.{Executed}
use Rattle.nr_records.specs.declared.receipt.Body.{Body}
use Rattle.nr_records.specs.declared.receipt.Body.TheVariants.{Act, Datum}
use Rattle.nr_records.specs.declared.receipt.Receipt.{Receipt}
use Rattle.nr_state.specs.Tokens.{list_tokens, world_tokens}
use Rattle.nr_state.specs.Valid.{IsBounded, IsValidWorld}
use Rattle.nr_state.specs.World.{World}

-- the gas attached to each action of a receipt fits in 64 bits
abbrev pub HasSmallCalls : Body → Type 0
HasSmallCalls (Act act) = AllByRecursion (λ a. attached a < 2 ^ 64) act.actions
HasSmallCalls (Datum d) = Unit {0}

-- a receipt that was executed on a world
pub record IsExecuted (c : Config) (w : World) (r : Receipt) (e : Execution) : Type 0 where
  -- the world stays valid
  pub valid : IsValidWorld c e.world
  -- what the world and the receipt held is in the world, in the receipts made, or burnt
  pub tokens : world_tokens c w + receipt_tokens c r ≡ world_tokens c e.world + list_tokens c e.executed.made
      + e.executed.outcome.burnt
  -- what waits is the same
  pub rest : e.world ≡ record w {
    accounts = e.world.accounts;
    keys = e.world.keys;
    code = e.world.code;
    data_of = e.world.data_of;
  }
  -- no more gas is burnt than was paid for
  pub gas : e.executed.outcome.gas ≤ gas_of c r
  -- the gas price, the prepaid gas and each attached gas of the receipts made fit in 64 bits, where each attached gas
  -- of this one does
  pub bounded : HasSmallCalls r.body → AllByRecursion (IsBounded c) e.executed.made
  pub calls : HasSmallCalls r.body → AllByRecursion (λ q. HasSmallCalls q.body) e.executed.made

-- a receipt that was settled
pub record IsSettled (c : Config) (r : Receipt) (done : Executed) : Type 0 where
  -- what the receipt held is in the receipts made, or burnt
  pub tokens : receipt_tokens c r ≡ list_tokens c done.made + done.outcome.burnt
  -- no gas is burnt
  pub gas : done.outcome.gas ≡ 0
  -- the gas price, the prepaid gas and each attached gas of the receipts made fit in 64 bits
  pub bounded : AllByRecursion (IsBounded c) done.made
  pub calls : AllByRecursion (λ q. HasSmallCalls q.body) done.made
