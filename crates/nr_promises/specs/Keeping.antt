-- What the calls of a book keep of its receipts and add to them, as a call of a contract promises of its own. This
-- project's own.
use Rattle.std.specs.Prelude.{◌≡◌, ℕ, ◌+◌, ◌≤◌, length}
use Rattle.nr_config.specs.Config.{Config}
use Rattle.nr_fees.specs.Fees.{fee, action_fee, attached}
use Rattle.nr_fees.specs.declared.table.Fee.TheVariants.{ActionReceipt as action_receipt}
use Rattle.nr_fees.specs.declared.table.Payment.TheVariants.{Execute}
use Rattle.nr_promises.specs.Book.{IsBook}
use Rattle.nr_promises.specs.declared.contents.Book.{Book}
use Rattle.nr_records.specs.declared.action.Action.{Action}
use Rattle.nr_state.specs.Calls.{made_gas, made_deposits, IsReturned}
use Rattle.nr_state.specs.declared.calls.Returned.{Returned}

-- the gas that is prepaid for a new receipt, and for an action of one
abbrev pub receipt_gas : Config → ℕ
receipt_gas c = fee c Execute action_receipt

abbrev pub action_gas : Config → Action → ℕ
action_gas c action = action_fee c Execute action + attached action

-- a book and the one after it, whose receipts have so much more prepaid gas and so many more tokens
pub record Adds (c : Config) (b d : Book) (gas tokens : ℕ) : Type 0 where
  pub gas_is : made_gas c d.made ≡ made_gas c b.made + gas
  pub deposits_are : made_deposits d.made ≡ made_deposits b.made + tokens
  -- the promises that stand keep their indices, and what was returned is still made
  pub promises : length b.promises ≤ length d.promises
  pub returned : (r : Returned) → IsReturned b.made r → IsReturned d.made r
  -- the call and its limits are the same
  pub rest : d ≡ record b { next_ordinal = d.next_ordinal; promises = d.promises; made = d.made }
  pub is_book : IsBook b → IsBook d
