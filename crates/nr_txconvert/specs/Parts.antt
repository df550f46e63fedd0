-- What the parts of the code answer: what a transaction costs, and the first refusal of some. This project's own.
use Rattle.std.specs.Prelude.{◌≡◌, ℕ, Bool, true, false, List, [], ◌∷◌, Option, Some, None, Result, Ok, Err, nat_lt}
use Rattle.nr_config.specs.Config.{Config}
use Rattle.nr_records.specs.declared.access_key.AccessKey.{AccessKey}
use Rattle.nr_records.specs.declared.account.Account.{Account}
use Rattle.nr_records.specs.declared.transaction.Transaction.{Transaction}
use Rattle.nr_txconvert.specs.Costs.{sending_gas, gas_cost, whole_cost, is_too_dear}
use Rattle.nr_txconvert.specs.Refusals.{refusals, first_refusal}
use Rattle.nr_txconvert.specs.declared.cost.Cost.{Cost}
use Rattle.nr_txconvert.specs.declared.fault.TxFault.{TxFault}
use Rattle.nr_txconvert.specs.declared.fault.TxFault.TheVariants.{StorageStake}

-- ---- costs
abbrev pub cost_is : Config → Transaction → ℕ → Cost
cost_is c tx price = record { sending = sending_gas c tx; gas = gas_cost c tx price; whole = whole_cost c tx price }

abbrev pub CountsCost : Option Cost → Config → Transaction → ℕ → Type 0
CountsCost (Some cost) c tx price = (cost ≡ cost_is c tx price) × (is_too_dear c tx price ≡ false)
CountsCost None c tx price = is_too_dear c tx price ≡ true

-- ---- refusals: none of these holds, or it is the first that does
abbrev pub FindsFirst : {A : Type 0} → Result A TxFault → List (Bool × TxFault) → Type 0
FindsFirst (Ok x) list = first_refusal list ≡ None
FindsFirst (Err fault) list = first_refusal list ≡ Some fault

-- of what the account is left with, and what its storage asks for
abbrev pub storage_refusals : ℕ → ℕ → List (Bool × TxFault)
storage_refusals has needs = (nat_lt has needs, StorageStake has needs) ∷ []

-- what a signer who has the key pays, or the first refusal of all
abbrev pub Judges : Result Cost TxFault → Config → Transaction → ℕ → Account → AccessKey → Type 0
Judges (Ok cost) c tx price account key =
    (first_refusal (refusals c tx price account key) ≡ None) × (cost ≡ cost_is c tx price)
Judges (Err fault) c tx price account key = first_refusal (refusals c tx price account key) ≡ Some fault
