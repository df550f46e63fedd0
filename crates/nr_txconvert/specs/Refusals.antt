-- Why a transaction of a signer who has the key becomes no receipt. After the Nomicon, Runtime Specification
-- (Transactions) and Data Structures (Access Keys); order and bounds are this project's.
use Rattle.std.specs.Prelude.{ℕ, ◌+◌, ◌-◌, ◌==◌, ◌||◌, not, Bool, true, false, cond, List, [], ◌∷◌, ◌++◌, length}
use Rattle.std.specs.Prelude.{Option, Some, None, unwrap_or, nat_lt, nat_le}
use Rattle.std.specs.List.{list_any}
use Rattle.std.specs.Str.{bytes_eq}
use Rattle.nr_config.specs.Config.{Config, max_actions, max_prepaid_gas}
use Rattle.nr_fees.specs.Fees.{attached_gas, deposits}
use Rattle.nr_records.specs.declared.access_key.AccessKey.{AccessKey}
use Rattle.nr_records.specs.declared.access_key.CallPermission.{CallPermission}
use Rattle.nr_records.specs.declared.access_key.Permission.{Permission}
use Rattle.nr_records.specs.declared.access_key.Permission.TheVariants.{Call, Full}
use Rattle.nr_records.specs.declared.account.Account.{Account}
use Rattle.nr_records.specs.declared.action.Action.{Action}
use Rattle.nr_records.specs.declared.action.Action.TheVariants.{FunctionCall}
use Rattle.nr_records.specs.declared.transaction.Transaction.{Transaction}
pub use Rattle.nr_state.specs.Usage.{storage_stake}
use Rattle.nr_txconvert.specs.Costs.{gas_cost, whole_cost, is_too_dear}
use Rattle.nr_txconvert.specs.declared.fault.TxFault.{TxFault}
use Rattle.nr_txconvert.specs.declared.fault.TxFault.TheVariants.{Nonce, TooManyActions, GasTooLarge, KeyForbids}
use Rattle.nr_txconvert.specs.declared.fault.TxFault.TheVariants.{CostOverflow, Allowance, Balance, StorageStake}

-- ---- of any key: by its nonce, and by how many actions there are and how much gas is attached to them
abbrev pub use_refusals : Config → Transaction → AccessKey → List (Bool × TxFault)
use_refusals c tx key =
    (nat_le tx.nonce key.nonce, Nonce key.nonce tx.nonce)
    ∷ (nat_lt (max_actions c) (length tx.actions), TooManyActions)
    ∷ (nat_lt (max_prepaid_gas c) (attached_gas tx.actions), GasTooLarge)
    ∷ []

-- ---- of a key for calls: it allows one call and nothing else,
-- without a deposit, of its receiver, by one of its methods
abbrev pub is_one_call : List Action → Bool
is_one_call (FunctionCall method args gas deposit ∷ []) = true
is_one_call actions = false

abbrev pub first_method : List Action → List ℕ
first_method (FunctionCall method args gas deposit ∷ actions) = method
first_method actions = []

-- a key that names no method allows each
abbrev pub allows_method : List (List ℕ) → List ℕ → Bool
allows_method names method = length names == 0 || list_any (bytes_eq method) names

abbrev pub call_refusals : CallPermission → List ℕ → List Action → List (Bool × TxFault)
call_refusals call receiver actions =
    (not (is_one_call actions), KeyForbids 1)
    ∷ (not (deposits actions == 0), KeyForbids 2)
    ∷ (not (bytes_eq call.receiver receiver), KeyForbids 3)
    ∷ (not (allows_method call.methods (first_method actions)), KeyForbids 4)
    ∷ []

-- a full key forbids nothing
abbrev pub key_refusals : Permission → Transaction → List (Bool × TxFault)
key_refusals (Call call) tx = call_refusals call tx.receiver tx.actions
key_refusals Full tx = []

-- ---- of what the signer pays for the gas and in all
abbrev pub allowance_of : Permission → Option ℕ
allowance_of (Call call) = call.allowance
allowance_of Full = None

abbrev pub is_below : Option ℕ → ℕ → Bool
is_below None cost = false
is_below (Some allowance) cost = nat_lt allowance cost

-- what the account is left with, and what its storage asks for
abbrev pub left_with : Account → ℕ → ℕ
left_with account cost = (account.amount - cost) + account.locked

abbrev pub payment_refusals : Config → Account → Permission → ℕ → ℕ → List (Bool × TxFault)
payment_refusals c account permission gas whole =
    (is_below (allowance_of permission) gas, Allowance (unwrap_or (allowance_of permission) 0) gas)
    ∷ (nat_lt account.amount whole, Balance account.amount whole)
    ∷ (
      nat_lt (left_with account whole) (storage_stake c account),
      StorageStake (left_with account whole) (storage_stake c account),
    )
    ∷ []

-- ---- all of them in the order in which they are tried, each with its test
abbrev pub refusals : Config → Transaction → ℕ → Account → AccessKey → List (Bool × TxFault)
refusals c tx price account key =
    use_refusals c tx key
    ++ key_refusals key.permission tx
    ++ (is_too_dear c tx price, CostOverflow) ∷ payment_refusals c account key.permission (gas_cost c tx price)
    (whole_cost c tx price)

abbrev pub first_refusal : List (Bool × TxFault) → Option TxFault
first_refusal [] = None
first_refusal (r ∷ rs) = cond r.0 (Some r.1) (first_refusal rs)
