-- What actions cost, and what receipts hold. After the Nomicon, Runtime Fees and Economics (Gas); the fees, what they
-- count and the bounds are this project's.
use Rattle.std.specs.Prelude.{ℕ, ◌+◌, ◌*◌, ◌^◌, ◌<◌, ◌≤◌, ◌≡◌, ◌⊎◌, Bool, cond, List, length, sum_by, Option, Some}
use Rattle.std.specs.Prelude.{None}
use Rattle.nr_config.specs.Config.{Config, entry}
pub use Rattle.nr_fees.specs.Table.{number, column}
pub use Rattle.nr_fees.specs.declared.table.Fee.{Fee}
pub use Rattle.nr_fees.specs.declared.table.Fee.TheVariants.{ActionReceipt as action_receipt, DataBase as data_base}
pub use Rattle.nr_fees.specs.declared.table.Fee.TheVariants.{DataByte as data_byte, CreateAccount as create_account}
pub use Rattle.nr_fees.specs.declared.table.Fee.TheVariants.{DeployBase as deploy_base, DeployByte as deploy_byte}
pub use Rattle.nr_fees.specs.declared.table.Fee.TheVariants.{CallBase as call_base, CallByte as call_byte}
pub use Rattle.nr_fees.specs.declared.table.Fee.TheVariants.{Transfer as transfer, AddFullKey as add_full_key}
pub use Rattle.nr_fees.specs.declared.table.Fee.TheVariants.{AddCallKeyBase as add_call_key_base}
pub use Rattle.nr_fees.specs.declared.table.Fee.TheVariants.{AddCallKeyByte as add_call_key_byte}
pub use Rattle.nr_fees.specs.declared.table.Fee.TheVariants.{DeleteKey as delete_key, DeleteAccount as delete_account}
pub use Rattle.nr_fees.specs.declared.table.Payment.{Payment}
pub use Rattle.nr_fees.specs.declared.table.Payment.TheVariants.{SendLocal, SendRemote, Execute}
use Rattle.nr_ids.specs.Grammar.{is_system}
use Rattle.nr_records.specs.declared.access_key.Permission.{Permission}
use Rattle.nr_records.specs.declared.access_key.Permission.TheVariants.{Call, Full}
use Rattle.nr_records.specs.declared.action.Action.{Action}
use Rattle.nr_records.specs.declared.action.Action.TheVariants.{CreateAccount, DeployContract, FunctionCall, Transfer}
use Rattle.nr_records.specs.declared.action.Action.TheVariants.{AddKey, DeleteKey, DeleteAccount}
use Rattle.nr_records.specs.declared.receipt.Receipt.{Receipt}
use Rattle.nr_records.specs.declared.receipt.ActionReceipt.{ActionReceipt}
use Rattle.nr_records.specs.declared.receipt.Body.{Body}
use Rattle.nr_records.specs.declared.receipt.Body.TheVariants.{Act, Datum}

-- what a call answers that counts a sum: the sum, or none exactly where it doesn't fit in so many bits
abbrev pub FitsIn : ℕ → Option ℕ → ℕ → Type 0
FitsIn bits (Some n) sum = (n ≡ sum) × (sum < 2 ^ bits)
FitsIn bits None sum = 2 ^ bits ≤ sum

-- the fees stand in order, three entries each: for sending to the sender itself, for sending to another account, and
-- for executing
abbrev pub fee : Config → Payment → Fee → ℕ
fee c p f = entry c (34 + 3 * number f + column p)

-- a fee, and another one for each of so many bytes
abbrev pub with_bytes : Config → Payment → Fee → Fee → ℕ → ℕ
with_bytes c p base byte count = fee c p base + fee c p byte * count

-- the bytes of a list of methods: each has one more than its name
abbrev pub method_bytes : List (List ℕ) → ℕ
method_bytes methods = sum_by (λ method. length method + 1) methods

abbrev pub key_fee : Config → Payment → Permission → ℕ
key_fee c p (Call call) = with_bytes c p add_call_key_base add_call_key_byte (method_bytes call.methods)
key_fee c p Full = fee c p add_full_key

abbrev pub action_fee : Config → Payment → Action → ℕ
action_fee c p CreateAccount = fee c p create_account
action_fee c p (DeployContract code) = with_bytes c p deploy_base deploy_byte (length code)
action_fee c p (FunctionCall method args gas deposit) = with_bytes c p call_base call_byte (length method + length args)
action_fee c p (Transfer deposit) = fee c p transfer
action_fee c p (AddKey key access) = key_fee c p access.permission
action_fee c p (DeleteKey key) = fee c p delete_key
action_fee c p (DeleteAccount beneficiary) = fee c p delete_account

abbrev pub attached : Action → ℕ
attached CreateAccount = 0
attached (DeployContract code) = 0
attached (FunctionCall method args gas deposit) = gas
attached (Transfer deposit) = 0
attached (AddKey key access) = 0
attached (DeleteKey key) = 0
attached (DeleteAccount beneficiary) = 0

abbrev pub deposit_of : Action → ℕ
deposit_of CreateAccount = 0
deposit_of (DeployContract code) = 0
deposit_of (FunctionCall method args gas deposit) = deposit
deposit_of (Transfer deposit) = deposit
deposit_of (AddKey key access) = 0
deposit_of (DeleteKey key) = 0
deposit_of (DeleteAccount beneficiary) = 0

-- ---- sums
abbrev pub receipt_gas : Config → Payment → List Action → ℕ
receipt_gas c p actions = fee c p action_receipt + sum_by (action_fee c p) actions

abbrev pub send_gas : Config → Bool → List Action → ℕ
send_gas c local actions = receipt_gas c (cond local SendLocal SendRemote) actions

abbrev pub exec_gas : Config → List Action → ℕ
exec_gas c actions = receipt_gas c Execute actions

abbrev pub attached_gas : List Action → ℕ
attached_gas actions = sum_by attached actions

abbrev pub deposits : List Action → ℕ
deposits actions = sum_by deposit_of actions

abbrev pub prepaid_gas : Config → List Action → ℕ
prepaid_gas c actions = exec_gas c actions + attached_gas actions

-- ---- the tokens of a receipt: its deposits, and the gas that was paid for it, which a refund has none of
abbrev pub act_tokens : Config → Bool → ActionReceipt → ℕ
act_tokens c refund act = deposits act.actions + cond refund 0 (prepaid_gas c act.actions * act.gas_price)

abbrev pub body_tokens : Config → Bool → Body → ℕ
body_tokens c refund (Act act) = act_tokens c refund act
body_tokens c refund (Datum d) = 0

abbrev pub receipt_tokens : Config → Receipt → ℕ
receipt_tokens c r = body_tokens c (is_system r.predecessor) r.body

-- ---- what bounds them
abbrev pub body_price : Body → ℕ
body_price (Act act) = act.gas_price
body_price (Datum d) = 0

abbrev pub price_of : Receipt → ℕ
price_of r = body_price r.body

-- the gas that counts as prepaid, which a refund has none of
abbrev pub act_gas : Config → Bool → List Action → ℕ
act_gas c refund actions = cond refund 0 (prepaid_gas c actions)

abbrev pub body_gas : Config → Bool → Body → ℕ
body_gas c refund (Act act) = act_gas c refund act.actions
body_gas c refund (Datum d) = 0

abbrev pub gas_of : Config → Receipt → ℕ
gas_of c r = body_gas c (is_system r.predecessor) r.body

-- what a call answers that counts tokens: the tokens, or none exactly where the gas price, the prepaid gas or the
-- tokens pass their bound
abbrev pub CountsTokens : Option ℕ → ℕ → ℕ → ℕ → Type 0
CountsTokens (Some n) price gas tokens = (n ≡ tokens) × (price < 2 ^ 64) × (gas < 2 ^ 64) × (tokens < 2 ^ 128)
CountsTokens None price gas tokens = (2 ^ 64 ≤ price) ⊎ ((2 ^ 64 ≤ gas) ⊎ (2 ^ 128 ≤ tokens))
