-- Nomicon, RuntimeSpec, Receipts: what goes from account to account, spelled by Borsh 1.0.
use Rattle.std.specs.Prelude.{ℕ, zero, suc, ◌^◌, ◌<◌, List, ◌∷◌, ◌++◌, Option, Err}
use Rattle.nr_bytes.specs.Numbers.{little}
use Rattle.nr_bytes.specs.Reading.{Input}
use Rattle.nr_bytes.specs.Writing.{counted_bytes}
use Rattle.nr_ids.specs.declared.key.Hash32.{Hash32}
use Rattle.nr_ids.specs.declared.key.PublicKey.{PublicKey}
use Rattle.nr_records.specs.declared.action.Action.{Action}
use Rattle.nr_records.specs.declared.receipt.ActionReceipt.{ActionReceipt}
use Rattle.nr_records.specs.declared.receipt.Body.{Body}
use Rattle.nr_records.specs.declared.receipt.Body.TheVariants.{Act, Datum}
use Rattle.nr_records.specs.declared.receipt.DataReceipt.{DataReceipt}
use Rattle.nr_records.specs.declared.receipt.DataReceiver.{DataReceiver}
use Rattle.nr_records.specs.declared.receipt.Receipt.{Receipt}
use Rattle.nr_records.specs.declared.fault.RecordFault.TheVariants.{BadOrdinal}
use Rattle.nr_records.specs.Reading.{Read, nat_at, blob_at, account_id_at, list_at, choice}
use Rattle.nr_bytes.specs.Spelling.{list, FitsList, IsCounted}
use Rattle.nr_bytes.specs.Fields.{pair, mapped}
use Rattle.nr_records.specs.Options.{option_at, option_bytes, IsOption}
use Rattle.nr_records.specs.Ids.{IsId, hash_at, key_at}
use Rattle.nr_ids.specs.Keys.{hash_bytes, IsHash, key_bytes, IsKey}
use Rattle.nr_records.specs.Actions.{action_at, action_bytes, IsAction}

-- ---- who gets the result of a receipt

abbrev pub data_receiver_bytes : DataReceiver → List ℕ
data_receiver_bytes d = hash_bytes d.data_id ++ counted_bytes d.receiver

abbrev pub IsDataReceiver : DataReceiver → Type 0
IsDataReceiver d = IsHash d.data_id × IsId d.receiver

abbrev pub data_receiver_of : Hash32 × List ℕ → DataReceiver
data_receiver_of f = record { data_id = f.0; receiver = f.1 }

unfoldable pub data_receiver_at : Input → Read DataReceiver
data_receiver_at = mapped data_receiver_of (pair hash_at account_id_at)

-- ---- a receipt of a datum

abbrev pub data_receipt_bytes : DataReceipt → List ℕ
data_receipt_bytes d = hash_bytes d.data_id ++ option_bytes counted_bytes d.bytes

abbrev pub IsDataReceipt : DataReceipt → Type 0
IsDataReceipt d = IsHash d.data_id × IsOption IsCounted d.bytes

abbrev pub data_receipt_of : Hash32 × Option (List ℕ) → DataReceipt
data_receipt_of f = record { data_id = f.0; bytes = f.1 }

unfoldable pub data_receipt_at : Input → Read DataReceipt
data_receipt_at = mapped data_receipt_of (pair hash_at (option_at blob_at))

-- ---- a receipt of actions

abbrev pub action_receipt_bytes : ActionReceipt → List ℕ
action_receipt_bytes a =
    counted_bytes a.signer ++ (key_bytes a.signer_key
    ++ (little 16 a.gas_price ++ (list data_receiver_bytes a.outputs
    ++ (list hash_bytes a.inputs ++ list action_bytes a.actions))))

abbrev pub IsActionReceipt : ActionReceipt → Type 0
IsActionReceipt a =
    IsId a.signer × (IsKey a.signer_key × ((a.gas_price < 256 ^ 16)
    × (FitsList IsDataReceiver a.outputs × (FitsList IsHash a.inputs × FitsList IsAction a.actions))))

abbrev pub ActionFields : Type 0
ActionFields = List ℕ × (PublicKey × (ℕ × (List DataReceiver × (List Hash32 × List Action))))

abbrev pub action_receipt_of : ActionFields → ActionReceipt
action_receipt_of f =
    record {
      signer = f.0;
      signer_key = f.1.0;
      gas_price = f.1.1.0;
      outputs = f.1.1.1.0;
      inputs = f.1.1.1.1.0;
      actions = f.1.1.1.1.1;
    }

abbrev pub action_fields_at : Input → Read ActionFields
action_fields_at =
    pair account_id_at (pair key_at (pair (nat_at 16)
    (pair (list_at data_receiver_at) (pair (list_at hash_at) (list_at action_at)))))

unfoldable pub action_receipt_at : Input → Read ActionReceipt
action_receipt_at = mapped action_receipt_of action_fields_at

-- ---- what a receipt is of

abbrev pub body_bytes : Body → List ℕ
body_bytes (Act a) = 0 ∷ action_receipt_bytes a
body_bytes (Datum d) = 1 ∷ data_receipt_bytes d

abbrev pub IsBody : Body → Type 0
IsBody (Act a) = IsActionReceipt a
IsBody (Datum d) = IsDataReceipt d

-- what stands behind the ordinal; at is the ordinal's place
abbrev pub body_body : ℕ → ℕ → Input → Read Body
body_body at zero = mapped (λ a. Act a) action_receipt_at
body_body at (suc zero) = mapped (λ d. Datum d) data_receipt_at
body_body at (suc (suc b)) = λ s. Err (BadOrdinal at)

unfoldable pub body_at : Input → Read Body
body_at = choice body_body

-- ---- a receipt

abbrev pub receipt_bytes : Receipt → List ℕ
receipt_bytes r =
    counted_bytes r.predecessor ++ (counted_bytes r.receiver ++ (hash_bytes r.receipt_id ++ body_bytes r.body))

abbrev pub IsReceipt : Receipt → Type 0
IsReceipt r = IsId r.predecessor × (IsId r.receiver × (IsHash r.receipt_id × IsBody r.body))

abbrev pub Fields : Type 0
Fields = List ℕ × (List ℕ × (Hash32 × Body))

abbrev pub receipt_of : Fields → Receipt
receipt_of f = record { predecessor = f.0; receiver = f.1.0; receipt_id = f.1.1.0; body = f.1.1.1 }

abbrev pub fields_at : Input → Read Fields
fields_at = pair account_id_at (pair account_id_at (pair hash_at body_at))

unfoldable pub receipt_at : Input → Read Receipt
receipt_at = mapped receipt_of fields_at
