-- Receipts as JSON values (RFC 8259), with the names of NEAR's JSON (Nomicon, RuntimeSpec, Receipts), which are shown
-- and never read. Bytes in hexadecimal are this project's own.
use Rattle.std.specs.Prelude.{codes}
use Rattle.serde_json.specs.Data.{Data, string, object, Members, no_members, put}
use Rattle.nr_json.specs.Actions.{action_json}
use Rattle.nr_json.specs.Keys.{hash_json, key_json}
use Rattle.nr_json.specs.Lists.{list_json, option_json}
use Rattle.nr_json.specs.Plain.{amount_json, bytes_json}
use Rattle.nr_json.specs.Variants.{tagged_json}
use Rattle.nr_records.specs.declared.receipt.ActionReceipt.{ActionReceipt}
use Rattle.nr_records.specs.declared.receipt.Body.{Body}
use Rattle.nr_records.specs.declared.receipt.Body.TheVariants.{Act, Datum}
use Rattle.nr_records.specs.declared.receipt.DataReceipt.{DataReceipt}
use Rattle.nr_records.specs.declared.receipt.DataReceiver.{DataReceiver}
use Rattle.nr_records.specs.declared.receipt.Receipt.{Receipt}

-- ---- a receipt of actions
abbrev pub data_receiver_members : DataReceiver → Members
data_receiver_members r =
    put (codes "receiver_id") (string r.receiver) (put (codes "data_id") (hash_json r.data_id) no_members)

abbrev pub data_receiver_json : DataReceiver → Data
data_receiver_json r = object (data_receiver_members r)

abbrev pub act_members : ActionReceipt → Members
act_members a =
    put (codes "actions") (list_json action_json a.actions)
    (put (codes "input_data_ids") (list_json hash_json a.inputs)
    (put (codes "output_data_receivers") (list_json data_receiver_json a.outputs)
    (put (codes "gas_price") (amount_json a.gas_price)
    (put (codes "signer_public_key") (key_json a.signer_key)
    (put (codes "signer_id") (string a.signer) no_members)))))

abbrev pub act_json : ActionReceipt → Data
act_json a = object (act_members a)

-- ---- a datum, null where the receipt that owed it failed
abbrev pub datum_members : DataReceipt → Members
datum_members d =
    put (codes "data") (option_json bytes_json d.bytes) (put (codes "data_id") (hash_json d.data_id) no_members)

abbrev pub datum_json : DataReceipt → Data
datum_json d = object (datum_members d)

-- ---- a receipt
abbrev pub body_json : Body → Data
body_json (Act a) = tagged_json (codes "Action") (act_json a)
body_json (Datum d) = tagged_json (codes "Data") (datum_json d)

abbrev pub receipt_members : Receipt → Members
receipt_members r =
    put (codes "receipt") (body_json r.body)
    (put (codes "receipt_id") (hash_json r.receipt_id)
    (put (codes "receiver_id") (string r.receiver)
    (put (codes "predecessor_id") (string r.predecessor) no_members)))

abbrev pub receipt_json : Receipt → Data
receipt_json r = object (receipt_members r)
