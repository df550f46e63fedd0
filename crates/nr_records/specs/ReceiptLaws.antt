-- The laws of receipts and their parts.
use Rattle.std.proofs.Common.{◌≡◌, ℕ, zero, suc, ◌<◌, List, Option, Ok, refl, arith}
use Rattle.nr_bytes.specs.Numbers.{IsBytes}
use Rattle.nr_bytes.specs.Reading.{Input}
use Rattle.nr_ids.specs.declared.key.Hash32.{Hash32}
use Rattle.nr_records.specs.declared.receipt.ActionReceipt.{ActionReceipt}
use Rattle.nr_records.specs.declared.receipt.Body.{Body}
use Rattle.nr_records.specs.declared.receipt.Body.TheVariants.{Act, Datum}
use Rattle.nr_records.specs.declared.receipt.DataReceipt.{DataReceipt}
use Rattle.nr_records.specs.declared.receipt.DataReceiver.{DataReceiver}
use Rattle.nr_records.specs.declared.receipt.Receipt.{Receipt}
use Rattle.nr_records.specs.Reading.{choice}
use Rattle.nr_bytes.specs.Spelling.{IsRead, tagged, before, behind}
use Rattle.nr_bytes.proofs.Steps.{IsRead-spelled}
use Rattle.nr_bytes.proofs.Fields.{nat_law, blob_law}
use Rattle.nr_bytes.proofs.Combined.{list_law, choice_law, IsArm}
use Rattle.nr_bytes.proofs.Values.{pair_law, mapped_law, mapped_case}
use Rattle.nr_records.specs.Fault.{record_fault}
use Rattle.nr_records.specs.OptionLaw.{option_law}
use Rattle.nr_records.specs.IdLaws.{id_law, hash_law, key_law}
use Rattle.nr_records.specs.ActionLaw.{action_law}
use Rattle.nr_records.specs.Receipts.{data_receiver_bytes, IsDataReceiver, data_receiver_of, data_receiver_at}
use Rattle.nr_records.specs.Receipts.{data_receipt_bytes, IsDataReceipt, data_receipt_of, data_receipt_at}
use Rattle.nr_records.specs.Receipts.{action_receipt_bytes, IsActionReceipt, ActionFields, action_receipt_of}
use Rattle.nr_records.specs.Receipts.{action_receipt_at, body_bytes, IsBody, body_body, body_at, receipt_bytes}
use Rattle.nr_records.specs.Receipts.{IsReceipt, Fields, receipt_of, receipt_at}

-- ---- who gets the result of a receipt

abbrev data_receiver_fields : DataReceiver → Hash32 × List ℕ
data_receiver_fields d = (d.data_id, d.receiver)

pub data_receiver_law : IsRead data_receiver_at data_receiver_bytes IsDataReceiver
unfolding data_receiver_at
data_receiver_law =
    mapped_law data_receiver_of data_receiver_fields (λ _. refl) (λ _. refl) _ _ _
    (pair_law _ _ _ _ _ _ hash_law id_law)

-- ---- a receipt of a datum

abbrev data_receipt_fields : DataReceipt → Hash32 × Option (List ℕ)
data_receipt_fields d = (d.data_id, d.bytes)

pub data_receipt_law : IsRead data_receipt_at data_receipt_bytes IsDataReceipt
unfolding data_receipt_at
data_receipt_law =
    mapped_law data_receipt_of data_receipt_fields (λ _. refl) (λ _. refl) _ _ _
    (pair_law _ _ _ _ _ _ hash_law (option_law _ _ _ (blob_law record_fault)))

-- ---- a receipt of actions

abbrev action_fields_of : ActionReceipt → ActionFields
action_fields_of a = (a.signer, (a.signer_key, (a.gas_price, (a.outputs, (a.inputs, a.actions)))))

pub action_receipt_law : IsRead action_receipt_at action_receipt_bytes IsActionReceipt
unfolding action_receipt_at
action_receipt_law = mapped_law action_receipt_of action_fields_of (λ _. refl) (λ _. refl) _ _ _
    (pair_law _ _ _ _ _ _ id_law (pair_law _ _ _ _ _ _ key_law
    (pair_law _ _ _ _ _ _ (nat_law record_fault 16)
    (pair_law _ _ _ _ _ _ (list_law record_fault _ _ _ data_receiver_law)
    (pair_law _ _ _ _ _ _ (list_law record_fault _ _ _ hash_law) (list_law record_fault _ _ _ action_law))))))

-- ---- what a receipt is of

abbrev ordinal : Body → ℕ
ordinal (Act a) = 0
ordinal (Datum d) = 1

abbrev inner : Body → List ℕ
inner (Act a) = action_receipt_bytes a
inner (Datum d) = data_receipt_bytes d

arms : (at n : ℕ) (s : Input) (p : Body × Input) → IsBytes s.left → body_body at n s ≡ Ok p → IsArm ordinal inner IsBody n s p
arms at zero s p fits e = mapped_case (λ a. Act a) action_receipt_at action_receipt_bytes IsActionReceipt action_receipt_law (IsArm ordinal inner IsBody 0 s) s p fits (λ x t ok takes. record { ordinal = refl; fits = ok; takes = takes }) e
arms at (suc zero) s p fits e = mapped_case (λ d. Datum d) data_receipt_at data_receipt_bytes IsDataReceipt data_receipt_law (IsArm ordinal inner IsBody 1 s) s p fits (λ x t ok takes. record { ordinal = refl; fits = ok; takes = takes }) e
arms at (suc (suc b)) s p fits e = absurd cc

again : (at : ℕ) (v : Body) (here : ℕ) (rest : List ℕ) → IsBody v → body_body at (ordinal v) (before (inner v) here rest) ≡ Ok (v, behind (inner v) here rest)
again at (Act a) here rest fits = rw (action_receipt_law.again a here rest fits) refl
again at (Datum d) here rest fits = rw (data_receipt_law.again d here rest fits) refl

low : (v : Body) → ordinal v < 256
low (Act a) = omega arith
low (Datum d) = omega arith

spelled : (v : Body) → body_bytes v ≡ tagged ordinal inner v
spelled (Act a) = refl
spelled (Datum d) = refl

pub body_law : IsRead body_at body_bytes IsBody
unfolding body_at
body_law =
    IsRead-spelled (choice body_body) body_bytes (tagged ordinal inner) IsBody spelled
    (choice_law record_fault body_body ordinal inner IsBody low arms again)

-- ---- a receipt

abbrev fields_of : Receipt → Fields
fields_of r = (r.predecessor, (r.receiver, (r.receipt_id, r.body)))

pub receipt_law : IsRead receipt_at receipt_bytes IsReceipt
unfolding receipt_at
receipt_law =
    mapped_law receipt_of fields_of (λ _. refl) (λ _. refl) _ _ _
    (pair_law _ _ _ _ _ _ id_law (pair_law _ _ _ _ _ _ id_law (pair_law _ _ _ _ _ _ hash_law body_law)))
