-- The laws of access keys and their permissions.
use Rattle.std.proofs.Common.{◌≡◌, ℕ, zero, suc, ◌<◌, List, [], Ok, refl, ap, subst, arith}
use Rattle.nr_bytes.specs.Numbers.{IsBytes}
use Rattle.nr_bytes.specs.Reading.{Input}
use Rattle.nr_records.specs.declared.access_key.AccessKey.{AccessKey}
use Rattle.nr_records.specs.declared.access_key.CallPermission.{CallPermission}
use Rattle.nr_records.specs.declared.access_key.Permission.{Permission}
use Rattle.nr_records.specs.declared.access_key.Permission.TheVariants.{Call, Full}
use Rattle.nr_records.specs.Reading.{choice}
use Rattle.nr_bytes.specs.Spelling.{IsRead, tagged, before, behind}
use Rattle.nr_records.specs.OptionLaw.{option_law}
use Rattle.nr_bytes.proofs.Steps.{IsRead-spelled, answer, ok_is}
use Rattle.nr_bytes.proofs.Fields.{nat_law, string_law}
use Rattle.nr_bytes.proofs.Combined.{list_law, choice_law, IsArm}
use Rattle.nr_bytes.proofs.Values.{pair_law, mapped_law, mapped_case}
use Rattle.nr_records.specs.Fault.{record_fault}
use Rattle.nr_records.specs.AccessKeys.{call_permission_bytes, IsCallPermission, CallFields, call_permission_of}
use Rattle.nr_records.specs.AccessKeys.{call_permission_at, permission_bytes, IsPermission, permission_body}
use Rattle.nr_records.specs.AccessKeys.{permission_at, access_key_bytes, IsAccessKey, access_key_of, access_key_at}

-- ---- what a key for calls may do

abbrev call_fields_of : CallPermission → CallFields
call_fields_of c = (c.allowance, (c.receiver, c.methods))

pub call_permission_law : IsRead call_permission_at call_permission_bytes IsCallPermission
unfolding call_permission_at
call_permission_law = mapped_law call_permission_of call_fields_of (λ _. refl) (λ _. refl) _ _ _
    (pair_law _ _ _ _ _ _ (option_law _ _ _ (nat_law record_fault 16))
    (pair_law _ _ _ _ _ _ (string_law record_fault) (list_law record_fault _ _ _ (string_law record_fault))))

-- ---- what a key may do

abbrev ordinal : Permission → ℕ
ordinal (Call c) = 0
ordinal Full = 1

abbrev inner : Permission → List ℕ
inner (Call c) = call_permission_bytes c
inner Full = []

arms : (at n : ℕ) (s : Input) (p : Permission × Input) → IsBytes s.left → permission_body at n s ≡ Ok p → IsArm ordinal inner IsPermission n s p
arms at zero s p fits e = mapped_case (λ c. Call c) call_permission_at call_permission_bytes IsCallPermission call_permission_law (IsArm ordinal inner IsPermission 0 s) s p fits (λ x t ok takes. record { ordinal = refl; fits = ok; takes = takes }) e
arms at (suc zero) s p fits e = subst (IsArm ordinal inner IsPermission 1 s) (ok_is (Full, s) p e) (record { ordinal = refl; fits = tt; takes = record { left = refl; at = omega arith; bytes = fits } })
arms at (suc (suc b)) s p fits e = absurd cc

again : (at : ℕ) (v : Permission) (here : ℕ) (rest : List ℕ) → IsPermission v → permission_body at (ordinal v) (before (inner v) here rest) ≡ Ok (v, behind (inner v) here rest)
again at (Call c) here rest fits = rw (call_permission_law.again c here rest fits) refl
again at Full here rest fits = ap (λ n. answer (Full, record { left = rest; at = n })) (omega arith)

low : (v : Permission) → ordinal v < 256
low (Call c) = omega arith
low Full = omega arith

spelled : (v : Permission) → permission_bytes v ≡ tagged ordinal inner v
spelled (Call c) = refl
spelled Full = refl

pub permission_law : IsRead permission_at permission_bytes IsPermission
unfolding permission_at
permission_law =
    IsRead-spelled (choice permission_body) permission_bytes (tagged ordinal inner) IsPermission spelled
    (choice_law record_fault permission_body ordinal inner IsPermission low arms again)

-- ---- a key's record

abbrev key_fields_of : AccessKey → ℕ × Permission
key_fields_of k = (k.nonce, k.permission)

pub access_key_law : IsRead access_key_at access_key_bytes IsAccessKey
unfolding access_key_at
access_key_law =
    mapped_law access_key_of key_fields_of (λ _. refl) (λ _. refl) _ _ _
    (pair_law _ _ _ _ _ _ (nat_law record_fault 8) permission_law)
