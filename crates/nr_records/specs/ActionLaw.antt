-- The law of actions.
use Rattle.std.proofs.Common.{◌≡◌, ℕ, zero, suc, ◌^◌, ◌<◌, List, [], ◌++◌, Ok, refl, ap, subst, arith}
use Rattle.nr_bytes.specs.Numbers.{little, IsBytes}
use Rattle.nr_bytes.specs.Reading.{Input}
use Rattle.nr_bytes.specs.Writing.{counted_bytes}
use Rattle.nr_ids.specs.declared.key.PublicKey.{PublicKey}
use Rattle.nr_records.specs.declared.access_key.AccessKey.{AccessKey}
use Rattle.nr_records.specs.declared.action.Action.{Action}
use Rattle.nr_records.specs.declared.action.Action.TheVariants.{CreateAccount, DeployContract, FunctionCall, Transfer}
use Rattle.nr_records.specs.declared.action.Action.TheVariants.{AddKey, DeleteKey, DeleteAccount}
use Rattle.nr_records.specs.Reading.{nat_at, blob_at, account_id_at, choice}
use Rattle.nr_records.specs.Ids.{IsId, key_at}
use Rattle.nr_records.specs.IdLaws.{id_law, key_law}
use Rattle.nr_ids.specs.Keys.{key_bytes, IsKey}
use Rattle.nr_records.specs.AccessKeys.{access_key_at, access_key_bytes, IsAccessKey}
use Rattle.nr_records.specs.AccessKeyLaws.{access_key_law}
use Rattle.nr_bytes.specs.Spelling.{IsRead, Below, IsString, IsCounted, tagged, before, behind}
use Rattle.nr_bytes.proofs.Steps.{IsRead-spelled, answer, ok_is}
use Rattle.nr_bytes.proofs.Fields.{nat_law, string_law, blob_law}
use Rattle.nr_bytes.specs.Fields.{pair}
use Rattle.nr_bytes.proofs.Values.{pair_law, mapped_case}
use Rattle.nr_bytes.proofs.Combined.{choice_law, IsArm}
use Rattle.nr_records.specs.Fault.{record_fault}
use Rattle.nr_records.specs.Actions.{action_bytes, IsAction, CallFields, call_of, call_at, add_key_of, action_body}
use Rattle.nr_records.specs.Actions.{action_at}

abbrev ordinal : Action → ℕ
ordinal CreateAccount = 0
ordinal (DeployContract code) = 1
ordinal (FunctionCall method args gas deposit) = 2
ordinal (Transfer deposit) = 3
ordinal (AddKey public_key access_key) = 5
ordinal (DeleteKey public_key) = 6
ordinal (DeleteAccount beneficiary) = 7

abbrev call_bytes : CallFields → List ℕ
call_bytes f = counted_bytes f.0 ++ (counted_bytes f.1.0 ++ (little 8 f.1.1.0 ++ little 16 f.1.1.1))

abbrev IsCall : CallFields → Type 0
IsCall f = IsString f.0 × (IsCounted f.1.0 × ((f.1.1.0 < 256 ^ 8) × (f.1.1.1 < 256 ^ 16)))

call_law : IsRead call_at call_bytes IsCall
call_law =
    pair_law _ _ _ _ _ _ (string_law record_fault)
    (pair_law _ _ _ _ _ _ (blob_law record_fault)
    (pair_law _ _ _ _ _ _ (nat_law record_fault 8) (nat_law record_fault 16)))

abbrev add_key_bytes : PublicKey × AccessKey → List ℕ
add_key_bytes f = key_bytes f.0 ++ access_key_bytes f.1

abbrev IsAddKey : PublicKey × AccessKey → Type 0
IsAddKey f = IsKey f.0 × IsAccessKey f.1

add_key_law : IsRead (pair key_at access_key_at) add_key_bytes IsAddKey
add_key_law = pair_law _ _ _ _ _ _ key_law access_key_law

abbrev inner : Action → List ℕ
inner CreateAccount = []
inner (DeployContract code) = counted_bytes code
inner (FunctionCall method args gas deposit) = call_bytes (method, (args, (gas, deposit)))
inner (Transfer deposit) = little 16 deposit
inner (AddKey public_key access_key) = add_key_bytes (public_key, access_key)
inner (DeleteKey public_key) = key_bytes public_key
inner (DeleteAccount beneficiary) = counted_bytes beneficiary

abbrev ActionArm : ℕ → Input → Action × Input → Type 0
ActionArm = IsArm ordinal inner IsAction

arms : (at n : ℕ) (s : Input) (p : Action × Input) → IsBytes s.left → action_body at n s ≡ Ok p → ActionArm n s p
arms at zero s p fits e = subst (ActionArm 0 s) (ok_is (CreateAccount, s) p e) (record { ordinal = refl; fits = tt; takes = record { left = refl; at = omega arith; bytes = fits } })
arms at (suc zero) s p fits e = mapped_case (λ code. DeployContract code) blob_at counted_bytes IsCounted (blob_law record_fault) (ActionArm 1 s) s p fits (λ x t ok takes. record { ordinal = refl; fits = ok; takes = takes }) e
arms at (suc (suc zero)) s p fits e = mapped_case call_of call_at call_bytes IsCall call_law (ActionArm 2 s) s p fits (λ x t ok takes. record { ordinal = refl; fits = ok; takes = takes }) e
arms at (suc (suc (suc zero))) s p fits e = mapped_case (λ deposit. Transfer deposit) (nat_at 16) (little 16) (Below (256 ^ 16)) (nat_law record_fault 16) (ActionArm 3 s) s p fits (λ x t ok takes. record { ordinal = refl; fits = ok; takes = takes }) e
arms at (suc (suc (suc (suc zero)))) s p fits e = absurd cc
arms at (suc (suc (suc (suc (suc zero))))) s p fits e =
    mapped_case add_key_of (pair key_at access_key_at) add_key_bytes IsAddKey add_key_law (ActionArm 5 s) s p fits
    (λ x t ok takes. record { ordinal = refl; fits = ok; takes = takes }) e
arms at (suc (suc (suc (suc (suc (suc zero)))))) s p fits e = mapped_case (λ public_key. DeleteKey public_key) key_at key_bytes IsKey key_law (ActionArm 6 s) s p fits (λ x t ok takes. record { ordinal = refl; fits = ok; takes = takes }) e
arms at (suc (suc (suc (suc (suc (suc (suc zero))))))) s p fits e =
    mapped_case (λ beneficiary. DeleteAccount beneficiary) account_id_at counted_bytes IsId id_law
    (ActionArm 7 s) s p fits (λ x t ok takes. record { ordinal = refl; fits = ok; takes = takes }) e
arms at (suc (suc (suc (suc (suc (suc (suc (suc b)))))))) s p fits e = absurd cc

again : (at : ℕ) (v : Action) (here : ℕ) (rest : List ℕ) → IsAction v → action_body at (ordinal v) (before (inner v) here rest) ≡ Ok (v, behind (inner v) here rest)
again at CreateAccount here rest fits = ap (λ n. answer (CreateAccount, record { left = rest; at = n })) (omega arith)
again at (DeployContract code) here rest fits = rw ((blob_law record_fault).again code here rest fits) refl
again at (FunctionCall method args gas deposit) here rest fits = rw (call_law.again (method, (args, (gas, deposit))) here rest fits) refl
again at (Transfer deposit) here rest fits = rw ((nat_law record_fault 16).again deposit here rest fits) refl
again at (AddKey public_key access_key) here rest fits = rw (add_key_law.again (public_key, access_key) here rest fits) refl
again at (DeleteKey public_key) here rest fits = rw (key_law.again public_key here rest fits) refl
again at (DeleteAccount beneficiary) here rest fits = rw (id_law.again beneficiary here rest fits) refl

low : (v : Action) → ordinal v < 256
low CreateAccount = omega arith
low (DeployContract code) = omega arith
low (FunctionCall method args gas deposit) = omega arith
low (Transfer deposit) = omega arith
low (AddKey public_key access_key) = omega arith
low (DeleteKey public_key) = omega arith
low (DeleteAccount beneficiary) = omega arith

spelled : (v : Action) → action_bytes v ≡ tagged ordinal inner v
spelled CreateAccount = refl
spelled (DeployContract code) = refl
spelled (FunctionCall method args gas deposit) = refl
spelled (Transfer deposit) = refl
spelled (AddKey public_key access_key) = refl
spelled (DeleteKey public_key) = refl
spelled (DeleteAccount beneficiary) = refl

pub action_law : IsRead action_at action_bytes IsAction
unfolding action_at
action_law =
    IsRead-spelled (choice action_body) action_bytes (tagged ordinal inner) IsAction spelled
    (choice_law record_fault action_body ordinal inner IsAction low arms again)
