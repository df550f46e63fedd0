-- An entry of a genesis is read as it is spelled.
use Rattle.std.proofs.Common.{◌≡◌, ℕ, zero, suc, ◌<◌, List, ◌++◌, Ok, refl, arith}
use Rattle.nr_bytes.specs.Numbers.{IsBytes}
use Rattle.nr_bytes.specs.Reading.{Input}
use Rattle.nr_bytes.specs.Writing.{counted_bytes}
use Rattle.nr_ids.specs.declared.key.PublicKey.{PublicKey}
use Rattle.nr_records.specs.AccessKeys.{access_key_at, access_key_bytes, IsAccessKey}
use Rattle.nr_records.specs.AccessKeyLaws.{access_key_law}
use Rattle.nr_records.specs.Accounts.{account_at, account_bytes, IsAccount}
use Rattle.nr_records.specs.AccountLaw.{account_law}
use Rattle.nr_records.specs.Ids.{IsId, key_at}
use Rattle.nr_records.specs.IdLaws.{id_law, key_law}
use Rattle.nr_ids.specs.Keys.{key_bytes, IsKey}
use Rattle.nr_bytes.specs.Spelling.{IsRead, IsCounted, tagged, before, behind}
use Rattle.nr_bytes.proofs.Steps.{IsRead-spelled}
use Rattle.nr_bytes.proofs.Fields.{blob_law}
use Rattle.nr_bytes.specs.Fields.{pair}
use Rattle.nr_bytes.proofs.Values.{pair_law, mapped_case}
use Rattle.nr_records.specs.Reading.{choice, blob_at, account_id_at}
use Rattle.nr_bytes.proofs.Combined.{choice_law, IsArm}
use Rattle.nr_records.specs.Fault.{record_fault}
use Rattle.nr_records.specs.declared.access_key.AccessKey.{AccessKey}
use Rattle.nr_records.specs.declared.account.Account.{Account as AccountRecord}
use Rattle.nr_blocks.specs.GenesisFiles.{entry_at, entry_body, entry_bytes, IsEntry, account_of, code_of, key_of}
use Rattle.nr_blocks.specs.GenesisFiles.{datum_of}
use Rattle.nr_blocks.specs.declared.genesis_entry.GenesisEntry.{GenesisEntry}
use Rattle.nr_blocks.specs.declared.genesis_entry.GenesisEntry.TheVariants.{Account, Code, Key, Datum}

abbrev ordinal : GenesisEntry → ℕ
ordinal (Account id account) = 0
ordinal (Code id code) = 1
ordinal (Key id key access) = 2
ordinal (Datum id key value) = 3

abbrev account_fields : List ℕ × AccountRecord → List ℕ
account_fields f = counted_bytes f.0 ++ account_bytes f.1

abbrev AreAccountFields : List ℕ × AccountRecord → Type 0
AreAccountFields f = IsId f.0 × IsAccount f.1

account_fields_law : IsRead (pair account_id_at account_at) account_fields AreAccountFields
account_fields_law = pair_law _ _ _ _ _ _ id_law account_law

abbrev code_fields : List ℕ × List ℕ → List ℕ
code_fields f = counted_bytes f.0 ++ counted_bytes f.1

abbrev AreCodeFields : List ℕ × List ℕ → Type 0
AreCodeFields f = IsId f.0 × IsCounted f.1

code_fields_law : IsRead (pair account_id_at blob_at) code_fields AreCodeFields
code_fields_law = pair_law _ _ _ _ _ _ id_law (blob_law record_fault)

abbrev key_fields : List ℕ × (PublicKey × AccessKey) → List ℕ
key_fields f = counted_bytes f.0 ++ (key_bytes f.1.0 ++ access_key_bytes f.1.1)

abbrev AreKeyFields : List ℕ × (PublicKey × AccessKey) → Type 0
AreKeyFields f = IsId f.0 × (IsKey f.1.0 × IsAccessKey f.1.1)

key_fields_law : IsRead (pair account_id_at (pair key_at access_key_at)) key_fields AreKeyFields
key_fields_law = pair_law _ _ _ _ _ _ id_law (pair_law _ _ _ _ _ _ key_law access_key_law)

abbrev datum_fields : List ℕ × (List ℕ × List ℕ) → List ℕ
datum_fields f = counted_bytes f.0 ++ (counted_bytes f.1.0 ++ counted_bytes f.1.1)

abbrev AreDatumFields : List ℕ × (List ℕ × List ℕ) → Type 0
AreDatumFields f = IsId f.0 × (IsCounted f.1.0 × IsCounted f.1.1)

datum_fields_law : IsRead (pair account_id_at (pair blob_at blob_at)) datum_fields AreDatumFields
datum_fields_law = pair_law _ _ _ _ _ _ id_law (pair_law _ _ _ _ _ _ (blob_law record_fault) (blob_law record_fault))

abbrev inner : GenesisEntry → List ℕ
inner (Account id account) = account_fields (id, account)
inner (Code id code) = code_fields (id, code)
inner (Key id key access) = key_fields (id, (key, access))
inner (Datum id key value) = datum_fields (id, (key, value))

abbrev EntryArm : ℕ → Input → GenesisEntry × Input → Type 0
EntryArm = IsArm ordinal inner IsEntry

arms : (at n : ℕ) (s : Input) (p : GenesisEntry × Input) → IsBytes s.left → entry_body at n s ≡ Ok p → EntryArm n s p
arms at zero s p fits e =
    mapped_case account_of (pair account_id_at account_at) account_fields AreAccountFields account_fields_law
    (EntryArm 0 s) s p fits (λ x t ok takes. record { ordinal = refl; fits = ok; takes = takes }) e
arms at (suc zero) s p fits e =
    mapped_case code_of (pair account_id_at blob_at) code_fields AreCodeFields code_fields_law (EntryArm 1 s) s p fits
    (λ x t ok takes. record { ordinal = refl; fits = ok; takes = takes }) e
arms at (suc (suc zero)) s p fits e =
    mapped_case key_of (pair account_id_at (pair key_at access_key_at)) key_fields AreKeyFields key_fields_law
    (EntryArm 2 s) s p fits (λ x t ok takes. record { ordinal = refl; fits = ok; takes = takes }) e
arms at (suc (suc (suc zero))) s p fits e =
    mapped_case datum_of (pair account_id_at (pair blob_at blob_at)) datum_fields AreDatumFields datum_fields_law
    (EntryArm 3 s) s p fits (λ x t ok takes. record { ordinal = refl; fits = ok; takes = takes }) e
arms at (suc (suc (suc (suc b)))) s p fits e = absurd cc

again : (at : ℕ) (v : GenesisEntry) (here : ℕ) (rest : List ℕ) → IsEntry v → entry_body at (ordinal v) (before (inner v) here rest) ≡ Ok (v, behind (inner v) here rest)
again at (Account id account) here rest fits = rw (account_fields_law.again (id, account) here rest fits) refl
again at (Code id code) here rest fits = rw (code_fields_law.again (id, code) here rest fits) refl
again at (Key id key access) here rest fits = rw (key_fields_law.again (id, (key, access)) here rest fits) refl
again at (Datum id key value) here rest fits = rw (datum_fields_law.again (id, (key, value)) here rest fits) refl

low : (v : GenesisEntry) → ordinal v < 256
low (Account id account) = omega arith
low (Code id code) = omega arith
low (Key id key access) = omega arith
low (Datum id key value) = omega arith

spelled : (v : GenesisEntry) → entry_bytes v ≡ tagged ordinal inner v
spelled (Account id account) = refl
spelled (Code id code) = refl
spelled (Key id key access) = refl
spelled (Datum id key value) = refl

pub entry_law : IsRead entry_at entry_bytes IsEntry
unfolding entry_at
entry_law =
    IsRead-spelled (choice entry_body) entry_bytes (tagged ordinal inner) IsEntry spelled
    (choice_law record_fault entry_body ordinal inner IsEntry low arms again)
