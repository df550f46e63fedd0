-- The laws of account ids, hashes and keys.
use Rattle.std.proofs.Common.{◌≡◌, ℕ, zero, suc, ◌<◌, Bool, true, List, Option, Some, None, Ok, Err, refl, ap, arith}
use Rattle.nr_bytes.specs.Numbers.{IsBytes}
use Rattle.nr_bytes.specs.Reading.{Input, ◌>>=◌}
use Rattle.nr_bytes.specs.Writing.{counted_bytes}
use Rattle.std.specs.Prelude.{is_none, cond}
use Rattle.nr_ids.specs.declared.fault.IdFault.{IdFault}
use Rattle.nr_ids.specs.declared.key.PublicKey.{PublicKey}
use Rattle.nr_ids.specs.declared.key.PublicKey.TheVariants.{Ed25519, Secp256k1}
use Rattle.std.proofs.lemmas.Str.{is_utf8-from_IsUtf8}
use Rattle.nr_ids.specs.Grammar.{id_fault}
use Rattle.nr_ids.specs.Keys.{hash_of_bytes, hash_bytes, IsHash, key_bytes, IsKey}
use Rattle.nr_ids.proofs.Ids.{short_id, text_id}
use Rattle.nr_records.specs.declared.fault.RecordFault.TheVariants.{BadAccountId}
use Rattle.nr_records.specs.Reading.{Read, raw_at, string_at, id_of, account_id_at, choice}
use Rattle.nr_bytes.specs.Spelling.{IsRead, Passes, IsString, HasLength, tagged, before, behind}
use Rattle.nr_bytes.proofs.Steps.{IsRead-along, IsRead-spelled, IsRead-where}
use Rattle.nr_bytes.specs.Fields.{tested}
use Rattle.nr_bytes.proofs.Values.{tested_law, mapped_law, mapped_case}
use Rattle.nr_bytes.proofs.Fields.{string_law, raw_law}
use Rattle.nr_bytes.proofs.Combined.{choice_law, IsArm}
use Rattle.nr_records.specs.Fault.{record_fault}
use Rattle.nr_records.specs.Ids.{IsId, hash_at, key_body, key_at}

-- ---- account ids

abbrev is_id : List ℕ → Bool
is_id id = is_none (id_fault id)

id_is : (at : ℕ) (o : Option IdFault) (text : List ℕ × Input) → id_of at o text ≡ cond (is_none o) (Ok text) (Err (BadAccountId at))
id_is at None text = refl
id_is at (Some fault) text = refl

id_read_is : (s : Input) (r : Read (List ℕ)) → (r >>= λ text. id_of s.at (id_fault text.0) text)
    ≡ (r >>= λ a. cond (is_id a.0) (Ok a) (Err (BadAccountId s.at)))
id_read_is s (Ok text) = id_is s.at (id_fault text.0) text
id_read_is s (Err e) = refl

none_is : (o : Option IdFault) → is_none o ≡ true → o ≡ None
none_is None e = refl
none_is (Some fault) e = absurd cc

is_text : (id : List ℕ) → IsId id → Passes IsString is_id id
is_text id e = ((omega (arith, short_id id e), is_utf8-from_IsUtf8 id (text_id id e)), ap is_none e)

pub id_law : IsRead account_id_at counted_bytes IsId
unfolding account_id_at
id_law =
    IsRead-where account_id_at counted_bytes (Passes IsString is_id) IsId (λ id fits. none_is (id_fault id) fits.1)
    is_text
    (IsRead-along account_id_at (tested is_id BadAccountId string_at) counted_bytes (Passes IsString is_id)
    (λ s. id_read_is s (string_at s))
    (tested_law is_id BadAccountId string_at counted_bytes IsString (string_law record_fault)))

-- ---- hashes

pub hash_law : IsRead hash_at hash_bytes IsHash
hash_law =
    mapped_law hash_of_bytes hash_bytes (λ _. refl) (λ _. refl) (raw_at 32) (λ v. v) (HasLength 32)
    (raw_law record_fault 32)

-- ---- keys

abbrev ordinal : PublicKey → ℕ
ordinal (Ed25519 key) = 0
ordinal (Secp256k1 key) = 1

abbrev inner : PublicKey → List ℕ
inner (Ed25519 key) = key
inner (Secp256k1 key) = key

arms : (at n : ℕ) (s : Input) (p : PublicKey × Input) → IsBytes s.left → key_body at n s ≡ Ok p → IsArm ordinal inner IsKey n s p
arms at zero s p fits e = mapped_case (λ key. Ed25519 key) (raw_at 32) (λ v. v) (HasLength 32) (raw_law record_fault 32) (IsArm ordinal inner IsKey 0 s) s p fits (λ x t len takes. record { ordinal = refl; fits = len; takes = takes }) e
arms at (suc zero) s p fits e = mapped_case (λ key. Secp256k1 key) (raw_at 64) (λ v. v) (HasLength 64) (raw_law record_fault 64) (IsArm ordinal inner IsKey 1 s) s p fits (λ x t len takes. record { ordinal = refl; fits = len; takes = takes }) e
arms at (suc (suc b)) s p fits e = absurd cc

again : (at : ℕ) (v : PublicKey) (here : ℕ) (rest : List ℕ) → IsKey v → key_body at (ordinal v) (before (inner v) here rest) ≡ Ok (v, behind (inner v) here rest)
again at (Ed25519 key) here rest fits = rw ((raw_law record_fault 32).again key here rest fits) refl
again at (Secp256k1 key) here rest fits = rw ((raw_law record_fault 64).again key here rest fits) refl

low : (v : PublicKey) → ordinal v < 256
low (Ed25519 key) = omega arith
low (Secp256k1 key) = omega arith

spelled : (v : PublicKey) → key_bytes v ≡ tagged ordinal inner v
spelled (Ed25519 key) = refl
spelled (Secp256k1 key) = refl

pub key_law : IsRead key_at key_bytes IsKey
unfolding key_at
key_law =
    IsRead-spelled (choice key_body) key_bytes (tagged ordinal inner) IsKey spelled
    (choice_law record_fault key_body ordinal inner IsKey low arms again)
