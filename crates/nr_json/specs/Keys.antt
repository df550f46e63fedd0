-- Account ids, hashes and public keys as JSON texts (RFC 8259). Ids, the schemes of keys and base 58 as in NEAR's JSON;
-- that bytes are hexadecimal is this project's own.
use Rattle.std.specs.Prelude.{ℕ, ◌==◌, List, ◌++◌, length, take, drop, Bool, Option, Some, None, option_map}
use Rattle.std.specs.Prelude.{option_and_then, if◌then◌else◌, codes}
use Rattle.std.specs.Str.{bytes_eq}
use Rattle.hex.specs.Hex.{decode_sized, encode_lower}
use Rattle.nr_ids.specs.Grammar.{id_fault}
use Rattle.nr_ids.specs.declared.fault.IdFault.{IdFault}
use Rattle.nr_ids.specs.declared.key.Hash32.{Hash32}
use Rattle.nr_ids.specs.declared.key.PublicKey.{PublicKey}
use Rattle.nr_ids.specs.declared.key.PublicKey.TheVariants.{Ed25519, Secp256k1}
use Rattle.nr_ids.specs.Keys.{hash_of_bytes}
use Rattle.serde_json.specs.Data.{Data, string}
use Rattle.serde_json.specs.Find.{as_str}
use Rattle.nr_json.specs.Base58.{base58_of}
use Rattle.nr_json.specs.Faults.{Read}
use Rattle.nr_json.specs.Plain.{or_fault, without_fault}
use Rattle.nr_json.specs.declared.fault.Wrong.TheVariants.{NoHash, NoKey, NoAccountId}

-- ---- account ids
abbrev pub without_id_fault : List ℕ → Option IdFault → Option (List ℕ)
without_id_fault text None = Some text
without_id_fault text (Some fault) = None

abbrev pub id_in : List ℕ → Option (List ℕ)
id_in text = without_id_fault text (id_fault text)

abbrev pub id_of : Data → Read (List ℕ)
id_of d = or_fault NoAccountId (option_and_then id_in (as_str d))

-- ---- hashes: 64 hexadecimal digits
abbrev pub sized : ℕ → List ℕ → Option (List ℕ)
sized n text = without_fault (decode_sized text n)

abbrev pub hash_json : Hash32 → Data
hash_json hash = string (encode_lower hash.0)

abbrev pub hash_of : Data → Read Hash32
hash_of d = or_fault NoHash (option_and_then (λ text. option_map hash_of_bytes (sized 32 text)) (as_str d))

-- ---- public keys: the scheme, a colon and hexadecimal digits, or of `ed25519` base 58
abbrev pub ed25519 : List ℕ
ed25519 = codes "ed25519:"

abbrev pub secp256k1 : List ℕ
secp256k1 = codes "secp256k1:"

abbrev pub begins : List ℕ → List ℕ → Bool
begins scheme text = bytes_eq (take (length scheme) text) scheme

abbrev pub key_text : PublicKey → List ℕ
key_text (Ed25519 key) = ed25519 ++ encode_lower key
key_text (Secp256k1 key) = secp256k1 ++ encode_lower key

-- 32 bytes in base 58 have at most 44 characters
abbrev pub ed25519_in : List ℕ → Option (List ℕ)
ed25519_in digits = if length digits == 64 then sized 32 digits else base58_of digits

abbrev pub key_in : List ℕ → Option PublicKey
key_in text =
    if begins ed25519 text then option_map Ed25519 (ed25519_in (drop (length ed25519) text))
    else if begins secp256k1 text then option_map Secp256k1 (sized 64 (drop (length secp256k1) text))
    else None

abbrev pub key_json : PublicKey → Data
key_json key = string (key_text key)

abbrev pub key_of : Data → Read PublicKey
key_of d = or_fault NoKey (option_and_then key_in (as_str d))
