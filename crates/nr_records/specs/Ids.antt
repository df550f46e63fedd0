-- Nomicon, DataStructures, Account (account ids) and AccessKey (public keys), spelled by Borsh 1.0.
use Rattle.std.specs.Prelude.{◌≡◌, ℕ, zero, suc, List, None, Err}
use Rattle.nr_bytes.specs.Reading.{Input}
use Rattle.nr_ids.specs.declared.key.Hash32.{Hash32}
use Rattle.nr_ids.specs.declared.key.PublicKey.{PublicKey}
use Rattle.nr_ids.specs.declared.key.PublicKey.TheVariants.{Ed25519, Secp256k1}
use Rattle.nr_ids.specs.Grammar.{id_fault}
use Rattle.nr_ids.specs.Keys.{hash_of_bytes}
use Rattle.nr_records.specs.declared.fault.RecordFault.TheVariants.{BadOrdinal}
use Rattle.nr_records.specs.Reading.{Read, raw_at, choice}
use Rattle.nr_bytes.specs.Fields.{mapped}

-- ---- account ids

abbrev pub IsId : List ℕ → Type 0
IsId id = id_fault id ≡ None

-- ---- hashes

abbrev pub hash_at : Input → Read Hash32
hash_at = mapped hash_of_bytes (raw_at 32)

-- ---- keys

-- what stands behind the ordinal; at is the ordinal's place
abbrev pub key_body : ℕ → ℕ → Input → Read PublicKey
key_body at zero = mapped (λ key. Ed25519 key) (raw_at 32)
key_body at (suc zero) = mapped (λ key. Secp256k1 key) (raw_at 64)
key_body at (suc (suc b)) = λ s. Err (BadOrdinal at)

unfoldable pub key_at : Input → Read PublicKey
key_at = choice key_body
