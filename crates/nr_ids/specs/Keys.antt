-- Hashes and public keys as bytes (Nomicon, data types; Borsh 1.0, fixed arrays and enums).
use Rattle.std.specs.Prelude.{◌≡◌, ℕ, List, ◌∷◌, length}
use Rattle.nr_ids.specs.declared.key.Hash32.{Hash32}
use Rattle.nr_ids.specs.declared.key.PublicKey.{PublicKey}
use Rattle.nr_ids.specs.declared.key.PublicKey.TheVariants.{Ed25519, Secp256k1}

abbrev pub hash_bytes : Hash32 → List ℕ
hash_bytes hash = hash.0

abbrev pub hash_of_bytes : List ℕ → Hash32
hash_of_bytes bytes = record { 0 = bytes }

abbrev pub IsHash : Hash32 → Type 0
IsHash hash = length hash.0 ≡ 32

-- the ordinal of the scheme, and the bytes of the key
abbrev pub key_bytes : PublicKey → List ℕ
key_bytes (Ed25519 key) = 0 ∷ key
key_bytes (Secp256k1 key) = 1 ∷ key

-- a key of its scheme's length
abbrev pub IsKey : PublicKey → Type 0
IsKey (Ed25519 key) = length key ≡ 32
IsKey (Secp256k1 key) = length key ≡ 64
