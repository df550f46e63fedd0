-- Hashes and keys that compare as equal are the same, and a derived hash has 32 bytes.
use Rattle.std.proofs.Common.{◌≡◌}
use Rattle.std.proofs.lemmas.Map.Lookups.{exact_bytes}
use Rattle.std.specs.Cmp.Lexicographic.{slice_cmp}
use Rattle.std.specs.Ordering.{nat_cmp, on}
use Rattle.std.specs.FinMap.{IsAntisymmetric}
use Rattle.nr_ids.specs.declared.key.PublicKey.{PublicKey}
use Rattle.nr_ids.specs.declared.key.PublicKey.TheVariants.{Ed25519, Secp256k1}
use Rattle.nr_ids.specs.Keys.{key_bytes}

pub same_key : (a b : PublicKey) → key_bytes a ≡ key_bytes b → a ≡ b
same_key (Ed25519 a) (Ed25519 b) e = cc
same_key (Ed25519 a) (Secp256k1 b) e = absurd cc
same_key (Secp256k1 a) (Ed25519 b) e = absurd cc
same_key (Secp256k1 a) (Secp256k1 b) e = cc

pub exact_key : IsAntisymmetric (on key_bytes (slice_cmp nat_cmp))
exact_key a b e = same_key a b (exact_bytes (key_bytes a) (key_bytes b) e)
