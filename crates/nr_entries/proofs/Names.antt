-- Keys that fit.
use Rattle.std.proofs.Common.{◌≡◌, true, length}
use Rattle.std.proofs.lemmas.Bool.{eq-eqb}
use Rattle.nr_ids.specs.Keys.{IsKey}
use Rattle.nr_ids.specs.declared.key.PublicKey.{PublicKey}
use Rattle.nr_ids.specs.declared.key.PublicKey.TheVariants.{Ed25519, Secp256k1}
use Rattle.nr_entries.specs.Told.{is_key}

pub key_fits : (key : PublicKey) → IsKey key → is_key key ≡ true
key_fits (Ed25519 key) h = eq-eqb (length key) 32 h
key_fits (Secp256k1 key) h = eq-eqb (length key) 64 h
