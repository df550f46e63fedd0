-- Which records a JSON value can stand for: all that can be held. Hashes and keys have their lengths, bytes are
-- bytes, amounts are below 2^128, ids are ids.
use Rattle.std.specs.Prelude.{◌≡◌, ℕ, ◌^◌, ◌<◌, List, length}
use Rattle.std.specs.List.{AllByRecursion}
use Rattle.nr_bytes.specs.Numbers.{IsBytes}
use Rattle.nr_bytes.specs.Spelling.{Below}
use Rattle.nr_ids.specs.declared.key.Hash32.{Hash32}
use Rattle.nr_ids.specs.declared.key.PublicKey.{PublicKey}
use Rattle.nr_ids.specs.declared.key.PublicKey.TheVariants.{Ed25519, Secp256k1}
use Rattle.nr_records.specs.Ids.{IsId}
use Rattle.nr_records.specs.Options.{IsOption}
use Rattle.nr_records.specs.declared.access_key.Permission.{Permission}
use Rattle.nr_records.specs.declared.access_key.Permission.TheVariants.{Call, Full}
use Rattle.nr_records.specs.declared.action.Action.{Action}
use Rattle.nr_records.specs.declared.action.Action.TheVariants.{CreateAccount, DeployContract, FunctionCall, Transfer}
use Rattle.nr_records.specs.declared.action.Action.TheVariants.{AddKey, DeleteKey, DeleteAccount}
use Rattle.nr_records.specs.declared.transaction.Transaction.{Transaction}

-- so many bytes
abbrev pub AreBytes : ℕ → List ℕ → Type 0
AreBytes n bytes = (length bytes ≡ n) × IsBytes bytes

abbrev pub FitsHash : Hash32 → Type 0
FitsHash hash = AreBytes 32 hash.0

abbrev pub FitsKey : PublicKey → Type 0
FitsKey (Ed25519 key) = AreBytes 32 key
FitsKey (Secp256k1 key) = AreBytes 64 key

abbrev pub FitsPermission : Permission → Type 0
FitsPermission (Call c) = IsOption (Below (2 ^ 128)) c.allowance
FitsPermission Full = Unit {0}

abbrev pub FitsAction : Action → Type 0
FitsAction CreateAccount = Unit {0}
FitsAction (DeployContract code) = IsBytes code
FitsAction (FunctionCall method args gas deposit) = IsBytes args × (deposit < 2 ^ 128)
FitsAction (Transfer deposit) = deposit < 2 ^ 128
FitsAction (AddKey public_key access_key) = FitsKey public_key × FitsPermission access_key.permission
FitsAction (DeleteKey public_key) = FitsKey public_key
FitsAction (DeleteAccount beneficiary) = IsId beneficiary

pub record FitsTransaction (t : Transaction) : Type 0 where
  pub signer : IsId t.signer
  pub public_key : FitsKey t.public_key
  pub receiver : IsId t.receiver
  pub block_hash : FitsHash t.block_hash
  pub actions : AllByRecursion FitsAction t.actions
