-- Accounts and keys that actions make or change. After the Nomicon, Data Structures (Account, Account ID, Access
-- Keys) and Runtime Specification (Refunds).
use Rattle.std.specs.Prelude.{ℕ, ◌+◌, ◌-◌, ◌^◌, min, List, Option, Some, None, option_map, Result, Ok, Err, replicate}
use Rattle.hex.specs.Hex.{decode_sized}
use Rattle.hex.specs.declared.error.FromHexError.{FromHexError}
use Rattle.nr_config.specs.Config.{Config, account_bytes_entry}
use Rattle.nr_ids.specs.declared.key.PublicKey.{PublicKey}
use Rattle.nr_ids.specs.declared.key.PublicKey.TheVariants.{Ed25519}
use Rattle.nr_records.specs.declared.access_key.AccessKey.{AccessKey}
use Rattle.nr_records.specs.declared.access_key.Permission.{Permission}
use Rattle.nr_records.specs.declared.access_key.Permission.TheVariants.{Call, Full}
use Rattle.nr_records.specs.declared.account.Account.{Account}
use Rattle.nr_state.specs.Changes.{set_key}
use Rattle.nr_state.specs.Usage.{zero_hash}
use Rattle.nr_state.specs.World.{World, with_account}

-- an account that owns nothing
abbrev pub new_account : Config → ℕ → Account
new_account c amount =
    record { amount = amount; locked = 0; code_hash = zero_hash; storage_usage = account_bytes_entry c }

abbrev pub with_deposit : Account → ℕ → Account
with_deposit account deposit = record account { amount = account.amount + deposit }

-- ---- an implicit account: its id spells its key in hexadecimal digits
abbrev pub decoded : Result (List ℕ) FromHexError → List ℕ
decoded (Ok bytes) = bytes
decoded (Err e) = replicate 32 0

abbrev pub implicit_key : List ℕ → PublicKey
implicit_key id = Ed25519 (decoded (decode_sized id 32))

abbrev pub full_key : AccessKey
full_key = record { nonce = 0; permission = Full }

abbrev pub with_implicit : Config → World → List ℕ → ℕ → World
with_implicit c w id amount = set_key c (with_account w id (new_account c amount)) id (implicit_key id) full_key

-- ---- a refund raises the allowance of a key for calls that has one, to at most 2^128 - 1
abbrev pub raised : ℕ → Permission → Permission
raised amount (Call call) =
    Call (record call { allowance = option_map (λ allowance. min (allowance + amount) (2 ^ 128 - 1)) call.allowance })
raised amount Full = Full

abbrev pub with_raised : Config → World → List ℕ → PublicKey → ℕ → Option AccessKey → World
with_raised c w id key amount None = w
with_raised c w id key amount (Some access) =
    set_key c w id key (record access { permission = raised amount access.permission })
