-- Nomicon, RuntimeSpec, Actions: what a transaction or a receipt asks for, spelled by Borsh 1.0.
-- The ordinal 4 is that of Stake, which this ledger refuses by name.
use Rattle.std.specs.Prelude.{ℕ, zero, suc, ◌^◌, ◌<◌, List, [], ◌∷◌, ◌++◌, Ok, Err}
use Rattle.nr_bytes.specs.Numbers.{little}
use Rattle.nr_bytes.specs.Reading.{Input}
use Rattle.nr_bytes.specs.Writing.{counted_bytes}
use Rattle.nr_ids.specs.declared.key.PublicKey.{PublicKey}
use Rattle.nr_records.specs.declared.access_key.AccessKey.{AccessKey}
use Rattle.nr_records.specs.declared.action.Action.{Action}
use Rattle.nr_records.specs.declared.action.Action.TheVariants.{CreateAccount, DeployContract, FunctionCall, Transfer}
use Rattle.nr_records.specs.declared.action.Action.TheVariants.{AddKey, DeleteKey, DeleteAccount}
use Rattle.nr_records.specs.declared.fault.RecordFault.TheVariants.{BadOrdinal, Stake}
use Rattle.nr_records.specs.Reading.{Read, nat_at, blob_at, string_at, account_id_at, choice}
use Rattle.nr_records.specs.Ids.{IsId, key_at}
use Rattle.nr_ids.specs.Keys.{key_bytes, IsKey}
use Rattle.nr_records.specs.AccessKeys.{access_key_at, access_key_bytes, IsAccessKey}
use Rattle.nr_bytes.specs.Spelling.{IsString, IsCounted}
use Rattle.nr_bytes.specs.Fields.{pair, mapped}

abbrev pub action_bytes : Action → List ℕ
action_bytes CreateAccount = 0 ∷ []
action_bytes (DeployContract code) = 1 ∷ counted_bytes code
action_bytes (FunctionCall method args gas deposit) =
    2 ∷ (counted_bytes method ++ (counted_bytes args ++ (little 8 gas ++ little 16 deposit)))
action_bytes (Transfer deposit) = 3 ∷ little 16 deposit
action_bytes (AddKey public_key access_key) = 5 ∷ (key_bytes public_key ++ access_key_bytes access_key)
action_bytes (DeleteKey public_key) = 6 ∷ key_bytes public_key
action_bytes (DeleteAccount beneficiary) = 7 ∷ counted_bytes beneficiary

abbrev pub IsAction : Action → Type 0
IsAction CreateAccount = Unit {0}
IsAction (DeployContract code) = IsCounted code
IsAction (FunctionCall method args gas deposit) =
    IsString method × (IsCounted args × ((gas < 256 ^ 8) × (deposit < 256 ^ 16)))
IsAction (Transfer deposit) = deposit < 256 ^ 16
IsAction (AddKey public_key access_key) = IsKey public_key × IsAccessKey access_key
IsAction (DeleteKey public_key) = IsKey public_key
IsAction (DeleteAccount beneficiary) = IsId beneficiary

abbrev pub CallFields : Type 0
CallFields = List ℕ × (List ℕ × (ℕ × ℕ))

abbrev pub call_of : CallFields → Action
call_of f = FunctionCall f.0 f.1.0 f.1.1.0 f.1.1.1

abbrev pub call_at : Input → Read CallFields
call_at = pair string_at (pair blob_at (pair (nat_at 8) (nat_at 16)))

abbrev pub add_key_of : PublicKey × AccessKey → Action
add_key_of f = AddKey f.0 f.1

-- what stands behind the ordinal; at is the ordinal's place
abbrev pub action_body : ℕ → ℕ → Input → Read Action
action_body at zero = λ s. Ok (CreateAccount, s)
action_body at (suc zero) = mapped (λ code. DeployContract code) blob_at
action_body at (suc (suc zero)) = mapped call_of call_at
action_body at (suc (suc (suc zero))) = mapped (λ deposit. Transfer deposit) (nat_at 16)
action_body at (suc (suc (suc (suc zero)))) = λ s. Err (Stake at)
action_body at (suc (suc (suc (suc (suc zero))))) = mapped add_key_of (pair key_at access_key_at)
action_body at (suc (suc (suc (suc (suc (suc zero)))))) = mapped (λ public_key. DeleteKey public_key) key_at
action_body at (suc (suc (suc (suc (suc (suc (suc zero))))))) =
    mapped (λ beneficiary. DeleteAccount beneficiary) account_id_at
action_body at (suc (suc (suc (suc (suc (suc (suc (suc b)))))))) = λ s. Err (BadOrdinal at)

unfoldable pub action_at : Input → Read Action
action_at = choice action_body
