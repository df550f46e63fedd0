-- Nomicon, DataStructures, AccessKey: a key's nonce and what it may do, spelled by Borsh 1.0.
use Rattle.std.specs.Prelude.{ℕ, zero, suc, ◌^◌, ◌<◌, List, [], ◌∷◌, ◌++◌, Option, Ok, Err}
use Rattle.nr_bytes.specs.Numbers.{little}
use Rattle.nr_bytes.specs.Reading.{Input}
use Rattle.nr_bytes.specs.Writing.{counted_bytes}
use Rattle.nr_records.specs.declared.access_key.AccessKey.{AccessKey}
use Rattle.nr_records.specs.declared.access_key.CallPermission.{CallPermission}
use Rattle.nr_records.specs.declared.access_key.Permission.{Permission}
use Rattle.nr_records.specs.declared.access_key.Permission.TheVariants.{Call, Full}
use Rattle.nr_records.specs.declared.fault.RecordFault.TheVariants.{BadOrdinal}
use Rattle.nr_records.specs.Reading.{Read, nat_at, string_at, list_at, choice}
use Rattle.nr_bytes.specs.Spelling.{list, FitsList, Below, IsString}
use Rattle.nr_records.specs.Options.{option_at, option_bytes, IsOption}
use Rattle.nr_bytes.specs.Fields.{pair, mapped}

-- ---- what a key for calls may do

abbrev pub call_permission_bytes : CallPermission → List ℕ
call_permission_bytes c =
    option_bytes (little 16) c.allowance ++ (counted_bytes c.receiver ++ list counted_bytes c.methods)

abbrev pub IsCallPermission : CallPermission → Type 0
IsCallPermission c = IsOption (Below (256 ^ 16)) c.allowance × (IsString c.receiver × FitsList IsString c.methods)

abbrev pub CallFields : Type 0
CallFields = Option ℕ × (List ℕ × List (List ℕ))

abbrev pub call_permission_of : CallFields → CallPermission
call_permission_of f = record { allowance = f.0; receiver = f.1.0; methods = f.1.1 }

abbrev pub call_fields_at : Input → Read CallFields
call_fields_at = pair (option_at (nat_at 16)) (pair string_at (list_at string_at))

unfoldable pub call_permission_at : Input → Read CallPermission
call_permission_at = mapped call_permission_of call_fields_at

-- ---- what a key may do

abbrev pub permission_bytes : Permission → List ℕ
permission_bytes (Call c) = 0 ∷ call_permission_bytes c
permission_bytes Full = 1 ∷ []

abbrev pub IsPermission : Permission → Type 0
IsPermission (Call c) = IsCallPermission c
IsPermission Full = Unit {0}

-- what stands behind the ordinal; at is the ordinal's place
abbrev pub permission_body : ℕ → ℕ → Input → Read Permission
permission_body at zero = mapped (λ c. Call c) call_permission_at
permission_body at (suc zero) = λ s. Ok (Full, s)
permission_body at (suc (suc b)) = λ s. Err (BadOrdinal at)

unfoldable pub permission_at : Input → Read Permission
permission_at = choice permission_body

-- ---- a key's record

abbrev pub access_key_bytes : AccessKey → List ℕ
access_key_bytes k = little 8 k.nonce ++ permission_bytes k.permission

abbrev pub IsAccessKey : AccessKey → Type 0
IsAccessKey k = (k.nonce < 256 ^ 8) × IsPermission k.permission

abbrev pub access_key_of : ℕ × Permission → AccessKey
access_key_of f = record { nonce = f.0; permission = f.1 }

unfoldable pub access_key_at : Input → Read AccessKey
access_key_at = mapped access_key_of (pair (nat_at 8) permission_at)
