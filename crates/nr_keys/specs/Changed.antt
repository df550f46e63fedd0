-- Access keys whose nonce and allowance are others, and which bytes of a key these are. This project's own.
use Rattle.std.specs.Prelude.{ℕ, ◌^◌, List, [], ◌∷◌, Option, Some, None}
use Rattle.nr_bytes.specs.Numbers.{little}
use Rattle.nr_bytes.specs.Spelling.{Below}
use Rattle.nr_records.specs.Options.{option_bytes, IsOption}
use Rattle.nr_records.specs.declared.access_key.AccessKey.{AccessKey}
use Rattle.nr_records.specs.declared.access_key.Permission.{Permission}
use Rattle.nr_records.specs.declared.access_key.Permission.TheVariants.{Call, Full}

-- a key for calls has this allowance; a full key has none
abbrev pub with_allowance : Option ℕ → Permission → Permission
with_allowance allowance (Call calls) = Call (record calls { allowance = allowance })
with_allowance allowance Full = Full

abbrev pub changed : ℕ → Option ℕ → AccessKey → AccessKey
changed nonce allowance key = record { nonce = nonce; permission = with_allowance allowance key.permission }

-- ---- the bytes that stand between the nonce and the receiver, or between the nonce and the end
abbrev pub front_bytes : Option ℕ → Permission → List ℕ
front_bytes allowance (Call calls) = 0 ∷ option_bytes (little 16) allowance
front_bytes allowance Full = 1 ∷ []

-- how many bytes stand before what stays
abbrev pub front_by : Option ℕ → ℕ
front_by None = 10
front_by (Some allowance) = 26

abbrev pub front_length : Permission → ℕ
front_length (Call calls) = front_by calls.allowance
front_length Full = 9

-- an allowance fits where there can be one
abbrev pub FitsFront : Option ℕ → Permission → Type 0
FitsFront allowance (Call calls) = IsOption (Below (256 ^ 16)) allowance
FitsFront allowance Full = Unit {0}
