-- The configuration that a JSON text is (RFC 8259, as the crate `serde_json` reads it), or why it is none. This
-- project's own.
use Rattle.std.specs.Prelude.{ℕ, ◌+◌, List, [], ◌∷◌, is_some, Option, Some, None, option_and_then, Result, Ok, Err}
use Rattle.std.specs.Prelude.{nat_lt, ◌||◌, if◌then◌else◌}
use Rattle.std.specs.Str.{is_utf8}
use Rattle.serde_json.specs.Data.{Data}
use Rattle.serde_json.specs.Find.{get, as_object, as_number, as_u64}
use Rattle.serde_json.specs.Read.{read}
use Rattle.nr_config.specs.Table.{Row, table}
use Rattle.nr_bytes.specs.Reading.{◌>>=◌}
use Rattle.nr_config.specs.Config.{Config, reward_numerator, reward_denominator}
use Rattle.nr_config.specs.declared.fault.ConfigFault.{ConfigFault}
use Rattle.nr_config.specs.declared.fault.ConfigFault.TheVariants.{NotJson, Missing, NotWhole, OutOfRange}

-- a whole number within the bounds of its entry, which is the n-th
abbrev pub bounded : ℕ → Row → Option ℕ → Result ℕ ConfigFault
bounded n r None = Err (NotWhole n)
bounded n r (Some x) = if nat_lt x r.least || nat_lt r.greatest x then Err (OutOfRange n) else Ok x

-- the number that stands under the name of an entry
abbrev pub named : ℕ → Row → Option Data → Result ℕ ConfigFault
named n r None = Err (Missing n)
named n r (Some d) = bounded n r (option_and_then as_u64 (as_number d))

-- the numbers of some rows, the first of which is the n-th, or the fault of the first row that has one
abbrev pub numbers : ℕ → List Row → Data → Result (List ℕ) ConfigFault
numbers n [] d = Ok []
numbers n (r ∷ rs) d = do
  x ← named n r (get r.name d)
  xs ← numbers (n + 1) rs d
  Ok (x ∷ xs)

-- the part of burnt gas that is a reward is at most the whole
abbrev pub with_reward : Config → Result Config ConfigFault
with_reward c = if nat_lt (reward_denominator c) (reward_numerator c) then Err (OutOfRange 11) else Ok c

-- the object that a JSON text is
abbrev pub object_of : Option Data → Result Data ConfigFault
object_of None = Err NotJson
object_of (Some d) = if is_some (as_object d) then Ok d else Err NotJson

abbrev pub object_in : List ℕ → Result Data ConfigFault
object_in bytes = if is_utf8 bytes then object_of (read bytes) else Err NotJson

-- the configuration that the bytes are; names that the table lacks say nothing
unfoldable pub configuration : List ℕ → Result Config ConfigFault
configuration bytes = do
  d ← object_in bytes
  c ← numbers 1 table d
  with_reward c
