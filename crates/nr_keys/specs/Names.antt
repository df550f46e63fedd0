-- Names that are lent as they are spelled. This project's own.
use Rattle.std.specs.Prelude.{◌≡◌, ℕ, Bool, List, [], Option, Some, unwrap_or}
use Rattle.std.specs.List.{list_any, flat_map, AllByRecursion}
use Rattle.std.specs.Str.{bytes_eq}
use Rattle.nr_bytes.specs.Numbers.{IsBytes}
use Rattle.nr_bytes.specs.Spelling.{IsString}
use Rattle.nr_bytes.specs.Writing.{counted_bytes}
use Rattle.nr_records.specs.Reading.{all_of, list_at, string_at}
use Rattle.nr_columns.specs.Tables.{read_of}

-- the names that bytes spell
abbrev pub names_read : List ℕ → Option (List (List ℕ))
names_read bytes = read_of (all_of (list_at string_at) bytes)

-- the same, and none where they spell no names
abbrev pub names_in : List ℕ → List (List ℕ)
names_in bytes = unwrap_or (names_read bytes) []

-- they spell some
abbrev pub SpellNames : List ℕ → Type 0
SpellNames bytes = IsBytes bytes × (names_read bytes ≡ Some (names_in bytes))

-- the names of which these are left, one behind the other, have a name as the answer says
pub record IsLeft (name rest : List ℕ) (answer : Bool) : Type 0 where
  pub names : List (List ℕ)
  pub fits : AllByRecursion IsString names
  pub spelled : rest ≡ flat_map counted_bytes names
  pub same : list_any (bytes_eq name) names ≡ answer
