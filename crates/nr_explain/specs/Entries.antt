-- What is said of an entry of a configuration: its name and its bounds. This project's own.
use Rattle.std.specs.Prelude.{ℕ, ◌-◌, ◌^◌, List, [], ◌++◌, map, Option, Some, None, option_and_then, cond, codes}
use Rattle.std.specs.Prelude.{decimal, nat_lt, slice_get}
use Rattle.nr_config.specs.Table.{Row, table}
use Rattle.nr_explain.specs.Words.{number_below}

-- an entry's name, and its least and greatest number
pub record Bounds : Type 0 where
  pub name : List ℕ
  pub least : ℕ
  pub greatest : ℕ

abbrev pub bounds_of : Row → Bounds
bounds_of r = record { name = r.name; least = r.least; greatest = r.greatest }

unfoldable pub entries : List Bounds
entries = map bounds_of table

-- entries count from 1
abbrev pub nth_entry : ℕ → Option Bounds
nth_entry n = cond (nat_lt 0 n) (slice_get entries (n - 1)) None

abbrev pub entry_of : List ℕ → Option Bounds
entry_of word = option_and_then nth_entry (number_below (2 ^ 64) word)

-- what is said of an entry behind its number, as `, regular_op_cost (1 to 1000000000),`
abbrev pub entry_told : Option Bounds → List ℕ
entry_told None = []
entry_told (Some b) =
    codes ", " ++ b.name ++ codes " (" ++ decimal b.least ++ codes " to " ++ decimal b.greatest ++ codes "),"
