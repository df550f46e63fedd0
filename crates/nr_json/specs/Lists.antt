-- Lists as JSON arrays, and what may be absent as JSON null (RFC 8259). This project's own.
use Rattle.std.specs.Prelude.{ℕ, ◌+◌, List, [], ◌∷◌, map, is_some, Option, Some, None, Ok, Err, if◌then◌else◌}
use Rattle.nr_bytes.specs.Reading.{◌>>=◌}
use Rattle.serde_json.specs.Data.{Data, null, array, Items, no_items, item}
use Rattle.serde_json.specs.Find.{as_null, as_array}
use Rattle.serde_json.specs.View.{items_of}
use Rattle.nr_json.specs.Faults.{Read, fault, item_step, within}
use Rattle.nr_json.specs.declared.fault.Wrong.TheVariants.{NoList}

-- ---- lists
abbrev pub list_json : {X : Type 0} → (X → Data) → List X → Data
list_json json xs = array (items_of (map json xs))

-- each item, the first of them with this number, or the first fault
unfoldable pub each_of : {X : Type 0} → (Data → Read X) → ℕ → Items → Read (List X)
each_of reading n no_items = Ok []
each_of reading n (item d ds) = do
  x ← within (item_step n) (reading d)
  xs ← each_of reading (n + 1) ds
  Ok (x ∷ xs)

abbrev pub items_in : {X : Type 0} → (Data → Read X) → Option Items → Read (List X)
items_in reading None = Err (fault NoList)
items_in reading (Some ds) = each_of reading 0 ds

abbrev pub list_of : {X : Type 0} → (Data → Read X) → Data → Read (List X)
list_of reading d = items_in reading (as_array d)

-- ---- what may be absent
abbrev pub option_json : {X : Type 0} → (X → Data) → Option X → Data
option_json json None = null
option_json json (Some x) = json x

abbrev pub some_of : {X : Type 0} → (Data → Read X) → Data → Read (Option X)
some_of reading d = do
  x ← reading d
  Ok (Some x)

abbrev pub option_of : {X : Type 0} → (Data → Read X) → Data → Read (Option X)
option_of reading d = if is_some (as_null d) then Ok None else some_of reading d
