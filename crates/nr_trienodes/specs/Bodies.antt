-- What a node holds in memory: a value, children, or both. This project's own.
use Rattle.std.specs.Prelude.{ℕ, List, Option, Some, None}
use Rattle.nr_trienodes.specs.Shape.{no_children}
use Rattle.nr_trienodes.specs.declared.body.Body.{Body}
use Rattle.nr_trienodes.specs.declared.body.Body.TheVariants.{Bare, Value, Children, Both}

-- the value that is held, where there is one
abbrev pub value_of : Body → Option (List ℕ)
value_of Bare = None
value_of (Value value) = Some value
value_of (Children row) = None
value_of (Both both) = Some both.value.value

-- the children that are held, or a row without any
abbrev pub row_of : Body → List (Option ℕ)
row_of Bare = no_children
row_of (Value value) = no_children
row_of (Children row) = row.value
row_of (Both both) = both.value.row

-- the row that is given, or one without children
abbrev pub row_in : Option (List (Option ℕ)) → List (Option ℕ)
row_in None = no_children
row_in (Some row) = row
