-- Borsh 1.0, dynamic arrays: a layout is the list of its boundaries. The limit and the order are this project's.
use Rattle.std.specs.Prelude.{ℕ, zero, suc, List, [], ◌∷◌, Option, None, Some, Ok, Err, nat_lt, if◌then◌else◌}
use Rattle.std.specs.List.{AllByRecursion}
use Rattle.nr_bytes.specs.Reading.{Input, ◌>>=◌}
use Rattle.nr_bytes.specs.Writing.{counted_bytes}
use Rattle.nr_records.specs.declared.fault.RecordFault.TheVariants.{TooManyBoundaries, BoundaryOrder}
use Rattle.nr_records.specs.Reading.{Read, nat_at, account_id_at}
use Rattle.nr_bytes.specs.Spelling.{list}
use Rattle.nr_records.specs.Ids.{IsId}
use Rattle.nr_bytes.specs.Fields.{tested}
use Rattle.nr_layout.specs.Layout.{is_above, IsLayout}

-- an id; one that isn't above the one before it is refused at its count
abbrev pub boundary_at : Option (List ℕ) → Input → Read (List ℕ)
boundary_at last = tested (is_above last) BoundaryOrder account_id_at

-- as many boundaries as the number says, each tried as soon as it is read
unfoldable pub boundaries_at : Option (List ℕ) → ℕ → Input → Read (List (List ℕ))
boundaries_at last zero s = Ok ([], s)
boundaries_at last (suc n) s = do
  first ← boundary_at last s
  others ← boundaries_at (Some first.0) n first.1
  Ok (first.0 ∷ others.0, others.1)

-- a count of at most 15, and that many boundaries; a greater count is refused before any of them is read
unfoldable pub layout_at : Input → Read (List (List ℕ))
layout_at s = do
  n ← nat_at 4 s
  if nat_lt 15 n.0 then Err (TooManyBoundaries s.at) else boundaries_at None n.0 n.1

-- the count, and the boundaries one after the other
abbrev pub layout_bytes : List (List ℕ) → List ℕ
layout_bytes = list counted_bytes

-- boundaries of a layout, each of them an account id
abbrev pub FitsLayout : List (List ℕ) → Type 0
FitsLayout boundaries = IsLayout boundaries × AllByRecursion IsId boundaries
