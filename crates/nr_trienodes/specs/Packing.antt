-- A row of children with a number for each, one of which means none. This project's own.
use Rattle.std.specs.Prelude.{◌≡◌, ◌<◌, ℕ, ◌^◌, ◌-◌, ◌==◌, List, map, cond, Option, Some, None}
use Rattle.nr_trienodes.specs.Shape.{child}
use Rattle.nr_trienodes.specs.declared.packed.Packed.TheInside.{Inside}

-- the number that means none
abbrev pub none_number : ℕ
none_number = 2 ^ 32 - 1

abbrev pub child_of : ℕ → Option ℕ
child_of number = cond (number == none_number) None (Some number)

abbrev pub packed_view : Inside → List (Option ℕ)
packed_view p = map child_of p.numbers

-- no child has the number that means none
abbrev pub IsPackable : List (Option ℕ) → Type 0
IsPackable row = (x c : ℕ) → child row x ≡ Some c → c < none_number
