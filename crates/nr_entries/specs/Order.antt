-- Entries whose keys rise. This project's own.
use Rattle.std.specs.Prelude.{ℕ, ◌&&◌, Bool, true, List, [], ◌∷◌}
use Rattle.std.specs.Ordering.{is_lt}
use Rattle.nr_columns.specs.Orders.{bytes_cmp}
use Rattle.nr_columns.specs.declared.entry.Entry.{Entry}

-- the first key is above this one
abbrev pub is_below : List ℕ → List Entry → Bool
is_below key [] = true
is_below key (e ∷ es) = is_lt (bytes_cmp key e.key)

-- each key is above the one before it
abbrev pub rises : List Entry → Bool
rises [] = true
rises (e ∷ es) = is_below e.key es && rises es
