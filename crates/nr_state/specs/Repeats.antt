-- A list of texts in which one stands twice.
use Rattle.std.specs.Prelude.{ℕ, Bool, false, ◌||◌, List, [], ◌∷◌}
use Rattle.std.specs.List.{list_any}
use Rattle.std.specs.Str.{bytes_eq}

abbrev pub has_repeat : List (List ℕ) → Bool
has_repeat [] = false
has_repeat (k ∷ ks) = list_any (bytes_eq k) ks || has_repeat ks
