-- What a node is, and what is said of it by recursion on the nodes below it. A list of an arena's nodes has the
-- newest first, so that a node's name is how many are older. This project's own.
use Rattle.std.specs.Prelude.{ℕ, zero, suc, ◌==◌, cond, List, [], ◌∷◌, length, map, replicate, Option, None}
use Rattle.std.specs.Option.{option_map}
use Rattle.nr_ids.specs.declared.key.Hash32.{Hash32}

-- nibbles in front, the value whose key ends behind these, the child for each next nibble, the memory usage, and the
-- hash where it is kept
pub record Shape : Type 0 where
  pub part : List ℕ
  pub value : Option (List ℕ)
  pub below : List (Option ℕ)
  pub usage : ℕ
  pub hash : Option Hash32

abbrev pub no_children : List (Option ℕ)
no_children = replicate 16 None

abbrev pub no_shape : Shape
no_shape = record { part = []; value = None; below = []; usage = 0; hash = None }

-- a node of these, without what it caches
abbrev pub bare : List ℕ → Option (List ℕ) → List (Option ℕ) → Shape
bare part value below = record { part = part; value = value; below = below; usage = 0; hash = None }

-- the child of a nibble
abbrev pub child : {A : Type 0} → List (Option A) → ℕ → Option A
child [] x = None
child (c ∷ cs) zero = c
child (c ∷ cs) (suc x) = child cs x

-- the node of a name
abbrev pub shape_at : List Shape → ℕ → Shape
shape_at [] id = no_shape
shape_at (s ∷ older) id = cond (id == length older) s (shape_at older id)

-- what f makes of a node and of what it made of its children
unfoldable pub fold : {A : Type 0} → (Shape → List (Option A) → A) → A → List Shape → ℕ → A
fold f none [] id = none
fold f none (s ∷ older) id =
    cond (id == length older) (f s (map (option_map (fold f none older)) s.below)) (fold f none older id)

-- what f makes of a node over these
abbrev pub over : {A : Type 0} → (Shape → List (Option A) → A) → A → List Shape → Shape → A
over f none nodes s = f s (map (option_map (fold f none nodes)) s.below)
