-- What a node's text tells. This project's own.
use Rattle.std.specs.Prelude.{ℕ, suc, ◌+◌, ◌*◌, ◌/◌, ◌%◌, ◌==◌, Bool, true, false, cond, List, [], ◌∷◌, ◌++◌, length}
use Rattle.std.specs.Prelude.{Option, Some, None, is_some}
use Rattle.std.specs.List.{flat_map}
use Rattle.nr_ids.specs.declared.key.Hash32.{Hash32}
use Rattle.nr_triedef.specs.Node.{nibbles}
use Rattle.nr_triedef.specs.declared.node.Node.{Node}
use Rattle.nr_triedef.specs.declared.node.Node.TheVariants.{Leaf, Extension, Branch}
use Rattle.nr_walk.specs.declared.told.Spot.{Spot}
use Rattle.nr_walk.specs.declared.told.Ending.{Ending}

-- the nibbles that a part stands for: of an odd count the first stands in the first byte
abbrev pub part_nibbles : List ℕ → List ℕ
part_nibbles [] = []
part_nibbles (b ∷ pairs) = cond (b / 16 % 2 == 0) (nibbles pairs) (b % 16 ∷ nibbles pairs)

abbrev pub ending_with : List ℕ → ℕ → Hash32 → Ending
ending_with step length hash = record { step = step; length = length; hash = hash }

-- the value of a node
abbrev pub ending_of : Node → Option Ending
ending_of (Leaf part length hash usage) = Some (ending_with (part_nibbles part) length hash)
ending_of (Extension part child usage) = None
ending_of (Branch None children usage) = None
ending_of (Branch (Some value) children usage) = Some (ending_with [] value.0 value.1)

-- whether it has one
abbrev pub has_value : Node → Bool
has_value (Leaf part length hash usage) = true
has_value (Extension part child usage) = false
has_value (Branch value children usage) = is_some value

abbrev pub option_list : {A : Type 0} → Option A → List A
option_list None = []
option_list (Some x) = x ∷ []

-- those that are there
abbrev pub hashes_in : List (Option Hash32) → List Hash32
hashes_in children = flat_map option_list children

-- the hashes of a node's children, the lowest nibble's first
abbrev pub children_of : Node → List Hash32
children_of (Leaf part length hash usage) = []
children_of (Extension part child usage) = child ∷ []
children_of (Branch value children usage) = hashes_in children

abbrev pub spot : List ℕ → Hash32 → Spot
spot place hash = record { place = place; hash = hash }

abbrev pub spot_at : List ℕ → ℕ → Option Hash32 → List Spot
spot_at place n None = []
spot_at place n (Some hash) = spot (place ++ n ∷ []) hash ∷ []

-- the children that are there, of which the first has the nibble n
abbrev pub spots_from : List ℕ → ℕ → List (Option Hash32) → List Spot
spots_from place n [] = []
spots_from place n (child ∷ children) = spot_at place n child ++ spots_from place (suc n) children

-- the children of the node at a place, the lowest nibble's first
abbrev pub spots_of : List ℕ → Node → List Spot
spots_of place (Leaf part length hash usage) = []
spots_of place (Extension part child usage) = spot (place ++ part_nibbles part) child ∷ []
spots_of place (Branch value children usage) = spots_from place 0 children

-- the memory usage of a node without what is below it: 50 for the node, 2 for each byte of its part, and 50 and 1 for
-- each byte of a value
abbrev pub own_usage : Node → ℕ
own_usage (Leaf part size hash usage) = 100 + 2 * length part + size
own_usage (Extension part child usage) = 50 + 2 * length part
own_usage (Branch None children usage) = 50
own_usage (Branch (Some value) children usage) = 100 + value.0

abbrev pub is_extension : Node → Bool
is_extension (Leaf part length hash usage) = false
is_extension (Extension part child usage) = true
is_extension (Branch value children usage) = false

abbrev pub is_branch : Node → Bool
is_branch (Leaf part length hash usage) = false
is_branch (Extension part child usage) = false
is_branch (Branch value children usage) = true
