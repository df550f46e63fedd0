-- The levels of a tree, from the lowest: a place goes to its half, and neighbours are paired. This project's own.
use Rattle.std.specs.Prelude.{ℕ, ◌+◌, ◌-◌, ◌%◌, ◌==◌, List, [], ◌∷◌, Option, Some, None, cond, nat_lt}
use Rattle.std.specs.List.{slice_get}
use Rattle.nr_ids.specs.declared.key.Hash32.{Hash32}
use Rattle.nr_outproof.specs.declared.levels.Side.{Side}
use Rattle.nr_outproof.specs.declared.levels.Side.TheVariants.{Left, Right}
use Rattle.nr_outproof.specs.Tree.{pair_top}

-- the tops of pairs; a last one without a neighbour goes on as it is
unfoldable pub paired : List Hash32 → List Hash32
paired [] = []
paired (t ∷ []) = t ∷ []
paired (t ∷ u ∷ ts) = pair_top t u ∷ paired ts

-- the side of a place among n, where it has a neighbour
abbrev pub side_of : ℕ → ℕ → Option Side
side_of n p = cond (p % 2 == 1) (Some Right) (cond (nat_lt (p + 1) n) (Some Left) None)

-- that neighbour
abbrev pub beside : List Hash32 → ℕ → Option Hash32
beside ts p = cond (p % 2 == 1) (slice_get ts (p - 1)) (slice_get ts (p + 1))
