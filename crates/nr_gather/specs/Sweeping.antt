-- The texts that are looked at, by the list of all nodes of a trie, depth first, and of its paths in their order.
-- This project's own.
use Rattle.std.specs.Prelude.{ℕ, zero, suc, ◌+◌, cond, List, [], ◌∷◌, ◌++◌, drop, count_by, Some, is_some}
use Rattle.nr_triedef.specs.Node.{node_text}
use Rattle.nr_triedef.specs.Root.{Paths}
use Rattle.nr_triedef.specs.declared.node.Node.{Node}
use Rattle.nr_triedef.specs.declared.node.Node.TheVariants.{Leaf, Extension, Branch}
use Rattle.nr_walk.specs.declared.searched.Searched.{Searched}
use Rattle.nr_walk.specs.declared.told.Spot.{Spot}
use Rattle.nr_walk.specs.Searched.{looks}
use Rattle.nr_walk.specs.Told.{has_value, spots_of}
use Rattle.nr_gather.specs.Gathered.{found_text}

-- how many children a node has
abbrev pub count_of : Node → ℕ
count_of (Leaf part size hash usage) = 0
count_of (Extension part child usage) = 1
count_of (Branch value children usage) = count_by is_some children

-- the first value, where its key is searched
abbrev pub first_text : List Searched → Paths → List (List ℕ)
first_text searched [] = []
first_text searched (p ∷ ps) = found_text searched p.0 (Some p.1)

-- the value of the node, which is the first
abbrev pub value_text : List Searched → Node → Paths → List (List ℕ)
value_text searched node ps = cond (has_value node) (first_text searched ps) []

-- the paths behind that of the node
abbrev pub paths_behind : Node → Paths → Paths
paths_behind node ps = cond (has_value node) (drop 1 ps) ps

-- the texts that are looked at among these nodes, of which so many tries come first that are passed by, and then
-- those of the spots
abbrev pub swept : List Searched → ℕ → List Spot → List Node → Paths → List (List ℕ)
swept searched passed spots [] ps = []
swept searched (suc passed) spots (node ∷ nodes) ps =
    swept searched (passed + count_of node) spots nodes (paths_behind node ps)
swept searched zero [] (node ∷ nodes) ps = []
swept searched zero (spot ∷ spots) (node ∷ nodes) ps =
    node_text node ∷ cond (looks searched spot.place)
    (value_text searched node ps ++ swept searched 0 (spots_of spot.place node ++ spots) nodes (paths_behind node ps))
    (swept searched (count_of node) spots nodes (paths_behind node ps))
