-- The nodes of the trie of keys as a list, depth first, each with all below it before those beside it. This project's
-- own.
use Rattle.std.specs.Prelude.{ℕ, zero, suc, false, List, [], ◌∷◌, ◌++◌, length, map}
use Rattle.std.specs.List.{flat_map}
use Rattle.nr_triedef.specs.Node.{key_part, summary}
use Rattle.nr_triedef.specs.Root.{Paths, front, behind, value_here, under, leaf, branch, extension, sixteen, depth}
use Rattle.nr_triedef.specs.Root.{trie}
use Rattle.nr_triedef.specs.declared.node.Node.{Node}
use Rattle.nr_store.specs.Tries.{cut, whole}

-- a node behind a front, which may be empty
abbrev pub head_nodes : List ℕ → Node → List Node
head_nodes [] node = node ∷ []
head_nodes (x ∷ xs) node = extension (key_part (x ∷ xs) false) (summary node) ∷ node ∷ []

unfoldable pub nodes_at : ℕ → Paths → List Node
nodes_at depth [] = []
nodes_at depth (p ∷ []) = leaf p ∷ []
nodes_at zero (p ∷ q ∷ ps) = []
nodes_at (suc depth) (p ∷ q ∷ ps) =
    let shared = front (p ∷ q ∷ ps) in
    let rest = behind (length shared) (p ∷ q ∷ ps) in
    head_nodes shared (branch (value_here rest) (map (λ n. trie depth (under n rest)) sixteen))
    ++ flat_map (λ n. nodes_at depth (under n rest)) sixteen

-- all nodes of the trie of the keys
unfoldable pub all_nodes : Paths → List Node
all_nodes ps = nodes_at (depth ps) ps

-- the branch of several keys, and the extension over it where they have a front
abbrev pub heads : Paths → List Node
heads ps = head_nodes (front ps) (branch (value_here (cut ps)) (map (λ n. whole (under n (cut ps))) sixteen))
