-- The nodes of the trie of some keys, each with those below it, after the recursion that gives the trie's hash and
-- usage. This project's own.
use Rattle.std.specs.Prelude.{ℕ, zero, suc, List, [], ◌∷◌, ◌++◌, false, length, map, Option, Some, None}
use Rattle.nr_triedef.specs.Root.{Paths, front, behind, value_here, under, leaf, branch, extension, sixteen, depth}
use Rattle.nr_triedef.specs.Root.{trie, paths}
use Rattle.nr_triedef.specs.Node.{key_part, summary}
use Rattle.nr_triedef.specs.declared.node.Node.{Node}
use Rattle.nr_triedef.specs.declared.hash.Summary.{Summary}

-- a node at its place, and the key and the value whose key ends there
pub record Stood : Type 0 where
  pub place : List ℕ
  pub node : Node
  pub entry : Option (List ℕ × List ℕ)

-- nodes side by side, each with those below it
pub data Forest : Type 0 where
  bare : Forest
  tree : Stood → Forest → Forest → Forest

abbrev pub stood : List ℕ → Node → Option (List ℕ × List ℕ) → Stood
stood place node entry = record { place = place; node = node; entry = entry }

-- nothing below the node, and the others beside it
abbrev pub leaf_tree : List ℕ → List ℕ × List ℕ → Forest → Forest
leaf_tree place p beside = tree (stood place (leaf p) (Some (place ++ p.0, p.1))) bare beside

abbrev pub entry_here : List ℕ → Option (List ℕ) → Option (List ℕ × List ℕ)
entry_here place None = None
entry_here place (Some value) = Some (place, value)

-- a node behind a front, which may be empty: the extension over it, and the others beside it
abbrev pub fronted : List ℕ → List ℕ → Summary → Stood → Forest → Forest → Forest
fronted place [] below top children beside = tree top children beside
fronted place (x ∷ xs) below top children beside =
    tree (stood place (extension (key_part (x ∷ xs) false) below) None) (tree top children bare) beside

-- for each nibble what f puts before the rest
abbrev pub rows : (ℕ → Forest → Forest) → List ℕ → Forest
rows f [] = bare
rows f (n ∷ ns) = f n (rows f ns)

-- the nodes of the trie of the keys, which all begin with the place, and others beside them
unfoldable pub forest : ℕ → List ℕ → Paths → Forest → Forest
forest depth place [] beside = beside
forest depth place (p ∷ []) beside = leaf_tree place p beside
forest zero place (p ∷ q ∷ ps) beside = beside
forest (suc depth) place (p ∷ q ∷ ps) beside =
    let shared = front (p ∷ q ∷ ps) in
    let rest = behind (length shared) (p ∷ q ∷ ps) in
    let node = branch (value_here rest) (map (λ n. trie depth (under n rest)) sixteen) in
    let here = place ++ shared in
    fronted place shared (summary node) (stood here node (entry_here here (value_here rest)))
    (rows (λ n others. forest depth (here ++ n ∷ []) (under n rest) others) sixteen) beside

-- the nodes of the trie of entries, whose keys are of bytes
unfoldable pub forest_of : List (List ℕ × List ℕ) → Forest
forest_of es = forest (depth (paths es)) [] (paths es) bare

-- all nodes depth first, the children in the order of their nibbles
abbrev pub listed : Forest → List Stood
listed bare = []
listed (tree top below beside) = top ∷ (listed below ++ listed beside)
