-- The nodes of the trie of some paths, and what it is that held texts agree with them. This project's own.
use Rattle.std.specs.Prelude.{◌≡◌, ℕ, ◌<◌, ◌≤◌, false, List, [], ◌∷◌, length, map, Option, Some}
use Rattle.std.specs.List.{AllByRecursion}
use Rattle.std.specs.FinMap.{get}
use Rattle.nr_triedef.specs.Node.{key_part, digest, summary, node_text}
use Rattle.nr_triedef.specs.Reading.{Fits}
use Rattle.nr_triedef.specs.Root.{Contents, Paths, front, value_here, under, leaf, branch, extension, sixteen}
use Rattle.nr_triedef.specs.declared.hash.Summary.{Summary}
use Rattle.nr_triedef.specs.declared.node.Node.{Node}
use Rattle.nr_store.specs.Tries.{cut, whole}

-- the children of the branch of paths that share no front
abbrev pub children : Paths → List (Option Summary)
children rest = map (λ n. whole (under n rest)) sixteen

abbrev pub branch_of : Paths → Node
branch_of rest = branch (value_here rest) (children rest)

-- the branch, or the extension over it
abbrev pub top_over : List ℕ → Paths → Node
top_over [] rest = branch_of rest
top_over (x ∷ xs) rest = extension (key_part (x ∷ xs) false) (summary (branch_of rest))

-- the top node of the trie of some paths
unfoldable pub top_of : Paths → Node
top_of [] = leaf ([], [])
top_of (p ∷ []) = leaf p
top_of (p ∷ q ∷ ps) = top_over (front (p ∷ q ∷ ps)) (cut (p ∷ q ∷ ps))

-- the paths that a node of the trie stands over, from the whole trie on: behind an extension's front, and under a
-- branch's nibbles
pub data IsBelow (top : Paths) : Paths → Type 0 where
  Top : IsBelow top top
  Behind : (ps : Paths) → IsBelow top ps → 2 ≤ length ps → IsBelow top (cut ps)
  Under : (ps : Paths) (n : ℕ) → IsBelow top ps → 2 ≤ length ps → front ps ≡ [] → n < 16 → IsBelow top (under n ps)

-- what is held under the hash of a text, if anything is, is the text
abbrev pub IsOwn : Contents → List ℕ → Type 0
IsOwn texts text = (held : List ℕ) → get texts (digest text).0 ≡ Some held → held ≡ text

-- each held text whose hash is that of a node or of a value is that node's text or that value
pub record Agrees (texts : Contents) (top : Paths) : Type 0 where
  pub nodes : (ps : Paths) → IsBelow top ps → 1 ≤ length ps → IsOwn texts (node_text (top_of ps))
  pub values : AllByRecursion (λ (p : List ℕ × List ℕ). IsOwn texts p.1) top

-- lengths and usages keep to their types in each node
abbrev pub AreFitting : Paths → Type 0
AreFitting top = (ps : Paths) → IsBelow top ps → 1 ≤ length ps → Fits (top_of ps)
