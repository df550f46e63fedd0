-- What a node stands for: the look-up of a key, its paths in order, its hash and memory usage, and what making its
-- hash costs. This project's own; the hashes are those of the Nomicon, Data Structures, Merkle Proofs and Trie.
use Rattle.std.specs.Prelude.{◌≡◌, ℕ, suc, ◌+◌, ◌==◌, ◌≤◌, ◌&&◌, Bool, true, false, cond, List, [], ◌∷◌, ◌++◌, length}
use Rattle.std.specs.Prelude.{map, Option, Some, None, is_some, count_by, sum_by}
use Rattle.nr_triedef.specs.declared.hash.Summary.{Summary}
use Rattle.nr_triedef.specs.Node.{key_part, summary}
use Rattle.nr_triedef.specs.Root.{Paths, leaf_with, branch, with_front, summary_of, part_usage, value_usage}
use Rattle.nr_trienodes.specs.Shape.{Shape, child, fold}

-- ---- a look-up
abbrev pub Answer : Type 0
Answer = List ℕ → Option (List ℕ)

abbrev pub nothing : Answer
nothing key = None

-- the key without the front, where it begins with it
abbrev pub stripped : List ℕ → List ℕ → Option (List ℕ)
stripped [] key = Some key
stripped (x ∷ xs) [] = None
stripped (x ∷ xs) (y ∷ key) = cond (x == y) (stripped xs key) None

abbrev pub asked : Option Answer → Answer
asked None key = None
asked (Some f) key = f key

-- the value at what is left of a key behind the part
abbrev pub given : Option (List ℕ) → List (Option Answer) → Option (List ℕ) → Option (List ℕ)
given value below None = None
given value below (Some []) = value
given value below (Some (x ∷ key)) = asked (child below x) key

abbrev pub answer : Shape → List (Option Answer) → Answer
answer s below key = given s.value below (stripped s.part key)

-- the value at a key, given by nibbles, below a node
abbrev pub found : List Shape → ℕ → Answer
found = fold answer nothing

abbrev pub found_in : List Shape → Option ℕ → Answer
found_in nodes None key = None
found_in nodes (Some id) key = found nodes id key

-- ---- the paths in the order of nibbles
abbrev pub in_front : List ℕ → Paths → Paths
in_front part ps = map (λ p. (part ++ p.0, p.1)) ps

abbrev pub own_path : Option (List ℕ) → Paths
own_path None = []
own_path (Some value) = ([], value) ∷ []

-- those below the children, of which the first has the nibble n
abbrev pub paths_from : ℕ → List (Option Paths) → Paths
paths_from n [] = []
paths_from n (None ∷ below) = paths_from (suc n) below
paths_from n (Some ps ∷ below) = in_front (n ∷ []) ps ++ paths_from (suc n) below

abbrev pub node_paths : Shape → List (Option Paths) → Paths
node_paths s below = in_front s.part (own_path s.value ++ paths_from 0 below)

abbrev pub paths_at : List Shape → ℕ → Paths
paths_at = fold node_paths []

-- ---- hash and memory usage
abbrev pub is_leaf : Option (List ℕ) → ℕ → Bool
is_leaf value children = (children == 0) && is_some value

abbrev pub value_or_none : Option (List ℕ) → List ℕ
value_or_none None = []
value_or_none (Some value) = value

abbrev pub node_summary : Shape → List (Option Summary) → Summary
node_summary s below =
    cond (is_leaf s.value (count_by is_some below))
    (summary (leaf_with (key_part s.part true) (value_or_none s.value)))
    (with_front s.part (summary (branch s.value below)))

abbrev pub summary_at : List Shape → ℕ → Summary
summary_at = fold node_summary (summary_of None)

-- the usage of a part: of a leaf's, or of an extension's, which has a nibble
abbrev pub front_usage : List ℕ → Bool → ℕ
front_usage part true = part_usage (key_part part true)
front_usage [] false = 0
front_usage (x ∷ part) false = part_usage (key_part (x ∷ part) false)

-- the usage of a node, by that of its children together
abbrev pub own_usage : List ℕ → Option (List ℕ) → Bool → ℕ → ℕ
own_usage part value alone below =
    value_usage value + front_usage part (alone && is_some value) + cond (alone && is_some value) 0 (50 + below)

-- ---- how many nodes there are at and below a node, and how many hashes are to be made there
abbrev pub or_zero : Option ℕ → ℕ
or_zero None = 0
or_zero (Some n) = n

abbrev pub node_count : Shape → List (Option ℕ) → ℕ
node_count s below = 1 + sum_by or_zero below

abbrev pub count_at : List Shape → ℕ → ℕ
count_at = fold node_count 0

-- a branch behind a front is two of the trie's nodes
abbrev pub weight : Shape → List (Option ℕ) → ℕ
weight s below = cond (is_leaf s.value (count_by is_some below)) 1 (cond (length s.part == 0) 1 2)

abbrev pub node_cost : Shape → List (Option ℕ) → ℕ
node_cost s below = cond (is_some s.hash) 0 (weight s below + sum_by or_zero below)

abbrev pub cost_at : List Shape → ℕ → ℕ
cost_at = fold node_cost 0

abbrev pub cost_in : List Shape → Option ℕ → ℕ
cost_in nodes None = 0
cost_in nodes (Some id) = cost_at nodes id

-- ---- nodes as they are to be
-- a node that has a value alone or two links
abbrev pub IsLinked : Option (List ℕ) → List (Option ℕ) → Type 0
IsLinked value below =
    is_leaf value (count_by is_some below) ≡ false → 2 ≤ cond (is_some value) 1 0 + count_by is_some below
