-- The root of a finite map: hash and memory usage of the trie that holds it, by recursion on its entries. After the
-- Nomicon, Data Structures, Merkle Proofs and Trie.
use Rattle.std.specs.Prelude.{ℕ, zero, suc, ◌+◌, ◌*◌, ◌==◌, true, false, cond, max, List, [], ◌∷◌, length, map, drop}
use Rattle.std.specs.Prelude.{replicate, Option, Some, None, sum_by}
use Rattle.std.specs.FinMap.{FinMap, entries}
use Rattle.std.specs.Ordering.{nat_cmp}
use Rattle.std.specs.Cmp.Lexicographic.{slice_cmp}
use Rattle.nr_ids.specs.declared.key.Hash32.{Hash32}
use Rattle.nr_triedef.specs.declared.node.Node.{Node}
use Rattle.nr_triedef.specs.declared.node.Node.TheVariants.{Leaf, Extension, Branch}
use Rattle.nr_triedef.specs.declared.hash.Summary.{Summary}
use Rattle.nr_triedef.specs.Node.{nibbles, key_part, digest, summary}

-- from keys to values, both of bytes
abbrev pub Contents : Type 0
Contents = FinMap (slice_cmp nat_cmp) (List ℕ)

-- keys, as nibbles, with their values
abbrev pub Paths : Type 0
Paths = List (List ℕ × List ℕ)

-- the longest front of two keys
abbrev pub common : List ℕ → List ℕ → List ℕ
common [] key = []
common (x ∷ xs) [] = []
common (x ∷ xs) (y ∷ ys) = cond (x == y) (x ∷ common xs ys) []

-- the longest front of all keys
abbrev pub front : Paths → List ℕ
front [] = []
front (p ∷ []) = p.0
front (p ∷ q ∷ ps) = common p.0 (front (q ∷ ps))

-- without the first n nibbles of each key
abbrev pub behind : ℕ → Paths → Paths
behind n ps = map (λ p. (drop n p.0, p.1)) ps

-- the value whose key ends here
abbrev pub value_here : Paths → Option (List ℕ)
value_here [] = None
value_here (([], value) ∷ ps) = Some value
value_here ((x ∷ key, value) ∷ ps) = value_here ps

-- the keys that go on with the nibble, without it
abbrev pub under : ℕ → Paths → Paths
under n [] = []
under n (([], value) ∷ ps) = under n ps
under n ((x ∷ key, value) ∷ ps) = cond (x == n) ((key, value) ∷ under n ps) (under n ps)

-- ---- memory usage: 50 for a node, 2 for each byte of its part, and 50 and 1 for each byte of a value
abbrev pub part_usage : List ℕ → ℕ
part_usage part = 50 + 2 * length part

abbrev pub value_usage : Option (List ℕ) → ℕ
value_usage None = 0
value_usage (Some value) = 50 + length value

abbrev pub usage_below : Option Summary → ℕ
usage_below None = 0
usage_below (Some s) = s.usage

-- ---- nodes
abbrev pub leaf_with : List ℕ → List ℕ → Node
leaf_with part value = Leaf part (length value) (digest value) (part_usage part + value_usage (Some value))

abbrev pub leaf : List ℕ × List ℕ → Node
leaf p = leaf_with (key_part p.0 true) p.1

abbrev pub value_field : Option (List ℕ) → Option (ℕ × Hash32)
value_field None = None
value_field (Some value) = Some (length value, digest value)

abbrev pub hash_below : Option Summary → Option Hash32
hash_below None = None
hash_below (Some s) = Some s.hash

abbrev pub branch : Option (List ℕ) → List (Option Summary) → Node
branch value below =
    Branch (value_field value) (map hash_below below) (50 + value_usage value + sum_by usage_below below)

abbrev pub extension : List ℕ → Summary → Node
extension part s = Extension part s.hash (part_usage part + s.usage)

-- a branch behind a front, which may be empty
abbrev pub with_front : List ℕ → Summary → Summary
with_front [] s = s
with_front (x ∷ xs) s = summary (extension (key_part (x ∷ xs) false) s)

abbrev pub sixteen : List ℕ
sixteen = 0 ∷ 1 ∷ 2 ∷ 3 ∷ 4 ∷ 5 ∷ 6 ∷ 7 ∷ 8 ∷ 9 ∷ 10 ∷ 11 ∷ 12 ∷ 13 ∷ 14 ∷ 15 ∷ []

-- the trie of paths whose keys have fewer nibbles than the depth and differ: nothing, a leaf, or a branch by the
-- first nibble that differs
unfoldable pub trie : ℕ → Paths → Option Summary
trie depth [] = None
trie depth (p ∷ []) = Some (summary (leaf p))
trie zero (p ∷ q ∷ ps) = None
trie (suc depth) (p ∷ q ∷ ps) =
    let shared = front (p ∷ q ∷ ps) in
    let rest = behind (length shared) (p ∷ q ∷ ps) in
    Some (with_front shared (summary (branch (value_here rest) (map (λ n. trie depth (under n rest)) sixteen))))

-- more than the nibbles of each key
abbrev pub depth : Paths → ℕ
depth [] = 1
depth (p ∷ ps) = max (length p.0 + 1) (depth ps)

abbrev pub paths : List (List ℕ × List ℕ) → Paths
paths es = map (λ e. (nibbles e.0, e.1)) es

abbrev pub no_root : Hash32
no_root = record { 0 = replicate 32 0 }

-- the empty trie has the root of zeros and no usage
abbrev pub summary_of : Option Summary → Summary
summary_of None = record { hash = no_root; usage = 0 }
summary_of (Some s) = s

unfoldable pub root_of_entries : List (List ℕ × List ℕ) → Summary
root_of_entries es = summary_of (trie (depth (paths es)) (paths es))

-- hash and memory usage of the trie of the contents
abbrev pub root_of : Contents → Summary
root_of m = root_of_entries (entries m)
