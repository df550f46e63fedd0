-- The nodes of the state trie: their texts, hashes and memory usage. After the Nomicon, Data Structures, Merkle
-- Proofs and Trie, whose node kinds these are; the bytes are this project's.
use Rattle.std.specs.Prelude.{ℕ, ◌+◌, ◌*◌, ◌/◌, ◌%◌, ◌<◌, ◌≤◌, ◌==◌, Bool, true, false, cond, ◌||◌, IsTrue, List, []}
use Rattle.std.specs.Prelude.{◌∷◌, ◌++◌, length, Option, Some, None, is_some, count_by, slice_index}
use Rattle.std.specs.List.{flat_map}
use Rattle.sha2.specs.Sha256.{sha256}
use Rattle.nr_bytes.specs.Numbers.{little}
use Rattle.nr_bytes.specs.Writing.{counted_bytes}
use Rattle.nr_ids.specs.declared.key.Hash32.{Hash32}
use Rattle.nr_triedef.specs.declared.node.Node.{Node}
use Rattle.nr_triedef.specs.declared.hash.Summary.{Summary}
use Rattle.nr_triedef.specs.declared.node.Node.TheVariants.{Leaf, Extension, Branch}

-- the two nibbles of each byte, the high one first
abbrev pub nibbles : List ℕ → List ℕ
nibbles [] = []
nibbles (b ∷ bytes) = b / 16 ∷ b % 16 ∷ nibbles bytes

-- each is a nibble
abbrev pub IsNibbles : List ℕ → Type 0
IsNibbles key = (i : ℕ) → slice_index key i < 16

-- each two nibbles as a byte, the first one high
abbrev pub paired : List ℕ → List ℕ
paired [] = []
paired (x ∷ []) = x ∷ []
paired (x ∷ y ∷ rest) = (16 * x + y) ∷ paired rest

-- what stands before the nibbles of a part: 2 for a leaf or 0, and 1 more for an odd count, which fills the byte
abbrev pub part_flag : Bool → ℕ → List ℕ
part_flag leaf count = cond (count % 2 == 1) (cond leaf 3 1 ∷ []) (cond leaf 2 0 ∷ 0 ∷ [])

unfoldable pub key_part : List ℕ → Bool → List ℕ
key_part part leaf = paired (part_flag leaf (length part) ++ part)

-- a part's first byte: 32 for a leaf or 0, or 16 more and the first nibble
abbrev pub is_flag : Bool → ℕ → Bool
is_flag leaf b = (b == cond leaf 32 0) || (b / 16 == cond leaf 3 1)

-- the form of a leaf's or an extension's part
abbrev pub is_part : Bool → List ℕ → Bool
is_part leaf [] = false
is_part leaf (b ∷ pairs) = is_flag leaf b

-- how many nibbles a part stands for
abbrev pub nibble_count : List ℕ → ℕ
nibble_count [] = 0
nibble_count (b ∷ pairs) = b / 16 % 2 + 2 * length pairs

-- how many a branch has of its children and value together
abbrev pub links : Option (ℕ × Hash32) → List (Option Hash32) → ℕ
links value children = cond (is_some value) 1 0 + count_by is_some children

-- a node that has a text: parts have their form, an extension has a nibble, and a branch has two links
abbrev pub IsNode : Node → Type 0
IsNode (Leaf part length hash usage) = IsTrue (is_part true part)
IsNode (Extension part child usage) = IsTrue (is_part false part) × (0 < nibble_count part)
IsNode (Branch value children usage) = 2 ≤ links value children

-- bit i is set where child i is there
abbrev pub bitmap : List (Option Hash32) → ℕ
bitmap [] = 0
bitmap (None ∷ children) = 2 * bitmap children
bitmap (Some hash ∷ children) = 1 + 2 * bitmap children

abbrev pub child_bytes : Option Hash32 → List ℕ
child_bytes None = []
child_bytes (Some hash) = hash.0

abbrev pub children_bytes : List (Option Hash32) → List ℕ
children_bytes children = little 2 (bitmap children) ++ flat_map child_bytes children

unfoldable pub node_text : Node → List ℕ
node_text (Leaf part length hash usage) = 0 ∷ (counted_bytes part ++ little 4 length ++ hash.0 ++ little 8 usage)
node_text (Extension part child usage) = 1 ∷ (counted_bytes part ++ child.0 ++ little 8 usage)
node_text (Branch None children usage) = 2 ∷ (children_bytes children ++ little 8 usage)
node_text (Branch (Some value) children usage) =
    3 ∷ (little 4 value.0 ++ value.1.0 ++ children_bytes children ++ little 8 usage)

abbrev pub digest : List ℕ → Hash32
digest bytes = record { 0 = sha256 bytes }

abbrev pub usage_of : Node → ℕ
usage_of (Leaf part length hash usage) = usage
usage_of (Extension part child usage) = usage
usage_of (Branch value children usage) = usage

-- what a node tells the one above it
abbrev pub summary : Node → Summary
summary node = record { hash = digest (node_text node); usage = usage_of node }
