-- The trie of paths of which some stand for values that are known by length and hash, and others for whole tries that
-- are known by their top's hash and their usage. This project's own.
use Rattle.std.specs.Prelude.{◌≡◌, ℕ, zero, suc, ◌+◌, ◌≤◌, ◌<◌, true, List, [], ◌∷◌, length, map, Option, Some, None}
use Rattle.std.specs.Prelude.{sum_by}
use Rattle.std.specs.List.{AllByRecursion}
use Rattle.nr_ids.specs.declared.key.Hash32.{Hash32}
use Rattle.nr_triedef.specs.Node.{key_part, summary}
use Rattle.nr_triedef.specs.Root.{Paths, common, depth, front, behind, value_here, under, hash_below, usage_below}
use Rattle.nr_triedef.specs.Root.{part_usage, with_front, sixteen}
use Rattle.nr_triedef.specs.declared.hash.Summary.{Summary}
use Rattle.nr_triedef.specs.declared.node.Node.{Node}
use Rattle.nr_triedef.specs.declared.node.Node.TheVariants.{Leaf, Branch}
use Rattle.nr_walk.specs.declared.walking.Known.{Known}
use Rattle.nr_walk.specs.declared.walking.Known.TheVariants.{Value, Trie}
use Rattle.nr_walk.specs.Shown.{placed, behind_all, StandsFor, IsTrieKnown, IsSplit}

-- what is known, as numbers in the place of a path's value
abbrev pub mark : Known → List ℕ
mark (Value size hash) = 0 ∷ size ∷ hash.0
mark (Trie hash usage) = 1 ∷ usage ∷ hash.0

abbrev pub known_of : ℕ → ℕ → List ℕ → Known
known_of zero n hash = Value n (record { 0 = hash })
known_of (suc kind) n hash = Trie (record { 0 = hash }) n

abbrev pub told : List ℕ → Known
told [] = Value 0 (record { 0 = [] })
told (kind ∷ []) = Value 0 (record { 0 = [] })
told (kind ∷ n ∷ hash) = known_of kind n hash

-- a leaf whose value is known by its length and hash
abbrev pub leaf_of : List ℕ → ℕ → Hash32 → Node
leaf_of path size hash = Leaf (key_part path true) size hash (part_usage (key_part path true) + (50 + size))

-- the top of what stands alone behind a path
abbrev pub alone : List ℕ → Known → Summary
alone path (Value size hash) = summary (leaf_of path size hash)
alone path (Trie hash usage) = with_front path (record { hash = hash; usage = usage })

abbrev pub field : Known → Option (ℕ × Hash32)
field (Value size hash) = Some (size, hash)
field (Trie hash usage) = None

abbrev pub marked_field : Option (List ℕ) → Option (ℕ × Hash32)
marked_field None = None
marked_field (Some m) = field (told m)

abbrev pub field_usage : Option (ℕ × Hash32) → ℕ
field_usage None = 0
field_usage (Some value) = 50 + value.0

abbrev pub branch_with : Option (ℕ × Hash32) → List (Option Summary) → Node
branch_with value below = Branch value (map hash_below below) (50 + field_usage value + sum_by usage_below below)

-- as the trie of paths with values, with marks in the place of these
unfoldable pub marked_trie : ℕ → Paths → Option Summary
marked_trie depth [] = None
marked_trie depth (p ∷ []) = Some (alone p.0 (told p.1))
marked_trie zero (p ∷ q ∷ ps) = None
marked_trie (suc depth) (p ∷ q ∷ ps) =
    let shared = front (p ∷ q ∷ ps) in
    let rest = behind (length shared) (p ∷ q ∷ ps) in
    Some (with_front shared (summary (branch_with (marked_field (value_here rest))
    (map (λ n. marked_trie depth (under n rest)) sixteen))))

-- what stands at a mark's path; a known trie is all that stands there
pub record IsGroup (all : Paths) (p : List ℕ × List ℕ) (ps : Paths) : Type 0 where
  pub there : Paths
  pub is : ps ≡ placed p.0 there
  pub known : StandsFor (told p.1) there
  pub closed : IsTrieKnown (told p.1) → length (behind_all p.0 all) ≤ length there

-- the marks stand for these of all paths, one after the other
abbrev pub Spreads : Paths → Paths → Paths → Type 0
Spreads all [] ps = ps ≡ []
Spreads all (mark ∷ marks) ps = IsSplit (IsGroup all mark) (Spreads all marks) ps

-- each path has fewer nibbles than the depth
abbrev pub IsShort : ℕ → Paths → Type 0
IsShort depth ps = AllByRecursion (λ (p : List ℕ × List ℕ). length p.0 < depth) ps

-- the trie of all of them
unfoldable pub marked_whole : Paths → Option Summary
marked_whole ps = marked_trie (depth ps) ps

-- the longest front of a path and of all these
abbrev pub folded : List ℕ → Paths → List ℕ
folded path [] = path
folded path (p ∷ ps) = folded (common path p.0) ps
