-- What a walk shows of the paths of a trie: those that are searched, with their values, and what stands for the
-- others, in their order. This project's own.
use Rattle.std.specs.Prelude.{◌≡◌, ℕ, ◌≤◌, true, false, cond, List, [], ◌∷◌, ◌++◌, length, map, replicate, ◌==◌, Bool}
use Rattle.std.specs.Prelude.{Some, Result, Ok}
use Rattle.std.specs.List.{AllByRecursion}
use Rattle.std.specs.Cmp.Lexicographic.{pointwise}
use Rattle.std.specs.FinMap.{entries}
use Rattle.nr_bytes.specs.Numbers.{IsBytes}
use Rattle.nr_ids.specs.declared.key.Hash32.{Hash32}
use Rattle.nr_triedef.specs.Node.{digest}
use Rattle.nr_triedef.specs.Root.{Contents, Paths, front, under, paths, root_of, no_root}
use Rattle.nr_store.specs.Tries.{CanWalk, whole}
use Rattle.nr_columns.specs.declared.entry.Entry.{Entry}
use Rattle.nr_walk.specs.declared.fault.WalkFault.{WalkFault}
use Rattle.nr_walk.specs.declared.searched.Searched.{Searched}
use Rattle.nr_walk.specs.declared.walking.Known.{Known}
use Rattle.nr_walk.specs.declared.walking.Known.TheVariants.{Value, Trie}
use Rattle.nr_walk.specs.declared.walking.Kept.{Kept}
use Rattle.nr_walk.specs.declared.walking.Gain.{Gain}
use Rattle.nr_walk.specs.declared.walking.Gain.TheVariants.{Found, Beside}
use Rattle.nr_walk.specs.Searched.{looks, finds}
use Rattle.nr_walk.specs.Told.{spot}
use Rattle.nr_walk.specs.Walking.{entry, packed, walk_from, most_nodes}
use Rattle.nr_triedef.specs.Stores.{IsSizedEntry, most_entries}
use Rattle.nr_walk.specs.Tries.{Agrees}

-- paths with a place in front
abbrev pub placed : List ℕ → Paths → Paths
placed place ps = map (λ p. (place ++ p.0, p.1)) ps

-- one path that ends here, whose value has this length and hash
pub record IsValue (size : ℕ) (hash : Hash32) (ps : Paths) : Type 0 where
  pub value : List ℕ
  pub is : ps ≡ ([], value) ∷ []
  pub size_is : length value ≡ size
  pub hash_is : digest value ≡ hash

-- several paths that share no front, whose trie has this top and usage
pub record IsTrie (hash : Hash32) (usage : ℕ) (ps : Paths) : Type 0 where
  pub many : 2 ≤ length ps
  pub parted : front ps ≡ []
  pub order : CanWalk ps
  pub whole_is : whole ps ≡ Some (record { hash = hash; usage = usage })

abbrev pub StandsFor : Known → Paths → Type 0
StandsFor (Value size hash) ps = IsValue size hash ps
StandsFor (Trie hash usage) ps = IsTrie hash usage ps

-- what is known is a trie
abbrev pub IsTrieKnown : Known → Type 0
IsTrieKnown (Value size hash) = ⊥
IsTrieKnown (Trie hash usage) = Unit {0}

-- the paths that begin with these nibbles, without them
abbrev pub behind_all : List ℕ → Paths → Paths
behind_all [] ps = ps
behind_all (x ∷ path) ps = behind_all path (under x ps)

-- the entry is that of the one path, which is searched
pub record IsFound (searched : List Searched) (e : Entry) (ps : Paths) : Type 0 where
  pub path : List ℕ
  pub value : List ℕ
  pub is : ps ≡ (path, value) ∷ []
  pub entry_is : e ≡ entry (packed path) value
  pub found : finds searched path ≡ true

-- these paths stand at the place of what is kept, and none of them is searched; a known trie is all that stands
-- there, and nothing is searched there
pub record IsBeside (searched : List Searched) (all : Paths) (k : Kept) (ps : Paths) : Type 0 where
  pub there : Paths
  pub is : ps ≡ placed k.path there
  pub known : StandsFor k.known there
  pub apart : AllByRecursion (λ (p : List ℕ × List ℕ). finds searched p.0 ≡ false) ps
  pub shut : IsTrieKnown k.known → looks searched k.path ≡ false
  pub closed : IsTrieKnown k.known → behind_all k.path all ≡ there

abbrev pub Adds : List Searched → Paths → Gain → Paths → Type 0
Adds searched all (Found e) ps = IsFound searched e ps
Adds searched all (Beside k) ps = IsBeside searched all k ps

-- the first paths are what this adds, and the others what follows
pub record IsSplit (First Others : Paths → Type 0) (ps : Paths) : Type 0 where
  pub first : Paths
  pub others : Paths
  pub is : ps ≡ first ++ others
  pub adds : First first
  pub more : Others others

-- each stands for the next of these of all paths, one after the other
abbrev pub Shows : List Searched → Paths → List Gain → Paths → Type 0
Shows searched all [] ps = ps ≡ []
Shows searched all (gain ∷ gains) ps = IsSplit (Adds searched all gain) (Shows searched all gains) ps

-- a finite map of bytes within the sizes of a store, with this root, that agrees with the texts
pub record IsOf (texts : Contents) (root : Hash32) (m : Contents) : Type 0 where
  pub root_is : (root_of m).hash ≡ root
  pub empty_only : root ≡ no_root → entries m ≡ []
  pub bytes : AllByRecursion (λ (e : List ℕ × List ℕ). IsBytes e.0) (entries m)
  pub agrees : Agrees texts (paths (entries m))
  pub few : length (entries m) ≤ most_entries
  pub sizes : AllByRecursion (λ (e : List ℕ × List ℕ). IsSizedEntry e.0 e.1) (entries m)

-- the root of no entries
abbrev pub is_empty_root : Hash32 → Bool
is_empty_root root = pointwise ◌==◌ root.0 (replicate 32 0)

-- the walk from a root: under the root of no entries nothing is looked at
unfoldable pub walk_of : Contents → List Searched → Hash32 → Result (List Gain) WalkFault
walk_of texts searched root =
    cond (is_empty_root root) (Ok []) (walk_from texts searched most_nodes (spot [] root ∷ []))
