-- The walk over a trie whose texts are held: which nodes are looked at, in which order, and what each adds. This
-- project's own.
use Rattle.std.specs.Prelude.{ℕ, zero, suc, ◌+◌, ◌-◌, ◌*◌, ◌%◌, ◌^◌, cond, List, [], ◌∷◌, ◌++◌, length, Option, Some}
use Rattle.std.specs.Prelude.{None, Result, Ok, Err}
use Rattle.nr_bytes.specs.Reading.{◌>>=◌}
use Rattle.nr_triedef.specs.Root.{Contents}
use Rattle.nr_triedef.specs.declared.node.Node.{Node}
use Rattle.nr_triedef.specs.declared.node.Node.TheVariants.{Leaf, Extension, Branch}
use Rattle.nr_columns.specs.declared.entry.Entry.{Entry}
use Rattle.nr_walk.specs.declared.fault.WalkFault.{WalkFault}
use Rattle.nr_walk.specs.declared.fault.WalkFault.TheVariants.{TooMany}
use Rattle.nr_walk.specs.declared.searched.Searched.{Searched}
use Rattle.nr_walk.specs.declared.told.Spot.{Spot}
use Rattle.nr_walk.specs.declared.told.Ending.{Ending}
use Rattle.nr_walk.specs.declared.walking.Known.{Known}
use Rattle.nr_walk.specs.declared.walking.Known.TheVariants.{Value, Trie}
use Rattle.nr_walk.specs.declared.walking.Kept.{Kept}
use Rattle.nr_walk.specs.declared.walking.Gain.{Gain}
use Rattle.nr_walk.specs.declared.walking.Gain.TheVariants.{Found, Beside}
use Rattle.nr_walk.specs.declared.walking.Visit.{Visit}
use Rattle.nr_walk.specs.Searched.{looks, finds}
use Rattle.nr_walk.specs.Told.{part_nibbles, ending_of, spots_of, option_list}
use Rattle.nr_walk.specs.Looking.{looked_at, value_text}

abbrev pub kept : List ℕ → Known → Kept
kept path known = record { path = path; known = known }

-- a node beside the way, of which nothing below is known
abbrev pub stub_of : Spot → Node → Kept
stub_of spot (Leaf part size hash usage) = kept (spot.place ++ part_nibbles part) (Value size hash)
stub_of spot (Extension part child usage) =
    kept (spot.place ++ part_nibbles part) (Trie child (usage - (50 + 2 * length part)))
stub_of spot (Branch value children usage) = kept spot.place (Trie spot.hash usage)

-- each two nibbles as a byte, the first one high
abbrev pub packed : List ℕ → List ℕ
packed [] = []
packed (x ∷ []) = []
packed (x ∷ y ∷ rest) = (16 * (x % 16) + y % 16) ∷ packed rest

abbrev pub entry : List ℕ → List ℕ → Entry
entry key value = record { key = key; value = value }

-- a value whose key is searched: its text is looked at
abbrev pub found_at : Contents → List ℕ → Ending → Result (Option Gain) WalkFault
found_at texts path ending = do
  text ← value_text texts ending.length ending.hash
  Ok (Some (Found (entry (packed path) text)))

-- what a value adds
abbrev pub ended : Contents → List Searched → List ℕ → Option Ending → Result (Option Gain) WalkFault
ended texts searched place None = Ok None
ended texts searched place (Some ending) =
    let path = place ++ ending.step in
    cond (finds searched path) (found_at texts path ending)
    (Ok (Some (Beside (kept path (Value ending.length ending.hash)))))

-- a node that is looked at for itself: its value, where its key is searched, and then all its children
abbrev pub entered : Contents → List Searched → List ℕ → Node → Result Visit WalkFault
entered texts searched place node = do
  gain ← ended texts searched place (ending_of node)
  Ok (record { gain = gain; below = spots_of place node })

abbrev pub passed : Spot → Node → Visit
passed spot node = record { gain = Some (Beside (stub_of spot node)); below = [] }

-- what looking at a node gives
unfoldable pub visited : Contents → List Searched → Spot → Result Visit WalkFault
visited texts searched spot = do
  node ← looked_at texts spot
  cond (looks searched spot.place) (entered texts searched spot.place node) (Ok (passed spot node))

abbrev pub most_nodes : ℕ
most_nodes = 2 ^ 28

-- what the nodes add, the first of these with all that is looked at below it before the others; at most n are looked at
unfoldable pub walk_from : Contents → List Searched → ℕ → List Spot → Result (List Gain) WalkFault
walk_from texts searched n [] = Ok []
walk_from texts searched zero (spot ∷ spots) = Err TooMany
walk_from texts searched (suc n) (spot ∷ spots) = do
  visit ← visited texts searched spot
  gains ← walk_from texts searched n (visit.below ++ spots)
  Ok (option_list visit.gain ++ gains)
