-- The walk over the texts of a part: which nodes are looked at, in which order, and what each claims. This project's
-- own.
use Rattle.std.specs.Prelude.{ℕ, zero, suc, ◌+◌, ◌-◌, ◌^◌, cond, List, [], ◌∷◌, ◌++◌, length, Option, Some, None}
use Rattle.std.specs.Prelude.{Result, Ok, Err}
use Rattle.nr_bytes.specs.Reading.{◌>>=◌}
use Rattle.nr_ids.specs.declared.key.Hash32.{Hash32}
use Rattle.nr_triedef.specs.Node.{usage_of}
use Rattle.nr_triedef.specs.Root.{Contents}
use Rattle.nr_triedef.specs.declared.node.Node.{Node}
use Rattle.nr_walk.specs.declared.fault.WalkFault.{WalkFault}
use Rattle.nr_walk.specs.declared.fault.WalkFault.TheVariants.{TooMany}
use Rattle.nr_walk.specs.declared.told.Spot.{Spot}
use Rattle.nr_walk.specs.declared.told.Ending.{Ending}
use Rattle.nr_walk.specs.Told.{ending_of, spots_of, spot, option_list, own_usage}
use Rattle.nr_walk.specs.Looking.{looked_at}
use Rattle.nr_walk.specs.Walking.{packed}
use Rattle.nr_parts.specs.Offsets.{has, meets, share_of}
use Rattle.nr_parts.specs.declared.share.Share.{Share}
use Rattle.nr_parts.specs.declared.walking.Claim.{Claim}
use Rattle.nr_parts.specs.declared.walking.Visit.{Visit}

abbrev pub claim : List ℕ → ℕ → Hash32 → Claim
claim key length hash = record { key = key; length = length; hash = hash }

-- the key of a node's value, and the value's length and hash
abbrev pub claim_of : List ℕ → Option Ending → Option Claim
claim_of place None = None
claim_of place (Some ending) = Some (claim (packed (place ++ ending.step)) ending.length ending.hash)

-- what a node at an offset claims, where its value belongs to the part
abbrev pub claim_at : Share → ℕ → List ℕ → Node → Option Claim
claim_at share at place node = cond (has share at) (claim_of place (ending_of node)) None

abbrev pub visit : Option Claim → List Spot → ℕ → Visit
visit claim below next = record { claim = claim; below = below; next = next }

-- a node whose offsets meet the part's has its children looked at; of another one only its usage counts
abbrev pub seen : Share → ℕ → List ℕ → Node → Visit
seen share at place node =
    cond (meets share at (usage_of node))
    (visit (claim_at share at place node) (spots_of place node) (at + own_usage node))
    (visit None [] (at + usage_of node))

unfoldable pub visited : Contents → Share → ℕ → Spot → Result Visit WalkFault
visited texts share at spot = do
  node ← looked_at texts spot
  Ok (seen share at spot.place node)

abbrev pub most_nodes : ℕ
most_nodes = 2 ^ 28

-- what the nodes claim, the first of these with all that is looked at below it before the others; at most n are
-- looked at
unfoldable pub walk_from : Contents → Share → ℕ → ℕ → List Spot → Result (List Claim) WalkFault
walk_from texts share n at [] = Ok []
walk_from texts share zero at (spot ∷ spots) = Err TooMany
walk_from texts share (suc n) at (spot ∷ spots) = do
  visit ← visited texts share at spot
  claims ← walk_from texts share n visit.next (visit.below ++ spots)
  Ok (option_list visit.claim ++ claims)

-- below the root, whose children are all looked at
abbrev pub walk_below : Contents → Share → Node → Result (List Claim) WalkFault
walk_below texts share node = do
  claims ← walk_from texts share (most_nodes - 1) (own_usage node) (spots_of [] node)
  Ok (option_list (claim_at share 0 [] node) ++ claims)

unfoldable pub walked : Contents → Hash32 → ℕ → ℕ → Result (List Claim) WalkFault
walked texts root count number = do
  node ← looked_at texts (spot [] root)
  walk_below texts (share_of (usage_of node) count number) node
