-- Looking at one node: its text, and what it must be beside the held texts of its children. This project's own.
use Rattle.std.specs.Prelude.{ℕ, ◌+◌, ◌%◌, ◌==◌, Bool, true, false, cond, ◌&&◌, ◌||◌, not, nat_le, List, length, Option}
use Rattle.std.specs.Prelude.{Some, None, is_some, Result, Ok, Err, sum_by}
use Rattle.std.specs.List.{list_all}
use Rattle.std.specs.FinMap.{get}
use Rattle.nr_bytes.specs.Reading.{◌>>=◌}
use Rattle.nr_ids.specs.declared.key.Hash32.{Hash32}
use Rattle.nr_triedef.specs.Root.{Contents}
use Rattle.nr_triedef.specs.Node.{usage_of}
use Rattle.nr_triedef.specs.Reading.{node_at}
use Rattle.nr_triedef.specs.declared.fault.NodeFault.{NodeFault}
use Rattle.nr_triedef.specs.declared.node.Node.{Node}
use Rattle.nr_triedef.specs.declared.node.Node.TheVariants.{Leaf, Extension, Branch}
use Rattle.nr_walk.specs.declared.fault.WalkFault.{WalkFault}
use Rattle.nr_walk.specs.declared.fault.WalkFault.TheVariants.{BadText}
use Rattle.nr_walk.specs.declared.told.Spot.{Spot}
use Rattle.nr_walk.specs.declared.told.Ending.{Ending}
use Rattle.nr_walk.specs.Texts.{text_at, node_or_bad, known}
use Rattle.nr_walk.specs.Told.{ending_of, children_of, own_usage, is_branch}

-- the node of a hash
abbrev pub node_in : Contents → Hash32 → Result Node WalkFault
node_in texts hash = do
  text ← text_at texts hash
  node_or_bad hash (node_at text)

-- ---- the usages of the children that are known
abbrev pub known_usage : Option Node → ℕ
known_usage None = 0
known_usage (Some node) = usage_of node

abbrev pub sum_known : Contents → List Hash32 → ℕ
sum_known texts hashes = sum_by (λ hash. known_usage (known texts hash)) hashes

abbrev pub are_known : Contents → List Hash32 → Bool
are_known texts hashes = list_all (λ hash. is_some (known texts hash)) hashes

-- what is told is at least the sum, and exactly that where it is the whole
abbrev pub is_sum : ℕ → ℕ → Bool → Bool
is_sum told sum whole = nat_le sum told && (not whole || (told == sum))

-- the usage told is that of the node alone and of its children
unfoldable pub is_summed : Contents → Node → Bool
is_summed texts node =
    is_sum (usage_of node) (own_usage node + sum_known texts (children_of node)) (are_known texts (children_of node))

-- ---- what an extension stands over
abbrev pub is_branch_read : Result Node NodeFault → Bool
is_branch_read (Ok node) = is_branch node
is_branch_read (Err fault) = false

-- no text is held, or a branch's
abbrev pub is_branch_held : Option (List ℕ) → Bool
is_branch_held None = true
is_branch_held (Some text) = is_branch_read (node_at text)

-- an extension's child is a branch, where its text is held
abbrev pub is_joined : Contents → Node → Bool
is_joined texts (Leaf part length hash usage) = true
is_joined texts (Extension part child usage) = is_branch_held (get texts child.0)
is_joined texts (Branch value children usage) = true

abbrev pub most_nibbles : ℕ
most_nibbles = 140000000

-- so many nibbles are a key's
abbrev pub is_end : ℕ → Bool
is_end n = nat_le n most_nibbles && (n % 2 == 0)

-- a value's key has whole bytes, and isn't too long
abbrev pub is_ended : List ℕ → Option Ending → Bool
is_ended place None = true
is_ended place (Some ending) = is_end (length place + length ending.step)

-- the node can stand at the place over what is held
abbrev pub is_right : Contents → List ℕ → Node → Bool
is_right texts place node = is_ended place (ending_of node) && is_joined texts node && is_summed texts node

-- the node of a spot, or the first fault there
unfoldable pub looked_at : Contents → Spot → Result Node WalkFault
looked_at texts spot = do
  node ← node_in texts spot.hash
  cond (is_right texts spot.place node) (Ok node) (Err (BadText spot.hash))

-- the text of a value
unfoldable pub value_text : Contents → ℕ → Hash32 → Result (List ℕ) WalkFault
value_text texts size hash = do
  text ← text_at texts hash
  cond (length text == size) (Ok text) (Err (BadText hash))
