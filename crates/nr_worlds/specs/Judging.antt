-- Which entries are the trie entries of a valid world, and which are those of a delayed queue and of nothing else.
-- After the Nomicon, Data Structures, Merkle Proofs and Trie; the columns are this project's.
use Rattle.std.specs.Prelude.{◌&&◌, Bool, List}
use Rattle.std.specs.FinMap.{entries}
use Rattle.std.specs.Cmp.Lexicographic.{pointwise}
use Rattle.nr_columns.specs.Entries.{pairs_of}
use Rattle.nr_columns.specs.declared.entry.Entry.{Entry}
use Rattle.nr_config.specs.Config.{Config}
use Rattle.nr_state.specs.Flat.{flat}
use Rattle.nr_state.specs.FromEntries.{world_from}
use Rattle.nr_state.specs.World.{World, no_world}
use Rattle.nr_entries.specs.Told.{same_pair}
use Rattle.nr_worlds.specs.Valid.{is_valid_world, names_fit, numbers_fit}

-- the entries are those of the world, in the order of their keys' bytes, and nothing else
abbrev pub are_entries_of : World → List Entry → Bool
are_entries_of w es = pointwise same_pair (entries (flat w)) (pairs_of es)

-- they are those of a valid world; what is read from bytes fits its fields, names are looked at apart
unfoldable pub is_world : Config → List Entry → Bool
is_world c es =
    are_entries_of (world_from es) es && names_fit (world_from es) && numbers_fit (world_from es)
    && is_valid_world c (world_from es)

-- what a world has of its delayed queue
abbrev pub queue_of : World → World
queue_of w = record no_world { delayed = w.delayed; served = w.served }

-- they are those of a world with a delayed queue and nothing else
unfoldable pub is_queue : List Entry → Bool
is_queue es = are_entries_of (queue_of (world_from es)) es && numbers_fit (world_from es)
