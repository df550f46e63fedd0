-- A chunk that is run again from texts of its state's trie alone: its report, or the first fault. This project's own.
use Rattle.std.specs.Prelude.{ℕ, ◌+◌, ◌&&◌, Bool, true, false, List, [], length, map, nat_lt, unwrap_or, Result, Ok}
use Rattle.std.specs.Prelude.{Err}
use Rattle.std.specs.FinMap.{entries}
use Rattle.nr_bytes.specs.Reading.{◌>>=◌}
use Rattle.nr_chunk.specs.Locality.{run_chunk, touched}
use Rattle.nr_chunk.specs.Views.{Kept}
use Rattle.nr_columns.specs.declared.entry.Entry.{Entry}
use Rattle.nr_config.specs.Config.{Config, gas_price}
use Rattle.nr_gathered.specs.declared.gathered.Gathered.{Gathered}
use Rattle.nr_overlap.specs.Rules.{Sealing}
use Rattle.nr_records.specs.declared.chunk_result.ChunkResult.{ChunkResult}
use Rattle.nr_records.specs.declared.receipt.Receipt.{Receipt}
use Rattle.nr_remake.specs.Merging.{parts_of, remade}
use Rattle.nr_state.specs.Calls.{Called}
use Rattle.nr_state.specs.Flat.{flat}
use Rattle.nr_state.specs.FromEntries.{world_from}
use Rattle.nr_state.specs.World.{World, no_world}
use Rattle.nr_state.specs.declared.calls.CallContext.{CallContext}
use Rattle.nr_state.specs.declared.place.Place.{Place}
use Rattle.nr_stateless.specs.Accounts.{searched_of}
use Rattle.nr_walk.specs.Shown.{walk_of}
use Rattle.nr_walk.specs.Texts.{texts_of}
use Rattle.nr_walk.specs.Walking.{entry}
use Rattle.nr_walk.specs.declared.fault.WalkFault.{WalkFault}
use Rattle.nr_walk.specs.declared.fault.WalkFault.TheVariants as walk
use Rattle.nr_walk.specs.declared.walking.Kept.{Kept as Beside}
use Rattle.nr_worlds.specs.Answers.{queue_checked, world_checked}
use Rattle.nr_worlds.specs.declared.fault.WorldFault.{WorldFault}
use Rattle.nr_worlds.specs.declared.fault.WorldFault.TheVariants as world
use Rattle.nr_recheck.specs.Bounds.{are_within}
use Rattle.nr_recheck.specs.declared.fault.RecheckFault.{RecheckFault}
use Rattle.nr_recheck.specs.declared.fault.RecheckFault.TheVariants.{BadText, Bounds, Memory, Missing, NotWorld}
use Rattle.nr_recheck.specs.declared.fault.RecheckFault.TheVariants.{Place as NoPlace, TooMany}

abbrev pub memory_fault : RecheckFault
memory_fault = Memory

-- ---- answers
abbrev pub walk_fault : WalkFault → RecheckFault
walk_fault (walk.Missing hash) = Missing
walk_fault (walk.BadText hash) = BadText
walk_fault walk.TooMany = TooMany
walk_fault walk.Memory = Memory

abbrev pub world_fault : WorldFault → RecheckFault
world_fault world.NotWorld = NotWorld
world_fault world.Memory = Memory

abbrev pub by_world : {A : Type 0} → Result A WorldFault → Result A RecheckFault
by_world (Ok x) = Ok x
by_world (Err fault) = Err (world_fault fault)

abbrev pub by_walk : {A : Type 0} → Result A WalkFault → Result A RecheckFault
by_walk (Ok x) = Ok x
by_walk (Err fault) = Err (walk_fault fault)

-- what is asked for holds, or the fault
abbrev pub asked : Bool → RecheckFault → Result (Unit {0}) RecheckFault
asked true fault = Ok tt
asked false fault = Err fault

-- ---- where the chunk stands
abbrev pub shards_in : Gathered → ℕ
shards_in g = length g.layout + 1

abbrev pub is_placed : Gathered → Bool
is_placed g = nat_lt 0 g.height.0 && nat_lt g.shard.0 (shards_in g)

-- the usual gas price is the configuration's
abbrev pub place_of : Config → Gathered → Place
place_of c g =
    record { height = g.height; timestamp = g.timestamp; price = unwrap_or g.price (gas_price c) }

-- ---- what the texts give of the state before: what stands beside the entries found, and the entries of accounts and
-- of the delayed queue
abbrev pub Found : Type 0
Found = List Beside × List Entry

abbrev pub walked : Gathered → List (List ℕ) → Result Found RecheckFault
walked g accounts = by_walk (parts_of (walk_of (texts_of g.texts) (searched_of accounts) g.prior_root))

-- the delayed receipts, by a walk for no account
unfoldable pub queued : Gathered → Result (List Receipt) RecheckFault
queued g = do
  queue ← walked g []
  by_world (queue_checked queue.1)

-- the accounts that the chunk touches, where these receipts are delayed
abbrev pub touched_by : Gathered → List Receipt → List (List ℕ)
touched_by g delayed = touched (record no_world { delayed = delayed }) g.transactions g.taken

-- the entries from which the chunk is run, and what stands beside them
unfoldable pub prepared : Config → Gathered → Result Found RecheckFault
prepared c g = do
  placed ← asked (is_placed g) NoPlace
  delayed ← queued g
  found ← walked g (touched_by g delayed)
  valid ← by_world (world_checked c found.1)
  within ← asked (are_within c g.taken (world_from found.1)) Bounds
  Ok found

-- ---- the chunk from a world
abbrev pub before : Config → Gathered → World → Kept
before c g w = record { config = c; world = w; carried = g.taken }

abbrev pub sealed_on : Config → (World → CallContext → Called) → Gathered → World
    → Sealing Kept (List Receipt) ChunkResult
sealed_on c call g w =
    run_chunk c call g.layout (shards_in g) (before c g w) g.shard (place_of c g) g.transactions []

-- the entries of a world, in the order of their keys' bytes
abbrev pub entries_of : World → List Entry
entries_of w = map (λ (e : List ℕ × List ℕ). entry e.0 e.1) (entries (flat w))

-- its report, with the root of the whole trie after it
abbrev pub with_root : List Beside → Sealing Kept (List Receipt) ChunkResult → ChunkResult
with_root kept sealed = record sealed.report { root = remade kept (entries_of sealed.world.world) }

abbrev pub report_from : Config → (World → CallContext → Called) → Gathered → Found → ChunkResult
report_from c call g found = with_root found.0 (sealed_on c call g (world_from found.1))

unfoldable pub rechecked : Config → (World → CallContext → Called) → Gathered → Result ChunkResult RecheckFault
rechecked c call g = do
  found ← prepared c g
  Ok (report_from c call g found)
