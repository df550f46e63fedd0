-- What a chunk touches, and that it comes to the same on the touched part of a world. A law of this project's own.
use Rattle.std.specs.Prelude.{◌≡◌, ℕ, Bool, true, List, ◌∷◌, ◌++◌, map, fold}
use Rattle.std.specs.List.{AllByRecursion, flat_map, list_any}
use Rattle.std.specs.Str.{bytes_eq}
use Rattle.nr_chunk.specs.Chunk.{begun, open_chunk, take_list, seal_chunk}
use Rattle.nr_chunk.specs.Views.{Kept, Working}
use Rattle.nr_config.specs.Config.{Config}
use Rattle.nr_ids.specs.declared.number.ShardId.{ShardId}
use Rattle.nr_overlap.specs.Rules.{Sealing}
use Rattle.nr_records.specs.declared.chunk_result.ChunkResult.{ChunkResult}
use Rattle.nr_records.specs.declared.receipt.Receipt.{Receipt}
use Rattle.nr_records.specs.declared.transaction.Transaction.{Transaction}
use Rattle.nr_state.specs.Calls.{Called}
use Rattle.nr_state.specs.World.{World}
use Rattle.nr_state.specs.declared.calls.CallContext.{CallContext}
use Rattle.nr_state.specs.declared.place.Place.{Place}
use Rattle.nr_state.specs.Keyed.{IsKeyed}
use Rattle.nr_state.specs.Scopes.{all_of, over, part_of}

-- ---- the accounts that a chunk touches: the signers of its transactions, the receivers of the delayed receipts and of
-- the receipts that it takes, carried ones first
abbrev pub touched : World → List Transaction → List Receipt → List (List ℕ)
touched w txs taken =
    map (λ (tx : Transaction). tx.signer) txs
    ++ (map (λ (r : Receipt). r.receiver) w.delayed ++ map (λ (r : Receipt). r.receiver) taken)

-- the accounts of a list
abbrev pub is_in : List (List ℕ) → List ℕ → Bool
is_in ids id = list_any (bytes_eq id) ids

-- each is one of these accounts
abbrev pub HasAll : (List ℕ → Bool) → List (List ℕ) → Type 0
HasAll x ids = AllByRecursion (λ id. x id ≡ true) ids

-- ---- a chunk that was opened and took lists, what is carried before others, and that was sealed
abbrev pub worked : Config → (World → CallContext → Called) → Working → List Transaction → List (List Receipt) → Working
worked c call k txs lists = fold (take_list c call) (open_chunk c call k txs) lists

abbrev pub run_chunk : Config → (World → CallContext → Called) → List (List ℕ) → ℕ → Kept → ShardId → Place
    → List Transaction → List (List Receipt) → Sealing Kept (List Receipt) ChunkResult
run_chunk c call boundaries shards w shard place txs lists =
    seal_chunk boundaries shards (worked c call (begun w shard place) txs (w.carried ∷ lists))

-- ---- the same from a world and from its part: all but the world, and the world is the new one of the part, and
-- elsewhere as it was
abbrev pub IsSameWork : (List ℕ → Bool) → World → Working → Working → Type 0
IsSameWork x w whole part = whole ≡ record part { world = over (all_of x) part.world w }

-- the lists, and of the report all but the root: the lines, the gas and what was burnt
pub record IsSameSeal (x : List ℕ → Bool) (w : World) (whole part : Sealing Kept (List Receipt) ChunkResult) : Type 0
  where
    pub lists : whole.lists ≡ part.lists
    pub report : whole.report ≡ record part.report { root = whole.report.root }
    pub world : whole.world ≡ record part.world { world = over (all_of x) part.world.world w }

-- ---- the law: from every world with receipts under their receivers, as valid ones have them, and for all accounts
-- among which are those that the chunk touches
pub record IsLocalChunk (c : Config) (call : World → CallContext → Called) : Type 0 where
  pub worked : (x : List ℕ → Bool) (k : Working) (txs : List Transaction) (lists : List (List Receipt))
      → IsKeyed k.world
      → HasAll x (touched k.world txs (flat_map (λ list. list) lists))
      → IsSameWork x k.world (worked c call k txs lists)
      (worked c call (record k { world = part_of x k.world }) txs lists)
  pub sealed : (x : List ℕ → Bool) (boundaries : List (List ℕ)) (shards : ℕ) (w : Kept) (shard : ShardId)
      (place : Place)
      (txs : List Transaction) (lists : List (List Receipt)) → IsKeyed w.world
      → HasAll x (touched w.world txs (w.carried ++ flat_map (λ list. list) lists))
      → IsSameSeal x w.world (run_chunk c call boundaries shards w shard place txs lists)
      (run_chunk c call boundaries shards (record w { world = part_of x w.world }) shard place txs lists)
