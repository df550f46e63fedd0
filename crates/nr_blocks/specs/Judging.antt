-- Which genesis and blocks files are refused, and by which fault. This project's own files and limits.
use Rattle.std.specs.Prelude.{ℕ, ◌+◌, ◌^◌, ◌==◌, List, [], ◌∷◌, length, map, take, Result, Ok, Err, nat_le}
use Rattle.std.specs.Prelude.{if◌then◌else◌}
use Rattle.std.specs.List.{list_any}
use Rattle.std.specs.Str.{bytes_eq}
use Rattle.nr_bytes.specs.Reading.{◌>>=◌}
use Rattle.nr_config.specs.Config.{Config}
use Rattle.nr_ids.specs.declared.key.Hash32.{Hash32}
use Rattle.nr_records.specs.Reading.{all_of}
use Rattle.nr_records.specs.declared.fault.RecordFault.{RecordFault}
use Rattle.nr_records.specs.declared.fault.RecordFault.TheVariants as unread
use Rattle.nr_blocks.specs.Files.{blocks_at, genesis_at}
use Rattle.nr_blocks.specs.Genesis.{code_hash_in, is_owned, supply, trie_key, usage_in}
use Rattle.nr_blocks.specs.declared.block.Block.{Block}
use Rattle.nr_blocks.specs.declared.fault.BlocksFault.{BlocksFault}
use Rattle.nr_blocks.specs.declared.fault.BlocksFault.TheVariants as blocks
use Rattle.nr_blocks.specs.declared.fault.GenesisFault.{GenesisFault}
use Rattle.nr_blocks.specs.declared.fault.GenesisFault.TheVariants as genesis
use Rattle.nr_blocks.specs.declared.genesis.Genesis.{Genesis}
use Rattle.nr_blocks.specs.declared.genesis_entry.GenesisEntry.{GenesisEntry}
use Rattle.nr_blocks.specs.declared.genesis_entry.GenesisEntry.TheVariants as kind

-- ---- items in turn
-- a test of an item and its number passes, or has a fault
abbrev pub Check : Type 0 → Type 0 → Type 0
Check X F = ℕ → X → Result (Unit {0}) F

-- all pass, the first of them with this number; or the first fault
unfoldable pub each_from : {X F : Type 0} → Check X F → ℕ → List X → Result (Unit {0}) F
each_from check n [] = Ok tt
each_from check n (x ∷ xs) = do
  passed ← check n x
  each_from check (n + 1) xs

abbrev pub each : {X F : Type 0} → Check X F → List X → Result (Unit {0}) F
each check xs = each_from check 0 xs

-- the same answer, with the fault under another name
abbrev pub with_fault : {X F G : Type 0} → (F → G) → Result X F → Result X G
with_fault name (Ok x) = Ok x
with_fault name (Err e) = Err (name e)

-- ---- the place of the first field that can't be read
abbrev pub genesis_fault : RecordFault → GenesisFault
genesis_fault (unread.Short at) = genesis.Spelling at
genesis_fault (unread.BadByte at byte) = genesis.Spelling at
genesis_fault (unread.BadUtf8 at) = genesis.Spelling at
genesis_fault (unread.BadOrdinal at) = genesis.Spelling at
genesis_fault (unread.BadAccountId at) = genesis.Spelling at
genesis_fault (unread.Stake at) = genesis.Spelling at
genesis_fault (unread.TooManyBoundaries at) = genesis.Spelling at
genesis_fault (unread.BoundaryOrder at) = genesis.Spelling at
genesis_fault unread.Memory = genesis.Memory

abbrev pub blocks_fault : RecordFault → BlocksFault
blocks_fault (unread.Short at) = blocks.Spelling at
blocks_fault (unread.BadByte at byte) = blocks.Spelling at
blocks_fault (unread.BadUtf8 at) = blocks.Spelling at
blocks_fault (unread.BadOrdinal at) = blocks.Spelling at
blocks_fault (unread.BadAccountId at) = blocks.Spelling at
blocks_fault (unread.Stake at) = blocks.Stake at
blocks_fault (unread.TooManyBoundaries at) = blocks.Spelling at
blocks_fault (unread.BoundaryOrder at) = blocks.Spelling at
blocks_fault unread.Memory = blocks.Memory

-- ---- the genesis file
-- no entry before it has its trie key
abbrev pub is_first : List GenesisEntry → Check GenesisEntry GenesisFault
is_first es n e =
    if list_any (bytes_eq (trie_key e)) (map trie_key (take n es)) then Err (genesis.Duplicate n) else Ok tt

abbrev pub has_owner : List GenesisEntry → Check GenesisEntry GenesisFault
has_owner es n e = if is_owned es e then Ok tt else Err (genesis.NoOwner n)

-- an account states what it uses
abbrev pub states_usage : (List ℕ → ℕ) → Check GenesisEntry GenesisFault
states_usage used n (kind.Account id a) =
    if a.storage_usage == used id then Ok tt else Err (genesis.Usage n a.storage_usage (used id))
states_usage used n (kind.Code id code) = Ok tt
states_usage used n (kind.Key id key access) = Ok tt
states_usage used n (kind.Datum id key value) = Ok tt

-- an account states the hash of its code
abbrev pub states_hash : (List ℕ → Hash32) → Check GenesisEntry GenesisFault
states_hash hash n (kind.Account id a) = if bytes_eq a.code_hash.0 (hash id).0 then Ok tt else Err (genesis.CodeHash n)
states_hash hash n (kind.Code id code) = Ok tt
states_hash hash n (kind.Key id key access) = Ok tt
states_hash hash n (kind.Datum id key value) = Ok tt

-- at most 2 ^ 127 tokens
abbrev pub bounded_supply : List GenesisEntry → Result ℕ GenesisFault
bounded_supply es = if nat_le (supply es) (2 ^ 127) then Ok (supply es) else Err genesis.Supply

-- the supply of the entries, or the first fault
unfoldable pub founded : Config → List GenesisEntry → Result ℕ GenesisFault
founded c es = do
  apart ← each (is_first es) es
  owned ← each (has_owner es) es
  used ← each (states_usage (usage_in c es)) es
  tokens ← bounded_supply es
  hashed ← each (states_hash (code_hash_in es)) es
  Ok tokens

-- what a genesis file gives
unfoldable pub genesis_read : Config → List ℕ → Result Genesis GenesisFault
genesis_read c bytes = do
  file ← with_fault genesis_fault (all_of genesis_at bytes)
  tokens ← founded c file.entries
  Ok (record { layout = file.layout; entries = file.entries; supply = tokens })

-- ---- the blocks file
abbrev pub has_chunks : ℕ → Check Block BlocksFault
has_chunks shards n b = if length b.chunks == shards then Ok tt else Err (blocks.ShardCount b.height.0)

-- the heights count from 1
abbrev pub has_height : Check Block BlocksFault
has_height n b = if b.height.0 == n + 1 then Ok tt else Err (blocks.HeightOrder b.height.0)

-- how many blocks a file may have
abbrev pub most_blocks : ℕ
most_blocks = 100000

-- one chunk for each shard, heights in order, not too many blocks; or the first fault
unfoldable pub ordered : ℕ → List Block → Result (Unit {0}) BlocksFault
ordered shards bs = do
  chunks ← each (has_chunks shards) bs
  heights ← each has_height bs
  if nat_le (length bs) most_blocks then Ok tt else Err blocks.TooMany

-- what a blocks file gives
unfoldable pub blocks_read : ℕ → List ℕ → Result (List Block) BlocksFault
blocks_read shards bytes = do
  file ← with_fault blocks_fault (all_of blocks_at bytes)
  fits ← ordered shards file.blocks
  Ok file.blocks
