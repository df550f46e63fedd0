-- How the worlds of shards, and the receipts that their last chunks sent, are laid out by other boundaries. This
-- project's own.
use Rattle.std.specs.Prelude.{◌≡◌, ℕ, ◌+◌, ◌==◌, Bool, List, [], ◌∷◌, ◌++◌, length, map, Some, slice_get}
use Rattle.std.specs.FinMap.{FinMap, entries, from_entries}
use Rattle.std.specs.List.{flat_map, range_with_len}
use Rattle.std.specs.declared.cmp.Ordering.{Ordering}
use Rattle.nr_layout.specs.Layout.{shard_of, out_to, parts}
use Rattle.nr_records.specs.declared.receipt.Receipt.{Receipt}
use Rattle.nr_state.specs.Scopes.{part_of}
use Rattle.nr_state.specs.World.{World, no_world}

-- ---- worlds side by side
-- two maps as one; where both have a key, it has the first one's value
abbrev pub joined : {K X : Type 0} {R : K → K → Ordering} → FinMap R X → FinMap R X → FinMap R X
joined m n = from_entries (entries m ++ entries n)

-- what either world has, the delayed receipts of the second behind those of the first, and none was served
abbrev pub beside : World → World → World
beside a b =
    record {
      accounts = joined a.accounts b.accounts;
      keys = joined a.keys b.keys;
      code = joined a.code b.code;
      data_of = joined a.data_of b.data_of;
      received = joined a.received b.received;
      postponed = joined a.postponed b.postponed;
      delayed = a.delayed ++ b.delayed;
      served = 0;
    }

-- all worlds of a list as one, in order; of no world it is the empty one
abbrev pub all_beside : List World → World
all_beside [] = no_world
all_beside (w ∷ ws) = beside w (all_beside ws)

-- ---- the cut
-- the shard of an account under the boundaries is this one
abbrev pub lives_in : List (List ℕ) → ℕ → List ℕ → Bool
lives_in boundaries shard id = shard_of boundaries id == shard

-- a shard's world: the accounts, keys, code, data, received data and postponed receipts of all worlds whose owner or
-- receiver lives in it, the delayed receipts for it, world after world, and none was served
unfoldable pub cut_world : List (List ℕ) → List World → ℕ → World
cut_world boundaries worlds shard =
    record (part_of (lives_in boundaries shard) (all_beside worlds)) {
      delayed = out_to boundaries shard (flat_map (λ w. w.delayed) worlds);
      served = 0;
    }

-- the worlds of all shards under the boundaries, in order
abbrev pub cut_worlds : List (List ℕ) → List World → List World
cut_worlds boundaries worlds = map (cut_world boundaries worlds) (range_with_len 0 (length boundaries + 1))

-- what each shard gets of the lists that were sent, by source and then by destination: list after list, each in its
-- order
abbrev pub carried : List (List ℕ) → List (List Receipt) → List (List Receipt)
carried boundaries lists = parts boundaries (length boundaries + 1) (flat_map (λ list. list) lists)

-- ---- worlds that a layout keeps apart
-- a world has nothing but what accounts have that pass a test, and its queue
abbrev pub HasOnly : (List ℕ → Bool) → World → Type 0
HasOnly test w = part_of test w ≡ w

-- each shard's world has only what lives in the shard
abbrev pub AreApart : List (List ℕ) → List World → Type 0
AreApart boundaries worlds =
    (shard : ℕ) (w : World) → slice_get worlds shard ≡ Some w → HasOnly (lives_in boundaries shard) w
