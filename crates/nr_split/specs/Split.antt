-- The trie entries of worlds that are laid out by other boundaries. This project's own.
use Rattle.std.specs.Prelude.{ℕ, ◌+◌, Bool, List, length, map}
use Rattle.std.specs.FinMap.{entries, from_entries}
use Rattle.std.specs.List.{flat_map, range_with_len}
use Rattle.nr_columns.specs.Columns.{Columns, laid_columns}
use Rattle.nr_columns.specs.Entries.{contents_of}
use Rattle.nr_columns.specs.View.{columns_in}
use Rattle.nr_columns.specs.declared.entry.Entry.{Entry}
use Rattle.nr_cut.specs.Cut.{lives_in}
use Rattle.nr_layout.specs.Layout.{out_to}
use Rattle.nr_records.specs.declared.receipt.Receipt.{Receipt}
use Rattle.nr_split.specs.Owned.{owned_of}
use Rattle.nr_state.specs.Flat.{numbered, queue_in}
use Rattle.nr_state.specs.FromEntries.{world_from}
use Rattle.nr_state.specs.World.{no_world}
use Rattle.nr_triedef.specs.Root.{Contents}

-- the delayed receipts of all worlds, world after world
abbrev pub delayed_of : List (List Entry) → List Receipt
delayed_of worlds = flat_map (λ es. (world_from es).delayed) worlds

-- columns with the receipts of a delayed queue of which none was served, and with its numbers too
abbrev pub with_receipts : Columns → List Receipt → Columns
with_receipts k delayed = record k { delayed = from_entries (numbered 0 delayed) }

abbrev pub with_queue : Columns → List Receipt → Columns
with_queue k delayed =
    record k {
      queue = queue_in (record no_world { delayed = delayed });
      delayed = from_entries (numbered 0 delayed);
    }

-- the entries of contents, in the order of their keys' bytes
abbrev pub entries_in : Contents → List Entry
entries_in c = map (λ p. record { key = p.0; value = p.1 }) (entries c)

-- those of the world of some accounts: what they own, and these delayed receipts
abbrev pub entries_cut : (List ℕ → Bool) → List (List Entry) → List Receipt → List Entry
entries_cut x worlds delayed = entries_in
    (laid_columns (with_queue (columns_in (contents_of (owned_of x worlds))) delayed))

-- those of the worlds of the shards under the boundaries
abbrev pub entries_split : List (List ℕ) → List (List Entry) → List (List Entry)
entries_split boundaries worlds =
    map (λ shard. entries_cut (lives_in boundaries shard) worlds (out_to boundaries shard (delayed_of worlds)))
    (range_with_len 0 (length boundaries + 1))
