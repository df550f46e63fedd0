-- The trie entries of a world: each part of it under keys of its own, and beside the postponed receipts which data
-- they wait for and how many they lack. After the Nomicon, Data Structures, Merkle Proofs and Trie, and Runtime
-- Specification, Receipts; the columns are this project's.
use Rattle.std.specs.Prelude.{ℕ, ◌+◌, ◌==◌, Bool, cond, List, [], ◌∷◌, length, map, Option, Some, None, is_none}
use Rattle.std.specs.Prelude.{count_by}
use Rattle.std.specs.FinMap.{FinMap, get, entries, values, from_entries}
use Rattle.std.specs.List.{flat_map}
use Rattle.nr_ids.specs.declared.key.Hash32.{Hash32}
use Rattle.nr_records.specs.declared.receipt.Receipt.{Receipt}
use Rattle.nr_records.specs.declared.receipt.Body.{Body}
use Rattle.nr_records.specs.declared.receipt.Body.TheVariants.{Act, Datum}
use Rattle.nr_triedef.specs.Root.{Contents}
use Rattle.nr_columns.specs.Columns.{Columns, laid_columns}
use Rattle.nr_columns.specs.Orders.{pair_cmp}
use Rattle.nr_state.specs.World.{World}

-- ---- what a receipt waits for
abbrev pub inputs_of : Body → List Hash32
inputs_of (Act act) = act.inputs
inputs_of (Datum d) = []

-- a datum hasn't been received
abbrev pub is_missing : World → List ℕ → Hash32 → Bool
is_missing w receiver id = is_none (get w.received (receiver, id.0))

abbrev pub missing_inputs : World → Receipt → ℕ
missing_inputs w r = count_by (is_missing w r.receiver) (inputs_of r.body)

-- the receipt's id under each of its inputs
abbrev pub awaits : Receipt → List ((List ℕ × List ℕ) × Hash32)
awaits r = map (λ input. ((r.receiver, input.0), r.receipt_id)) (inputs_of r.body)

-- ---- what is derived from the world
abbrev pub awaited_in : World → FinMap pair_cmp Hash32
awaited_in w = from_entries (flat_map awaits (values w.postponed))

abbrev pub missing_in : World → FinMap pair_cmp ℕ
missing_in w = from_entries (map (λ e. (e.0, missing_inputs w e.1)) (entries w.postponed))

-- how many delayed receipts were served, and the number of the next one; none until one was delayed
abbrev pub queue_in : World → Option (ℕ × ℕ)
queue_in w = cond ((w.served + length w.delayed) == 0) None (Some (w.served, w.served + length w.delayed))

abbrev pub numbered : ℕ → List Receipt → List (ℕ × Receipt)
numbered n [] = []
numbered n (r ∷ rs) = (n, r) ∷ numbered (n + 1) rs

-- ---- all of it
abbrev pub columns_of : World → Columns
columns_of w =
    record {
      accounts = w.accounts;
      keys = w.keys;
      code = w.code;
      data_of = w.data_of;
      received = w.received;
      awaited = awaited_in w;
      missing = missing_in w;
      postponed = w.postponed;
      queue = queue_in w;
      delayed = from_entries (numbered w.served w.delayed);
    }

unfoldable pub flat : World → Contents
flat w = laid_columns (columns_of w)
