-- The world that columns stand for, and what a state shows.
use Rattle.std.specs.Prelude.{◌≡◌, ℕ, ◌-◌, Bool, true, false, List, map, Option, Some, None, option_to_list}
use Rattle.std.specs.FinMap.{get}
use Rattle.std.specs.List.{AllByRecursion, flat_map, range_with_len, list_any}
use Rattle.std.specs.Str.{bytes_eq}
use Rattle.nr_config.specs.Config.{Config}
use Rattle.nr_ids.specs.declared.key.Hash32.{Hash32}
use Rattle.nr_records.specs.declared.receipt.Receipt.{Receipt}
use Rattle.nr_triedef.specs.Root.{Contents}
use Rattle.nr_columns.specs.Columns.{Columns}
use Rattle.nr_columns.specs.View.{ColumnsView, columns_in}
use Rattle.nr_state.specs.Flat.{columns_of, inputs_of, flat}
use Rattle.nr_state.specs.Repeats.{has_repeat}
use Rattle.nr_state.specs.World.{World}
use Rattle.nr_state.specs.Worlds.{IsWorld}

-- ---- reading the world out of its columns
abbrev pub served_in : Option (ℕ × ℕ) → ℕ
served_in None = 0
served_in (Some q) = q.0

abbrev pub waiting_in : Option (ℕ × ℕ) → ℕ
waiting_in None = 0
waiting_in (Some q) = q.1 - q.0

abbrev pub delayed_in : Columns → List Receipt
delayed_in k =
    flat_map (λ n. option_to_list (get k.delayed n)) (range_with_len (served_in k.queue) (waiting_in k.queue))

abbrev pub world_in : Columns → World
world_in k =
    record {
      accounts = k.accounts;
      keys = k.keys;
      code = k.code;
      data_of = k.data_of;
      received = k.received;
      postponed = k.postponed;
      delayed = delayed_in k;
      served = served_in k.queue;
    }

-- ---- what holds of the postponed receipts of every state: each is kept under its receiver and id, it waits for
-- distinct inputs, and no two at one receiver wait for the same
abbrev pub has_input : Receipt → Hash32 → Bool
has_input r id = list_any (λ input. bytes_eq input.0 id.0) (inputs_of r.body)

-- an input stands twice
abbrev pub repeats_input : Receipt → Bool
repeats_input r = has_repeat (map (λ input. input.0) (inputs_of r.body))

pub record IsPostponed (k : List ℕ × List ℕ) (r : Receipt) : Type 0 where
  pub keyed : k ≡ (r.receiver, r.receipt_id.0)
  pub distinct : repeats_input r ≡ false

pub record ArePostponed (w : World) : Type 0 where
  pub each : (k : List ℕ × List ℕ) (r : Receipt) → get w.postponed k ≡ Some r → IsPostponed k r
  pub apart : (j k : List ℕ × List ℕ) (q r : Receipt) (id : Hash32) → get w.postponed j ≡ Some q → get w.postponed k
      ≡ Some r
      → q.receiver ≡ r.receiver → has_input q id ≡ true → has_input r id ≡ true → j ≡ k

-- the columns are those of their world, and nothing else; what they hold fits its fields
pub record IsWhole (k : Columns) : Type 0 where
  pub derived : columns_of (world_in k) ≡ k
  pub postponed : ArePostponed (world_in k)
  pub fits : IsWorld (world_in k)

-- the world that contents are the trie entries of
abbrev pub world_of : Contents → World
world_of c = world_in (columns_in c)

-- the world can be told from its trie entries
abbrev pub IsTold : World → Type 0
IsTold w = world_of (flat w) ≡ w

-- ---- what a state shows: its world, those of the standing checkpoints (the newest first), how many more checkpoints
-- it can make, its configuration, and that no change was left in the middle
pub record StateView : Type 0 where
  pub world : World
  pub marks : List World
  pub spare : ℕ
  pub config : Config
  pub whole : Bool

abbrev pub state_view : ColumnsView → Config → Bool → StateView
state_view v c whole =
    record { world = world_in v.columns; marks = map world_in v.marks; spare = v.spare; config = c; whole = whole }

abbrev pub with_world : StateView → World → StateView
with_world s w = record s { world = w }

pub record IsState (v : ColumnsView) (whole : Bool) : Type 0 where
  pub here : whole ≡ true → IsWhole v.columns
  pub marks : AllByRecursion IsWhole v.marks
