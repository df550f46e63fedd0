-- A chunk of a run with all that it is run again from. After the Nomicon, Chain Specification (Chunks and cross-shard
-- receipts).
use Rattle.std.specs.Prelude.{ℕ, ◌+◌, List, [], ◌++◌, Option, unwrap_or}
use Rattle.std.specs.FinMap.{entries}
use Rattle.std.specs.List.{flat_map}
use Rattle.std.specs.Option.{option_and_then}
use Rattle.nr_blocks.specs.declared.block.Block.{Block}
use Rattle.nr_chunk.specs.Chain.{Chain, block_at, chunk_at, place_at, rules_of}
use Rattle.nr_chunk.specs.Locality.{touched}
use Rattle.nr_chunk.specs.Views.{Kept}
use Rattle.nr_gather.specs.Gathered.{gathered}
use Rattle.nr_gathered.specs.declared.gathered.Gathered.{Gathered}
use Rattle.nr_overlap.specs.Serial.{due_after, list_to, sealing_at, world_after}
use Rattle.nr_records.specs.declared.receipt.Receipt.{Receipt}
use Rattle.nr_records.specs.declared.transaction.Transaction.{Transaction}
use Rattle.nr_state.specs.Flat.{flat}
use Rattle.nr_stateless.specs.Accounts.{searched_of}
use Rattle.nr_triedef.specs.Root.{paths, root_of}

-- the price that a block states
abbrev pub stated_price : Option Block → Option ℕ
stated_price block = option_and_then (λ (b : Block). b.price) block

-- the list of a height and a source to a shard
abbrev pub due_to : Chain → ℕ → ℕ × ℕ → List Receipt
due_to x shard due = unwrap_or (list_to (rules_of x) (sealing_at (rules_of x) due.1 due.0) shard) []

-- of the chunk of a shard at the height after this one
module _ (x : Chain) (shard below : ℕ) where
  -- the shard before it
  abbrev pub before : Kept
  before = world_after (rules_of x) shard below

  -- ---- the receipts that it takes
  -- those of the lists that are due to it, in turn
  abbrev pub due_lists : List Receipt
  due_lists = flat_map (due_to x shard) (due_after (rules_of x) shard below)

  -- those that are carried to it, and then these
  abbrev pub taken : List Receipt
  taken = before.carried ++ due_lists

  -- the chunk's transactions, none where it is missed
  abbrev pub transactions : List Transaction
  transactions = unwrap_or (chunk_at x shard (below + 1)) []

  -- the texts of the trie before it that a walk for the accounts that it touches looks at
  abbrev pub texts : List (List ℕ)
  texts = gathered (searched_of (touched before.world transactions taken)) (paths (entries (flat before.world)))

  unfoldable pub gathered_chunk : Gathered
  gathered_chunk = record {
    prior_root = (root_of (flat before.world)).hash;
    layout = x.start.boundaries;
    height = (place_at x (below + 1)).height;
    timestamp = (place_at x (below + 1)).timestamp;
    price = stated_price (block_at x (below + 1));
    shard = record { 0 = shard };
    transactions = transactions;
    taken = taken;
    texts = texts;
  }
