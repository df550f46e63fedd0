-- What waits in a state: who waits for a datum, and what each change of it is in the columns. After the Nomicon,
-- Runtime Specification, Receipts; the columns are this project's.
use Rattle.std.specs.Prelude.{◌≡◌, ℕ, ◌+◌, ◌-◌, Bool, true, false, cond, List, [], ◌∷◌, Option, Some, None, is_some}
use Rattle.std.specs.Prelude.{nat_lt}
use Rattle.std.specs.FinMap.{get, insert, remove}
use Rattle.std.specs.List.{list_any}
use Rattle.nr_ids.specs.declared.key.Hash32.{Hash32}
use Rattle.nr_records.specs.declared.receipt.Body.{Body}
use Rattle.nr_records.specs.declared.receipt.Body.TheVariants.{Act, Datum}
use Rattle.nr_records.specs.declared.receipt.Receipt.{Receipt}
use Rattle.nr_columns.specs.Columns.{Columns}
use Rattle.nr_state.specs.Flat.{inputs_of, missing_inputs, awaited_in}
use Rattle.nr_state.specs.View.{has_input, world_in}
use Rattle.nr_state.specs.World.{World}

-- the id of the postponed receipt that has an input
abbrev pub awaited_by : World → List ℕ → Hash32 → Option Hash32
awaited_by w receiver id = get (awaited_in w) (receiver, id.0)

-- the postponed receipt that has an input, told by its id; without an id none has it
abbrev pub WaitsFor : World → List ℕ → Hash32 → Option Hash32 → Type 0
WaitsFor w receiver id None =
    (k : List ℕ × List ℕ) (r : Receipt) → get w.postponed k ≡ Some r → r.receiver ≡ receiver → has_input r id ≡ false
WaitsFor w receiver id (Some by) =
    (r : Receipt) × ((get w.postponed (receiver, by.0) ≡ Some r) × (has_input r id ≡ true))

-- one of the inputs of a receipt is one of a postponed receipt at its receiver
abbrev pub has_awaited : World → Receipt → Bool
has_awaited w r = list_any (λ input. is_some (awaited_by w r.receiver input)) (inputs_of r.body)

-- a receipt of actions
abbrev pub is_act : Body → Bool
is_act (Act act) = true
is_act (Datum d) = false

-- ---- data
-- the count at a receipt's key is another, where there is one
abbrev pub with_count_at : (ℕ → ℕ) → Columns → List ℕ × List ℕ → Option ℕ → Columns
with_count_at f k at None = k
with_count_at f k at (Some n) = record k { missing = insert k.missing at (f n) }

-- the count of the receipt that waits for a datum is another
abbrev pub with_count : (ℕ → ℕ) → Columns → List ℕ → Option Hash32 → Columns
with_count f k receiver None = k
with_count f k receiver (Some id) = with_count_at f k (receiver, id.0) (get k.missing (receiver, id.0))

-- a datum comes, and who waits for it lacks one input fewer
abbrev pub more_received : Columns → List ℕ → Hash32 → Option (List ℕ) → Columns
more_received k receiver id bytes =
    with_count (λ n. n - 1) (record k { received = insert k.received (receiver, id.0) bytes }) receiver
    (get k.awaited (receiver, id.0))

-- a datum goes, and who waits for it lacks one input more
abbrev pub less_received : Columns → List ℕ → Hash32 → Option (Option (List ℕ)) → Columns
less_received k receiver id None = record k { received = remove k.received (receiver, id.0) }
less_received k receiver id (Some bytes) =
    with_count (λ n. n + 1) (record k { received = remove k.received (receiver, id.0) }) receiver
    (get k.awaited (receiver, id.0))

-- ---- postponed receipts
-- the inputs are awaited by a receipt
abbrev pub all_awaited : Columns → List ℕ → Hash32 → List Hash32 → Columns
all_awaited k receiver by [] = k
all_awaited k receiver by (id ∷ ids) =
    all_awaited (record k { awaited = insert k.awaited (receiver, id.0) by }) receiver by ids

-- the inputs are awaited no more
abbrev pub none_awaited : Columns → List ℕ → List Hash32 → Columns
none_awaited k receiver [] = k
none_awaited k receiver (id ∷ ids) =
    none_awaited (record k { awaited = remove k.awaited (receiver, id.0) }) receiver ids

-- a receipt under its key, and how many inputs it lacks
abbrev pub with_postponed_at : Columns → List ℕ × List ℕ → ℕ → Receipt → Columns
with_postponed_at k at n r = record k { missing = insert k.missing at n; postponed = insert k.postponed at r }

-- a receipt is postponed
abbrev pub more_postponed : Columns → Receipt → Columns
more_postponed k r =
    with_postponed_at (all_awaited k r.receiver r.receipt_id (inputs_of r.body)) (r.receiver, r.receipt_id.0)
    (missing_inputs (world_in k) r) r

-- no receipt under a key
abbrev pub without_postponed_at : Columns → List ℕ × List ℕ → Columns
without_postponed_at k at = record k { missing = remove k.missing at; postponed = remove k.postponed at }

-- a postponed receipt is taken out
abbrev pub less_postponed : Columns → List ℕ → Hash32 → Option Receipt → Columns
less_postponed k receiver id None = k
less_postponed k receiver id (Some r) =
    without_postponed_at (none_awaited k receiver (inputs_of r.body)) (receiver, id.0)

-- ---- the delayed queue
-- a receipt at the end
abbrev pub more_delayed : Columns → Option (ℕ × ℕ) → Receipt → Columns
more_delayed k None r = record k { delayed = insert k.delayed 0 r; queue = Some (0, 1) }
more_delayed k (Some q) r = record k { delayed = insert k.delayed q.1 r; queue = Some (q.0, q.1 + 1) }

-- the number that the next delayed receipt gets
abbrev pub next_in : Option (ℕ × ℕ) → ℕ
next_in None = 0
next_in (Some q) = q.1

-- the receipt at the front, in the columns
abbrev pub front_in : Columns → Option (ℕ × ℕ) → Option Receipt
front_in k None = None
front_in k (Some q) = cond (nat_lt q.0 q.1) (get k.delayed q.0) None

-- without the receipt at the front
abbrev pub less_delayed : Columns → Option (ℕ × ℕ) → Columns
less_delayed k None = k
less_delayed k (Some q) =
    cond (nat_lt q.0 q.1) (record k { delayed = remove k.delayed q.0; queue = Some (q.0 + 1, q.1) }) k
