-- What is tested of the columns that entries stand for, one after the other. This project's own: the steps of the
-- bodies, and no part of the rules.
use Rattle.std.specs.Prelude.{◌≡◌, ◌⊎◌, ℕ, ◌+◌, ◌^◌, ◌<◌, ◌≤◌, ◌==◌, ◌&&◌, Bool, true, false, cond, not, List, [], ◌∷◌}
use Rattle.std.specs.Prelude.{length, Option, Some, None, is_some, sum_by, nat_le, nat_lt}
use Rattle.std.specs.FinMap.{get, values}
use Rattle.std.specs.List.{list_all}
use Rattle.std.specs.Str.{bytes_eq}
use Rattle.nr_config.specs.Config.{Config, account_bytes_entry, extra_record_bytes}
use Rattle.nr_columns.specs.Columns.{Columns}
use Rattle.nr_columns.specs.Entries.{contents_of}
use Rattle.nr_columns.specs.View.{ColumnsView, accounts_table, at_first, columns_in}
use Rattle.nr_columns.specs.declared.entry.Entry.{Entry}
use Rattle.nr_entries.specs.Counting.{count_in, owned_bytes}
use Rattle.nr_entries.specs.Order.{rises}
use Rattle.nr_entries.specs.Told.{are_told, is_id}
use Rattle.nr_ids.specs.Grammar.{is_system}
use Rattle.nr_ids.specs.declared.key.Hash32.{Hash32}
use Rattle.nr_records.specs.declared.account.Account.{Account}
use Rattle.nr_records.specs.declared.receipt.Receipt.{Receipt}
use Rattle.nr_state.specs.Flat.{inputs_of, missing_inputs}
use Rattle.nr_state.specs.Queues.{is_act}
use Rattle.nr_state.specs.Tokens.{list_tokens}
use Rattle.nr_state.specs.Valid.{hash_of_code}
use Rattle.nr_state.specs.View.{delayed_in, repeats_input, served_in, waiting_in, world_in}
use Rattle.nr_state.specs.World.{account_tokens}
use Rattle.nr_worlds.specs.Valid.{is_bounded}

-- ---- the columns, where the keys rise and each entry is one of a column
abbrev pub StandsFor : List Entry → Option ColumnsView → Type 0
StandsFor es None = (rises es && are_told es) ≡ false
StandsFor es (Some v) = ((rises es && are_told es) ≡ true) × (v.columns ≡ columns_in (contents_of es))

-- ---- the delayed queue
abbrev pub is_of_queue : List ℕ → Bool
is_of_queue [] = false
is_of_queue (b ∷ rest) = b == 7

abbrev pub are_of_queue : List Entry → Bool
are_of_queue es = list_all (λ e. is_of_queue e.key) es

abbrev pub numbers_told : Option (ℕ × ℕ) → Bool
numbers_told None = true
numbers_told (Some q) = nat_lt 0 q.1 && nat_le q.0 q.1

-- how many were served and how many wait, or none
abbrev pub Numbers : Option (ℕ × ℕ) → Option (ℕ × ℕ) → Type 0
Numbers q None = numbers_told q ≡ false
Numbers q (Some n) = (numbers_told q ≡ true) × ((n.0 ≡ served_in q) × ((n.1 ≡ waiting_in q) × (n.0 + n.1 < 2 ^ 64)))

abbrev pub queue_told : Columns → List Entry → Bool
queue_told k es =
    numbers_told k.queue && count_in 7 es == waiting_in k.queue && length (delayed_in k) == waiting_in k.queue

-- ---- postponed receipts
abbrev pub is_hash : Hash32 → Option Hash32 → Bool
is_hash id None = false
is_hash id (Some by) = bytes_eq by.0 id.0

abbrev pub is_number : ℕ → Option ℕ → Bool
is_number n None = false
is_number n (Some m) = m == n

-- each input is awaited by the receipt
abbrev pub are_awaited : Columns → Receipt → List Hash32 → Bool
are_awaited k r inputs = list_all (λ input. is_hash r.receipt_id (get k.awaited (r.receiver, input.0))) inputs

-- it lacks inputs, as many as the count says
abbrev pub is_lacking : Columns → Receipt → ℕ → Bool
is_lacking k r n = nat_lt 0 n && is_number n (get k.missing (r.receiver, r.receipt_id.0))

unfoldable pub is_waiting : Columns → Receipt → Bool
is_waiting k r =
    is_act r.body && not (repeats_input r) && is_lacking k r (missing_inputs (world_in k) r)
    && are_awaited k r (inputs_of r.body)

abbrev pub inputs_count : List Receipt → ℕ
inputs_count rs = sum_by (λ r. length (inputs_of r.body)) rs

-- nothing more is awaited or counted
abbrev pub are_all : List Entry → List Receipt → Bool
are_all es rs = count_in 5 es == length rs && count_in 4 es == inputs_count rs

abbrev pub waiting_told : Columns → List Entry → Bool
waiting_told k es = are_all es (values k.postponed) && list_all (is_waiting k) (values k.postponed)

-- ---- accounts
abbrev pub code_bytes : Option (List ℕ) → ℕ
code_bytes None = 0
code_bytes (Some code) = length code

abbrev pub account_told_as : Config → Columns → ℕ → List ℕ → Option Account → Bool
account_told_as c k owned id None = false
account_told_as c k owned id (Some a) =
    not (is_system id) && a.storage_usage == account_bytes_entry c + code_bytes (get k.code id) + owned
    && bytes_eq a.code_hash.0 (hash_of_code (get k.code id)).0

unfoldable pub account_told : Config → Columns → ℕ → List ℕ → List ℕ → Bool
account_told c k owned id value = is_id id && account_told_as c k owned id (accounts_table.read value)

abbrev pub is_owner : Columns → List ℕ → Bool
is_owner k id = is_id id && is_some (get k.accounts id)

abbrev pub has_owner : Columns → Option (List ℕ × List ℕ) → Bool
has_owner k None = false
has_owner k (Some p) = is_owner k p.0

abbrev pub entry_fits_in : Config → Columns → (List ℕ → ℕ) → ℕ → List ℕ → List ℕ → Bool
entry_fits_in c k owned column rest value =
    cond (column == 0) (account_told c k (owned rest) rest value)
    (cond (column == 1) (is_owner k rest)
    (cond (column == 2) (has_owner k (at_first 2 rest)) (cond (column == 9) (has_owner k (at_first 44 rest)) true)))

unfoldable pub entry_fits : Config → Columns → (List ℕ → ℕ) → List ℕ → List ℕ → Bool
entry_fits c k owned [] value = true
entry_fits c k owned (column ∷ rest) value = entry_fits_in c k owned column rest value

abbrev pub accounts_told : Config → Columns → List Entry → Bool
accounts_told c k es = list_all (λ e. entry_fits c k (owned_bytes (extra_record_bytes c) es) e.key e.value) es

-- ---- tokens
-- all are bounded, and n is their tokens and what was before; or they aren't, or there are 2 ^ 128 tokens or more
abbrev pub Adds : Config → ℕ → List Receipt → Option ℕ → Type 0
Adds c before rs (Some n) = (list_all (is_bounded c) rs ≡ true) × (n ≡ before + list_tokens c rs)
Adds c before rs None = (list_all (is_bounded c) rs ≡ false) ⊎ (2 ^ 128 ≤ before + list_tokens c rs)

abbrev pub tokens_of : Config → List Account → List Receipt → List Receipt → ℕ
tokens_of c accounts postponed delayed =
    sum_by account_tokens accounts + list_tokens c postponed + list_tokens c delayed

abbrev pub are_bounded : Config → List Account → List Receipt → List Receipt → Bool
are_bounded c accounts postponed delayed =
    list_all (is_bounded c) postponed && list_all (is_bounded c) delayed
    && nat_le (tokens_of c accounts postponed delayed) (2 ^ 127)

abbrev pub tokens_told : Config → Columns → Bool
tokens_told c k = are_bounded c (values k.accounts) (values k.postponed) (delayed_in k)

-- ---- all of them
unfoldable pub passes : Config → Columns → List Entry → Bool
passes c k es = queue_told k es && waiting_told k es && accounts_told c k es && tokens_told c k
