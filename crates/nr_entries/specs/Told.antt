-- Which entries are those of a column, each spelled as that column spells it, with names that fit. After the Nomicon,
-- Data Structures, Merkle Proofs and Trie; the columns are this project's.
use Rattle.std.specs.Prelude.{ℕ, ◌==◌, ◌&&◌, Bool, false, cond, List, [], ◌∷◌, length, Option, Some, None}
use Rattle.std.specs.Prelude.{is_none, is_some}
use Rattle.std.specs.List.{AllByRecursion, list_all}
use Rattle.std.specs.Str.{bytes_eq}
use Rattle.nr_bytes.specs.Numbers.{IsBytes}
use Rattle.nr_ids.specs.Grammar.{id_fault}
use Rattle.nr_ids.specs.declared.key.PublicKey.{PublicKey}
use Rattle.nr_ids.specs.declared.key.PublicKey.TheVariants.{Ed25519, Secp256k1}
use Rattle.nr_records.specs.declared.receipt.Receipt.{Receipt}
use Rattle.nr_columns.specs.View.{at_first, key_of_rest, queue_of, accounts_table, keys_table, received_table}
use Rattle.nr_columns.specs.View.{awaited_table, missing_table, postponed_table, delayed_table}
use Rattle.nr_columns.specs.declared.entry.Entry.{Entry}

-- ---- names
abbrev pub is_id : List ℕ → Bool
is_id id = is_none (id_fault id)

abbrev pub is_key : PublicKey → Bool
is_key (Ed25519 key) = length key == 32
is_key (Secp256k1 key) = length key == 64

-- an account id, and the id of a datum or a receipt
abbrev pub is_id_and_hash : List ℕ × List ℕ → Bool
is_id_and_hash k = is_id k.0 && length k.1 == 32

-- ---- an entry, by the column's byte, the rest of its key and its value
-- an owner and a public key
abbrev pub is_owned_key : Option (List ℕ × PublicKey) → Bool
is_owned_key None = false
is_owned_key (Some k) = is_id k.0 && is_key k.1

-- an owner, and what the owner keeps a datum under
abbrev pub is_owned : Option (List ℕ × List ℕ) → Bool
is_owned None = false
is_owned (Some k) = is_id k.0

-- a receiver, and the id of a datum or a receipt
abbrev pub is_received : Option (List ℕ × List ℕ) → Bool
is_received None = false
is_received (Some k) = is_id_and_hash k

abbrev pub same_pair : List ℕ × List ℕ → List ℕ × List ℕ → Bool
same_pair j k = bytes_eq j.0 k.0 && bytes_eq j.1 k.1

-- a receipt
abbrev pub is_kept : Option (List ℕ × List ℕ) → Option Receipt → Bool
is_kept None r = false
is_kept (Some k) None = false
is_kept (Some k) (Some r) = same_pair k (r.receiver, r.receipt_id.0)

-- the queue's two numbers, or a receipt under its number of eight bytes
abbrev pub is_queued : List ℕ → List ℕ → Bool
is_queued [] value = is_some (queue_of value)
is_queued (b ∷ bs) value = length (b ∷ bs) == 8 && is_some (delayed_table.read value)

abbrev pub is_told_in : ℕ → List ℕ → List ℕ → Bool
is_told_in column rest value =
    cond (column == 0) (is_id rest && is_some (accounts_table.read value))
    (cond (column == 1) (is_id rest)
    (cond (column == 2) (is_owned_key (key_of_rest rest) && is_some (keys_table.read value))
    (cond (column == 3) (is_received (at_first 44 rest) && is_some (received_table.read value))
    (cond (column == 4) (is_some (at_first 44 rest) && is_some (awaited_table.read value))
    (cond (column == 5) (is_some (at_first 44 rest) && is_some (missing_table.read value))
    (cond (column == 6) (is_received (at_first 44 rest) && is_kept (at_first 44 rest) (postponed_table.read value))
    (cond (column == 7) (is_queued rest value)
    (cond (column == 9) (is_owned (at_first 44 rest)) false))))))))

unfoldable pub is_told : List ℕ → List ℕ → Bool
is_told [] value = false
is_told (column ∷ rest) value = is_told_in column rest value

-- each of them is
abbrev pub are_told : List Entry → Bool
are_told es = list_all (λ e. is_told e.key e.value) es

-- keys and values are bytes
abbrev pub AreBytes : List Entry → Type 0
AreBytes es = AllByRecursion (λ e. IsBytes e.key × IsBytes e.value) es
