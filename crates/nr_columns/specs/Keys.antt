-- The keys of the state trie: a byte for the column, and then whose entry it is. After the Nomicon, Data Structures,
-- Merkle Proofs and Trie; the bytes are this project's.
use Rattle.std.specs.Prelude.{ℕ, List, [], ◌∷◌, ◌++◌}
use Rattle.nr_bytes.specs.Numbers.{little}
use Rattle.nr_ids.specs.declared.key.PublicKey.{PublicKey}
use Rattle.nr_ids.specs.Keys.{key_bytes}

abbrev pub account_key : List ℕ → List ℕ
account_key id = 0 ∷ id

abbrev pub code_key : List ℕ → List ℕ
code_key id = 1 ∷ id

abbrev pub access_key_key : List ℕ × PublicKey → List ℕ
access_key_key k = 2 ∷ (k.0 ++ 2 ∷ key_bytes k.1)

-- a column, an id, a comma and the rest
abbrev pub column_key : ℕ → List ℕ → List ℕ → List ℕ
column_key column id rest = column ∷ (id ++ 44 ∷ rest)

-- by receiver and data id
abbrev pub received_key : List ℕ × List ℕ → List ℕ
received_key k = column_key 3 k.0 k.1

-- by receiver and data id
abbrev pub awaited_key : List ℕ × List ℕ → List ℕ
awaited_key k = column_key 4 k.0 k.1

-- by receiver and receipt id
abbrev pub missing_key : List ℕ × List ℕ → List ℕ
missing_key k = column_key 5 k.0 k.1

-- by receiver and receipt id
abbrev pub postponed_key : List ℕ × List ℕ → List ℕ
postponed_key k = column_key 6 k.0 k.1

abbrev pub queue_key : List ℕ
queue_key = 7 ∷ []

-- by the number in the queue
abbrev pub delayed_key : ℕ → List ℕ
delayed_key n = 7 ∷ little 8 n

-- by owner and key
abbrev pub datum_key : List ℕ × List ℕ → List ℕ
datum_key k = column_key 9 k.0 k.1

-- what a column's keys of an owner begin with: the column, the id and a comma
abbrev pub owner_prefix : ℕ → List ℕ → List ℕ
owner_prefix column id = column_key column id []

-- what the keys of all that an account owns begin with, but for the account and its code, which have one key each
abbrev pub owner_prefixes : List ℕ → List (List ℕ)
owner_prefixes id =
    (2 ∷ (id ++ 2 ∷ [])) ∷ owner_prefix 3 id ∷ owner_prefix 4 id ∷ owner_prefix 5 id ∷ owner_prefix 6 id
    ∷ owner_prefix 9 id ∷ []
