-- Borsh 1.0, integers, arrays, strings, structs and enums: fields are read from left to right, and the first one that
-- can't be read gives the fault. A type that is made of fields has faults of its own; lift makes one of a field's.
use Rattle.std.specs.Prelude.{ℕ, zero, suc, List, [], ◌∷◌, Bool, cond, Result, Ok, Err}
use Rattle.nr_bytes.specs.declared.fault.BytesFault.{BytesFault}
use Rattle.nr_bytes.specs.Reading.{Input, ◌>>=◌, fixed_at, number_at, bytes_at, text_at, end_at}

-- a value and what is left behind it, or the first fault
abbrev pub Read : Type 0 → Type 0 → Type 0
Read F X = Result (X × Input) F

-- what the reading of a field gives, with the faults of what it is part of
abbrev pub lifted : {F A : Type 0} → (BytesFault → F) → Result A BytesFault → Result A F
lifted lift (Ok x) = Ok x
lifted lift (Err e) = Err (lift e)

-- a number of k bytes
abbrev pub nat_at : {F : Type 0} → (BytesFault → F) → ℕ → Input → Read F ℕ
nat_at lift k s = lifted lift (number_at k s)

-- k bytes without a count
abbrev pub raw_at : {F : Type 0} → (BytesFault → F) → ℕ → Input → Read F (List ℕ)
raw_at lift k s = lifted lift (fixed_at k s)

-- a count, and that many bytes
abbrev pub blob_at : {F : Type 0} → (BytesFault → F) → Input → Read F (List ℕ)
blob_at lift s = lifted lift (bytes_at s)

-- a count, and a text of that many bytes
abbrev pub string_at : {F : Type 0} → (BytesFault → F) → Input → Read F (List ℕ)
string_at lift s = lifted lift (text_at s)

-- a value that is made of another
abbrev pub mapped : {F X Y : Type 0} → (X → Y) → (Input → Read F X) → Input → Read F Y
mapped to r s = do
  a ← r s
  Ok (to a.0, a.1)

-- a value that passes the test, or the fault at its first byte
abbrev pub tested : {F X : Type 0} → (X → Bool) → (ℕ → F) → (Input → Read F X) → Input → Read F X
tested test fault r s = do
  a ← r s
  cond (test a.0) (Ok a) (Err (fault s.at))

-- struct: one field and then another
abbrev pub pair : {F X Y : Type 0} → (Input → Read F X) → (Input → Read F Y) → Input → Read F (X × Y)
pair first second s = do
  a ← first s
  b ← second a.1
  Ok ((a.0, b.0), b.1)

-- enum: the ordinal, one byte, and then what the body reads for it; the body gets the place of that byte too
abbrev pub choice : {F X : Type 0} → (BytesFault → F) → (ℕ → ℕ → Input → Read F X) → Input → Read F X
choice lift body s = do
  ordinal ← nat_at lift 1 s
  body s.at ordinal.0 ordinal.1

-- as many items as the number says
unfoldable pub items_at : {F X : Type 0} → (Input → Read F X) → ℕ → Input → Read F (List X)
items_at item zero s = Ok ([], s)
items_at item (suc n) s = do
  first ← item s
  others ← items_at item n first.1
  Ok (first.0 ∷ others.0, others.1)

-- dynamic sized array: the count as a u32, and that many items
unfoldable pub list_at : {F X : Type 0} → (BytesFault → F) → (Input → Read F X) → Input → Read F (List X)
list_at lift item s = do
  n ← nat_at lift 4 s
  items_at item n.0 n.1

-- all of the bytes
unfoldable pub all_of : {F X : Type 0} → (BytesFault → F) → (Input → Read F X) → List ℕ → Result X F
all_of lift reading bytes = do
  v ← reading (record { left = bytes; at = 0 })
  end ← lifted lift (end_at v.1)
  Ok v.0
