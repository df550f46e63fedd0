-- Borsh 1.0, integers, arrays, strings and enums: the fields of a record, with the faults of records.
use Rattle.std.specs.Prelude.{ℕ, List, Option, Some, None, Result, Ok, Err}
use Rattle.nr_bytes.specs.Reading.{Input, ◌>>=◌}
use Rattle.nr_bytes.specs.Fields as fields
use Rattle.nr_ids.specs.declared.fault.IdFault.{IdFault}
use Rattle.nr_ids.specs.Grammar.{id_fault}
use Rattle.nr_records.specs.declared.fault.RecordFault.{RecordFault}
use Rattle.nr_records.specs.declared.fault.RecordFault.TheVariants.{BadAccountId}
use Rattle.nr_records.specs.Fault.{record_fault}

-- a value and what is left behind it, or the first fault
abbrev pub Read : Type 0 → Type 0
Read X = Result (X × Input) RecordFault

-- a number of k bytes
abbrev pub nat_at : ℕ → Input → Read ℕ
nat_at = fields.nat_at record_fault

-- k bytes without a count
abbrev pub raw_at : ℕ → Input → Read (List ℕ)
raw_at = fields.raw_at record_fault

-- a count, and that many bytes
abbrev pub blob_at : Input → Read (List ℕ)
blob_at = fields.blob_at record_fault

-- a count, and a text of that many bytes
abbrev pub string_at : Input → Read (List ℕ)
string_at = fields.string_at record_fault

-- an ordinal, and what it says follows
abbrev pub choice : {X : Type 0} → (ℕ → ℕ → Input → Read X) → Input → Read X
choice = fields.choice record_fault

-- a count, and that many items
abbrev pub list_at : {X : Type 0} → (Input → Read X) → Input → Read (List X)
list_at = fields.list_at record_fault

-- all of the bytes
abbrev pub all_of : {X : Type 0} → (Input → Read X) → List ℕ → Result X RecordFault
all_of = fields.all_of record_fault

-- a text that is an account id; any other whole text is refused at its count
abbrev pub id_of : ℕ → Option IdFault → List ℕ × Input → Read (List ℕ)
id_of at None read = Ok read
id_of at (Some fault) read = Err (BadAccountId at)

unfoldable pub account_id_at : Input → Read (List ℕ)
account_id_at s = do
  text ← string_at s
  id_of s.at (id_fault text.0) text
