-- The file of a part: a word, and then fields by Borsh 1.0 (structs, dynamic arrays). The word is this project's own.
use Rattle.std.specs.Prelude.{ℕ, ◌<◌, ◌^◌, List, ◌++◌, codes, Result}
use Rattle.std.specs.Str.{bytes_eq}
use Rattle.nr_bytes.specs.declared.fault.BytesFault.{BytesFault}
use Rattle.nr_bytes.specs.declared.fault.BytesFault.TheVariants as unread
use Rattle.nr_bytes.specs.Numbers.{little}
use Rattle.nr_bytes.specs.Reading.{Input}
use Rattle.nr_bytes.specs.Fields.{Read, nat_at, raw_at, blob_at, mapped, tested, pair, list_at, all_of}
use Rattle.nr_bytes.specs.Spelling.{list, IsCounted, FitsList}
use Rattle.nr_bytes.specs.Writing.{counted_bytes}
use Rattle.nr_ids.specs.declared.key.Hash32.{Hash32}
use Rattle.nr_ids.specs.Keys.{hash_of_bytes, IsHash}
use Rattle.nr_columns.specs.declared.entry.Entry.{Entry}
use Rattle.nr_parts.specs.declared.part.Part.{Part}
use Rattle.nr_parts.specs.declared.fault.PartFault.{PartFault}
use Rattle.nr_parts.specs.declared.fault.PartFault.TheVariants.{Spelling, Memory}

-- a field that can't be read
abbrev pub part_fault : BytesFault → PartFault
part_fault (unread.Short at) = Spelling at
part_fault (unread.BadByte at byte) = Spelling at
part_fault (unread.BadUtf8 at) = Spelling at
part_fault unread.Memory = Memory

abbrev pub magic : List ℕ
magic = codes "NRP1"

abbrev pub magic_at : Input → Read PartFault (List ℕ)
magic_at = tested (bytes_eq magic) Spelling (raw_at part_fault 4)

abbrev pub hash_at : Input → Read PartFault Hash32
hash_at = mapped hash_of_bytes (raw_at part_fault 32)

abbrev pub entry_of : List ℕ × List ℕ → Entry
entry_of e = record { key = e.0; value = e.1 }

abbrev pub text_at : Input → Read PartFault (List ℕ)
text_at = blob_at part_fault

abbrev pub entry_at : Input → Read PartFault Entry
entry_at = mapped entry_of (pair text_at text_at)

abbrev pub entries_at : Input → Read PartFault (List Entry)
entries_at = list_at part_fault entry_at

abbrev pub texts_at : Input → Read PartFault (List (List ℕ))
texts_at = list_at part_fault text_at

-- the fields behind the word
abbrev pub Parted : Type 0
Parted = Hash32 × (ℕ × (ℕ × (List Entry × List (List ℕ))))

abbrev pub part_of_fields : Parted → Part
part_of_fields f = record { root = f.0; count = f.1.0; number = f.1.1.0; entries = f.1.1.1.0; texts = f.1.1.1.1 }

abbrev pub fields_at : Input → Read PartFault Parted
fields_at = pair hash_at (pair (nat_at part_fault 4) (pair (nat_at part_fault 4) (pair entries_at texts_at)))

abbrev pub part_at : Input → Read PartFault Part
part_at = mapped (λ f. part_of_fields f.1) (pair magic_at fields_at)

-- the part of a file, or the fault at the first field that can't be read
unfoldable pub part_in : List ℕ → Result Part PartFault
part_in bytes = all_of part_fault part_at bytes

abbrev pub entry_bytes : Entry → List ℕ
entry_bytes e = counted_bytes e.key ++ counted_bytes e.value

-- the file of a part
abbrev pub part_bytes : Part → List ℕ
part_bytes p =
    magic ++ p.root.0 ++ little 4 p.count ++ little 4 p.number ++ list entry_bytes p.entries
    ++ list counted_bytes p.texts

-- ---- the parts that have a file: a list, a key, a value and a text are counted in four bytes
abbrev pub IsEntry : Entry → Type 0
IsEntry e = IsCounted e.key × IsCounted e.value

abbrev pub IsFiled : Part → Type 0
IsFiled p =
    IsHash p.root × ((p.count < 256 ^ 4) × ((p.number < 256 ^ 4)
    × (FitsList IsEntry p.entries × FitsList IsCounted p.texts)))
