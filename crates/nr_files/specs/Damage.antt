-- What is wrong with the bytes of a file that can't be read, in words: which file it is instead, where it ends too
-- early or goes on, or what its first faulty field isn't. This project's own.
use Rattle.std.specs.Prelude.{ℕ, zero, suc, ◌-◌, ◌==◌, List, [], ◌++◌, Bool, cond, length, take, Option, Some, None}
use Rattle.std.specs.Prelude.{unwrap_or, Result, Ok, Err, is_ok, nat_lt, slice_get, codes, decimal}
use Rattle.std.specs.List.{starts_with}
use Rattle.nr_blocks.specs.Files.{genesis_at}
use Rattle.nr_blocks.specs.GenesisFiles.{entry_at}
use Rattle.nr_blocks.specs.declared.genesis_entry.GenesisEntry.{GenesisEntry}
use Rattle.nr_blocks.specs.declared.genesis_file.GenesisFile.{GenesisFile}
use Rattle.nr_bytes.specs.Reading.{Input, ◌>>=◌}
use Rattle.nr_gathered.specs.Files.{gathered_in}
use Rattle.nr_layout.specs.Reading.{layout_at}
use Rattle.nr_parts.specs.Files.{part_in}
use Rattle.nr_records.specs.Reading.{Read, all_of, nat_at, raw_at}
use Rattle.nr_records.specs.declared.fault.RecordFault.{RecordFault}
use Rattle.nr_records.specs.declared.fault.RecordFault.TheVariants.{Short, BadByte, BadUtf8, BadOrdinal, BadAccountId}
use Rattle.nr_records.specs.declared.fault.RecordFault.TheVariants.{Stake, TooManyBoundaries, BoundaryOrder, Memory}
use Rattle.nr_files.specs.Versions.{blocks_read}

-- ---- which file begins so
unfoldable pub begun : List ℕ → Option (List ℕ)
begun bytes =
    cond (starts_with ◌==◌ bytes (codes "NRG1")) (Some (codes "the file begins with NRG1: it is a genesis file"))
    (cond (starts_with ◌==◌ bytes (codes "NRB1")) (Some (codes "the file begins with NRB1: it is a blocks file"))
    (cond (starts_with ◌==◌ bytes (codes "NRB2")) (Some (codes "the file begins with NRB2: it is a blocks file"))
    (cond (starts_with ◌==◌ bytes (codes "NRB3")) (Some (codes "the file begins with NRB3: it is a blocks file"))
    (cond (starts_with ◌==◌ bytes (codes "NRP1")) (Some (codes "the file begins with NRP1: it is a part of a state"))
    (cond (starts_with ◌==◌ bytes (codes "NRS1")) (Some (codes "the file begins with NRS1: it is a gathered chunk"))
    None)))))

-- a line, unless the file begins as one of another kind
abbrev pub or_begun : List ℕ → List ℕ → List ℕ
or_begun bytes line = unwrap_or (begun bytes) line

-- ---- a place, in bytes from 0
abbrev pub placed : List ℕ → ℕ → List ℕ → List ℕ
placed before at behind = before ++ (decimal at ++ behind)

abbrev pub at_line : ℕ → List ℕ
at_line at = placed (codes "the field at byte ") at (codes " can't be read")

abbrev pub ended_line : ℕ → List ℕ
ended_line at = placed (codes "the file ends inside the field at byte ") at []

abbrev pub stake_line : ℕ → List ℕ
stake_line at = placed (codes "the action at byte ") at (codes " is one of staking")

-- so many bytes behind the last field
abbrev pub rest_line : ℕ → ℕ → List ℕ
rest_line at count =
    cond (count == 1) (placed (codes "1 byte stands after the last field, at byte ") at [])
    (decimal count ++ placed (codes " bytes stand after the last field, at byte ") at [])

abbrev pub flag_line : ℕ → ℕ → List ℕ
flag_line at byte = placed (codes "the field at byte ") at (codes " is neither 0 nor 1: " ++ decimal byte)

-- a byte that names none of what may stand there
abbrev pub kind_line : List ℕ → ℕ → Option ℕ → List ℕ
kind_line kinds at None = at_line at
kind_line kinds at (Some byte) =
    placed (codes "the field at byte ") at (codes " is no kind of " ++ (kinds ++ (codes ": " ++ decimal byte)))

-- a wrong ordinal: another word at the front, or none of what may stand there
abbrev pub ordinal_line : List ℕ → List ℕ → List ℕ → ℕ → List ℕ
ordinal_line first kinds bytes at = cond (at == 0) (or_begun bytes first) (kind_line kinds at (slice_get bytes at))

-- a wrong byte: one behind the last field, or one that is neither 0 nor 1
abbrev pub byte_line : Bool → List ℕ → ℕ → ℕ → List ℕ
byte_line whole bytes at byte = cond whole (rest_line at (length bytes - at)) (flag_line at byte)

-- ---- records: the line of another word at the front, what may stand at a wrong ordinal, and whether the bytes
-- before the fault are a whole file
unfoldable pub field_line : List ℕ → List ℕ → Bool → List ℕ → RecordFault → List ℕ
field_line first kinds whole bytes (Short at) = ended_line at
field_line first kinds whole bytes (BadByte at byte) = byte_line whole bytes at byte
field_line first kinds whole bytes (BadUtf8 at) = placed (codes "the text at byte ") at (codes " isn't UTF-8")
field_line first kinds whole bytes (BadOrdinal at) = ordinal_line first kinds bytes at
field_line first kinds whole bytes (BadAccountId at) = placed (codes "the text at byte ") at (codes " is no account id")
field_line first kinds whole bytes (Stake at) = stake_line at
field_line first kinds whole bytes (TooManyBoundaries at) =
    placed (codes "the boundaries at byte ") at (codes " are more than 15")
field_line first kinds whole bytes (BoundaryOrder at) =
    placed (codes "the boundary at byte ") at (codes " isn't above the one before it")
field_line first kinds whole bytes Memory = []

abbrev pub place_of : RecordFault → ℕ
place_of (Short at) = at
place_of (BadByte at byte) = at
place_of (BadUtf8 at) = at
place_of (BadOrdinal at) = at
place_of (BadAccountId at) = at
place_of (Stake at) = at
place_of (TooManyBoundaries at) = at
place_of (BoundaryOrder at) = at
place_of Memory = 0

-- ---- blocks
abbrev pub is_blocks : List ℕ → Bool
is_blocks bytes = is_ok (blocks_read bytes)

abbrev pub blocks_line : List ℕ → RecordFault → List ℕ
blocks_line bytes fault =
    field_line (codes "the file begins with none of NRB1, NRB2 and NRB3") (codes "action, key or permission")
    (is_blocks (take (place_of fault) bytes)) bytes fault

-- ---- a genesis
abbrev pub is_genesis : List ℕ → Bool
is_genesis bytes = is_ok (all_of genesis_at bytes)

-- what is left behind an entry that is read
unfoldable pub entry_rest : Read GenesisEntry → Input → Input
entry_rest (Ok read) s = read.1
entry_rest (Err fault) s = s

-- where the reading of so many entries stops
unfoldable pub stop_of : ℕ → Input → ℕ
stop_of zero s = s.at
stop_of (suc n) s = cond (is_ok (entry_at s)) (stop_of n (entry_rest (entry_at s) s)) s.at

-- the count of the entries, and what stands behind it
unfoldable pub entries_in : Input → Read ℕ
entries_in s = do
  word ← raw_at 4 s
  boundaries ← layout_at word.1
  nat_at 4 boundaries.1

unfoldable pub stop_by : Read ℕ → ℕ
stop_by (Ok read) = stop_of read.0 read.1
stop_by (Err fault) = 0

-- the place of the first entry that can't be read
abbrev pub entry_place : List ℕ → ℕ
entry_place bytes = stop_by (entries_in (record { left = bytes; at = 0 }))

-- what may stand at an ordinal of a genesis
abbrev pub genesis_kinds : List ℕ → ℕ → List ℕ
genesis_kinds bytes at = cond (at == entry_place bytes) (codes "entry") (codes "key or permission")

abbrev pub genesis_field : List ℕ → RecordFault → List ℕ
genesis_field bytes fault =
    field_line (codes "the file doesn't begin with NRG1") (genesis_kinds bytes (place_of fault))
    (is_genesis (take (place_of fault) bytes)) bytes fault

unfoldable pub genesis_by : List ℕ → ℕ → Result GenesisFile RecordFault → List ℕ
genesis_by bytes at (Ok file) = at_line at
genesis_by bytes at (Err fault) = genesis_field bytes fault

abbrev pub genesis_damage : List ℕ → ℕ → List ℕ
genesis_damage bytes at = genesis_by bytes at (all_of genesis_at bytes)

-- ---- files of which the place of the fault alone is known
abbrev pub word_line : List ℕ → List ℕ → List ℕ
word_line first bytes = cond (nat_lt (length bytes) 4) (ended_line 0) (or_begun bytes first)

unfoldable pub place_line : List ℕ → Bool → List ℕ → ℕ → List ℕ → List ℕ
place_line first whole bytes at line =
    cond whole (rest_line at (length bytes - at)) (cond (at == 0) (word_line first bytes) line)

abbrev pub is_part : List ℕ → Bool
is_part bytes = is_ok (part_in bytes)

-- a part has no field but numbers and bytes, so it ends too early where it doesn't go on
abbrev pub part_damage : List ℕ → ℕ → List ℕ
part_damage bytes at =
    place_line (codes "the file doesn't begin with NRP1") (is_part (take at bytes)) bytes at (ended_line at)

abbrev pub is_gathered : List ℕ → Bool
is_gathered bytes = is_ok (gathered_in bytes)

abbrev pub gathered_damage : List ℕ → ℕ → List ℕ
gathered_damage bytes at =
    place_line (codes "the file doesn't begin with NRS1") (is_gathered (take at bytes)) bytes at (at_line at)
