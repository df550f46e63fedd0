-- WebAssembly Core 1.0, "Memory Instances" and "Memory Instructions": a guest's memory as a list of bytes.
use Rattle.std.specs.Prelude.{◌≡◌, ℕ, ◌+◌, ◌*◌, ◌/◌, ◌%◌, ◌^◌, ◌≤◌, ◌==◌, ◌||◌, nat_le, if◌then◌else◌, IsTrue, List}
use Rattle.std.specs.Prelude.{◌++◌, length, take, drop, replicate, Option, Some, None, Result, Ok, Err}
use Rattle.std.specs.Option.{option_map}
use Rattle.nr_bytes.specs.Numbers.{little, number}
use Rattle.nr_wasmtypes.specs.declared.instr.Load.{Load}
use Rattle.nr_wasmtypes.specs.declared.instr.Store.{Store}
use Rattle.nr_wasmtypes.specs.Tables.{align_of_load, align_of_store}
use Rattle.nr_wasmmem.specs.declared.fault.OutOfBounds.{OutOfBounds}

-- the bytes, and how many pages there may be
pub record MemoryView : Type 0 where
  pub bytes : List ℕ
  pub most : ℕ

-- 64 KiB
abbrev pub page : ℕ
page = 65536

-- how many pages the bytes are
abbrev pub pages_of : List ℕ → ℕ
pages_of bytes = length bytes / page

-- whole pages, no more than there may be, and of those no more than any guest has
pub record IsMemory (m : MemoryView) : Type 0 where
  pub whole : length m.bytes % page ≡ 0
  pub within : length m.bytes ≤ page * m.most
  pub small : m.most ≤ 2048

-- so many pages of zeros
abbrev pub zeros : ℕ → List ℕ
zeros pages = replicate (page * pages) 0

-- ---- ranges

-- the bytes of a range, where it is inside; an empty one may stand at the end
unfoldable pub range_in : List ℕ → ℕ → ℕ → Option (List ℕ)
range_in bytes at count = if nat_le (at + count) (length bytes) then Some (take count (drop at bytes)) else None

-- the bytes with a part put over them, where that is inside
unfoldable pub put_over : List ℕ → ℕ → List ℕ → Option (List ℕ)
put_over bytes at part =
    if nat_le (at + length part) (length bytes) then Some (take at bytes ++ part ++ drop (at + length part) bytes)
    else None

-- the number that stands in so many bytes, the lowest byte first
abbrev pub number_in : List ℕ → ℕ → ℕ → Option ℕ
number_in bytes at width = option_map number (range_in bytes at width)

-- the lowest bytes of a number, written
abbrev pub number_over : List ℕ → ℕ → ℕ → ℕ → Option (List ℕ)
number_over bytes at width value = put_over bytes at (little width value)

-- one more time some pages of zeros, where there may be so many
abbrev pub grown : MemoryView → ℕ → Option MemoryView
grown m pages =
    if nat_le (pages_of m.bytes + pages) m.most then Some (record m { bytes = m.bytes ++ zeros pages }) else None

-- ---- how many bytes an access has

abbrev pub width_of_load : Load → ℕ
width_of_load what = 2 ^ align_of_load what

abbrev pub width_of_store : Store → ℕ
width_of_store what = 2 ^ align_of_store what

abbrev pub IsWidth : ℕ → Type 0
IsWidth width = IsTrue (width == 1 || width == 2 || width == 4 || width == 8)

-- ---- what calls answer

abbrev pub Finds : {X : Type 0} → Result X OutOfBounds → Option X → Type 0
Finds (Ok x) found = found ≡ Some x
Finds (Err e) found = found ≡ None

-- a write; one that isn't inside leaves all as it was
abbrev pub Puts : Result (Unit {0}) OutOfBounds → MemoryView → MemoryView → Option (List ℕ) → Type 0
Puts (Ok u) old new came = (came ≡ Some new.bytes) × (new.most ≡ old.most)
Puts (Err e) old new came = (came ≡ None) × (new ≡ old)

-- a growth answers how many pages there were; one that is refused leaves all as it was, and so does want of memory
abbrev pub Grows : {E : Type 0} → Result (Option ℕ) E → MemoryView → MemoryView → ℕ → Type 0
Grows (Ok (Some before)) old new pages = (before ≡ pages_of old.bytes) × (grown old pages ≡ Some new)
Grows (Ok None) old new pages = (grown old pages ≡ None) × (new ≡ old)
Grows (Err e) old new pages = new ≡ old

-- nothing but the bytes' values has changed
abbrev pub KeepsSize : MemoryView → MemoryView → Type 0
KeepsSize old new = (length new.bytes ≡ length old.bytes) × (new.most ≡ old.most)
