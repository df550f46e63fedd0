-- WebAssembly Core 1.0, "Binary Format", "Conventions" and "Values": each field read from the front of some bytes, or
-- the first fault.
use Rattle.std.specs.Prelude.{ℕ, ◌+◌, List, [], ◌∷◌, Bool, false, take, length, Result, Ok, Err, nat_lt, nat_le, ◌==◌}
use Rattle.std.specs.Prelude.{if◌then◌else◌}
use Rattle.std.specs.Str.{is_utf8}
use Rattle.nr_bytes.specs.Answers.{GivesAs, GivesRead}
use Rattle.nr_bytes.specs.Fields as fields
use Rattle.nr_bytes.specs.Reading.{Input, past, ◌>>=◌}
use Rattle.nr_wasmbin.specs.Leb.{Found, unsigned, signed}
use Rattle.nr_wasmbin.specs.declared.leb.LebFault.{LebFault}
use Rattle.nr_wasmbin.specs.declared.leb.LebFault.TheVariants as leb
use Rattle.nr_wasmbin.specs.declared.fault.DecodeFault.{DecodeFault}
use Rattle.nr_wasmbin.specs.declared.fault.DecodeFault.TheVariants as fault

-- a value and what is left behind it, or the first fault
abbrev pub Read : Type 0 → Type 0
Read X = fields.Read DecodeFault X

-- A call gave what reading gives, unless memory ran out.
abbrev pub Gives : {X : Type 0} → Result X DecodeFault → Input → Read X → Type 0
Gives result rest = GivesRead fault.Memory result rest

-- the same of a call that leaves no rest
abbrev pub GivesAll : {X : Type 0} → Result X DecodeFault → Result X DecodeFault → Type 0
GivesAll result answer = GivesAs fault.Memory (λ x. x) result answer

-- one byte
abbrev pub byte_of : List ℕ → ℕ → Read ℕ
byte_of [] at = Err (fault.Short at)
byte_of (b ∷ bs) at = Ok (b, record { left = bs; at = at + 1 })

abbrev pub byte_at : Input → Read ℕ
byte_at s = byte_of s.left s.at

-- the next byte is this one
abbrev pub begins : ℕ → List ℕ → Bool
begins id [] = false
begins id (b ∷ bs) = b == id

abbrev pub leb_fault : ℕ → LebFault → DecodeFault
leb_fault at leb.Short = fault.Short at
leb_fault at leb.Leb = fault.Leb at

abbrev pub number_of : Input → Found → Read ℕ
number_of s (Ok r) = Ok (r.0, past r.1 s)
number_of s (Err e) = Err (leb_fault s.at e)

abbrev pub u32_at : Input → Read ℕ
u32_at s = number_of s (unsigned 32 s.left)

abbrev pub s32_at : Input → Read ℕ
s32_at s = number_of s (signed 32 s.left)

abbrev pub s64_at : Input → Read ℕ
s64_at s = number_of s (signed 64 s.left)

-- how many items a list has, at most 50,000
abbrev pub limited : ℕ → ℕ × Input → Read ℕ
limited at n = if nat_le n.0 50000 then Ok n else Err (fault.TooMany at)

abbrev pub count_at : Input → Read ℕ
count_at s = u32_at s >>= limited s.at

-- vec: a count, and that many items
unfoldable pub list_at : {X : Type 0} → (Input → Read X) → Input → Read (List X)
list_at item s = do
  n ← count_at s
  fields.items_at item n.0 n.1

-- so many bytes, and too few are a fault at this place
abbrev pub taken : ℕ → ℕ × Input → Read (List ℕ)
taken at n = if nat_lt (length n.1.left) n.0 then Err (fault.Short at) else Ok (take n.0 n.1.left, past n.0 n.1)

-- vec(byte): a count, and that many bytes; too few of them are a fault at the count
abbrev pub bytes_at : Input → Read (List ℕ)
bytes_at s = u32_at s >>= taken s.at

-- name: bytes that are UTF-8
abbrev pub name_of : ℕ → List ℕ × Input → Read (List ℕ)
name_of at bytes = if is_utf8 bytes.0 then Ok bytes else Err (fault.Utf8 at)

abbrev pub name_at : Input → Read (List ℕ)
name_at s = bytes_at s >>= name_of s.at

-- so many bytes as an input of their own, and what is left behind them
abbrev pub contents_at : ℕ → Input → Read Input
contents_at size s =
    if nat_lt (length s.left) size then Err (fault.Short s.at)
    else Ok (record { left = take size s.left; at = s.at }, past size s)

-- nothing is left, or the first byte that is left is at fault
abbrev pub filled_of : List ℕ → ℕ → Result (Unit {0}) DecodeFault
filled_of [] at = Ok tt
filled_of (b ∷ bs) at = Err (fault.Section at)

abbrev pub filled : Input → Result (Unit {0}) DecodeFault
filled s = filled_of s.left s.at

-- a size in bytes
abbrev pub sized_at : Input → Read Input
sized_at s = u32_at s >>= λ size. contents_at size.0 size.1

-- what fills its contents
abbrev pub whole : {X : Type 0} → (Input → Read X) → Input → Result X DecodeFault
whole item s = do
  x ← item s
  end ← filled x.1
  Ok x.0
