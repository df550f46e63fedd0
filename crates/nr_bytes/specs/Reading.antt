-- Borsh 1.0, "Integers", "Bool", "Fixed sized arrays", "Dynamic sized array" and "String": each field read from the
-- front of some bytes, or the fault where no front of them spells one.
use Rattle.std.specs.Prelude.{◌≡◌, ℕ, zero, suc, ◌+◌, ◌-◌, Option, Some, None, List, length, take, drop, Bool, true}
use Rattle.std.specs.Prelude.{false, Result, Ok, Err, nat_lt, ◌==◌, if◌then◌else◌, slice_index}
use Rattle.std.specs.Str.{is_utf8}
use Rattle.nr_bytes.specs.Numbers.{number}
use Rattle.nr_bytes.specs.declared.fault.BytesFault.{BytesFault}
use Rattle.nr_bytes.specs.declared.fault.BytesFault.TheVariants.{Short, BadByte, BadUtf8}

-- what is left to read, and the place of its first byte
pub record Input : Type 0 where
  pub left : List ℕ
  pub at : ℕ

-- what is left behind the first k bytes
abbrev pub past : ℕ → Input → Input
past k s = record { left = drop k s.left; at = s.at + k }

-- the next field, unless this one was refused
infixl 10 ◌>>=◌
abbrev pub ◌>>=◌ : {A B F : Type 0} → Result A F → (A → Result B F) → Result B F
(Ok x) >>= f = f x
(Err e) >>= f = Err e

-- A call that takes no memory gave what reading gives; after a refusal the reader stands where it stood.
abbrev pub Reads : {X F : Type 0} → Result X F → Input → Input → Result (X × Input) F → Type 0
Reads (Ok x) old new read = read ≡ Ok (x, new)
Reads (Err e) old new read = (read ≡ Err e) × (new ≡ old)

-- fixed sized array of bytes: k bytes without a count
abbrev pub fixed_at : ℕ → Input → Result (List ℕ × Input) BytesFault
fixed_at k s = if nat_lt (length s.left) k then Err (Short s.at) else Ok (take k s.left, past k s)

-- integer: a number of k bytes
abbrev pub number_at : ℕ → Input → Result (ℕ × Input) BytesFault
number_at k s = do
  bytes ← fixed_at k s
  Ok (number bytes.0, bytes.1)

-- bool: one byte, 1 for true and 0 for false, and no other byte
abbrev pub flag_of : ℕ → ℕ → Input → Result (Bool × Input) BytesFault
flag_of at zero rest = Ok (false, rest)
flag_of at (suc zero) rest = Ok (true, rest)
flag_of at (suc (suc b)) rest = Err (BadByte at (suc (suc b)))

-- too few bytes come before a wrong byte
unfoldable pub flag_at : Input → Result (Bool × Input) BytesFault
flag_at s = do
  n ← number_at 1 s
  flag_of s.at n.0 n.1

-- the bytes behind the count of 4 bytes at the front, as many as it says
unfoldable pub counted : List ℕ → Option (List ℕ)
counted bytes =
    if nat_lt (length bytes) 4 then None else (if nat_lt (length bytes - 4) (number (take 4 bytes)) then None
    else Some (take (number (take 4 bytes)) (drop 4 bytes)))

-- those bytes as a field, and too few bytes are a fault at the count
abbrev pub counted_of : Input → Option (List ℕ) → Result (List ℕ × Input) BytesFault
counted_of s None = Err (Short s.at)
counted_of s (Some bytes) = Ok (bytes, past (4 + length bytes) s)

-- dynamic sized array of bytes: the count as a u32, and that many bytes
abbrev pub bytes_at : Input → Result (List ℕ × Input) BytesFault
bytes_at s = counted_of s (counted s.left)

-- string: the count of its UTF-8 bytes as a u32, and these bytes
unfoldable pub text_at : Input → Result (List ℕ × Input) BytesFault
text_at s = do
  bytes ← bytes_at s
  if is_utf8 bytes.0 then Ok bytes else Err (BadUtf8 s.at)

-- the end: a spelling leaves no byte
abbrev pub end_at : Input → Result (Unit {0}) BytesFault
end_at s = if length s.left == 0 then Ok tt else Err (BadByte s.at (slice_index s.left 0))
