-- The arguments and the tokens of a call, as words. This project's own.
use Rattle.std.specs.Prelude.{ℕ, ◌^◌, List, length, take, drop, Bool, Option, Some, None, Result, Ok, Err}
use Rattle.std.specs.Prelude.{codes, if◌then◌else◌}
use Rattle.std.specs.Str.{bytes_eq}
use Rattle.hex.specs.Hex.{decode_of}
use Rattle.hex.specs.declared.error.FromHexError.{FromHexError}
use Rattle.nr_words.specs.Numbers.{number_below}

-- ---- arguments
abbrev pub mark : List ℕ
mark = codes "hex:"

abbrev pub is_marked : List ℕ → Bool
is_marked word = bytes_eq (take (length mark) word) mark

abbrev pub without_fault : Result (List ℕ) FromHexError → Option (List ℕ)
without_fault (Ok bytes) = Some bytes
without_fault (Err e) = None

-- behind `hex:` the bytes that pairs of digits of base 16 spell; any other word is its own bytes
unfoldable pub args_in : List ℕ → Option (List ℕ)
args_in word = if is_marked word then without_fault (decode_of (drop (length mark) word)) else Some word

-- ---- tokens: a number in decimal digits without leading zeros
unfoldable pub deposit_in : List ℕ → Option ℕ
deposit_in = number_below (2 ^ 128)
