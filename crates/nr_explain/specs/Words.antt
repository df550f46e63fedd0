-- What the words of a line may be. This project's own.
use Rattle.std.specs.Prelude.{ℕ, ◌%◌, ◌&&◌, ◌||◌, ◌==◌, List, length, Bool, not, nat_le, codes}
use Rattle.std.specs.List.{list_all}
use Rattle.std.specs.Str.{bytes_eq}
pub use Rattle.nr_words.specs.Forms.{is_digest, is_hex_digit}
pub use Rattle.nr_words.specs.Numbers.{number_below}
pub use Rattle.nr_words.specs.Pieces.{pieces}

-- a name in visible characters of ASCII, without quotes; it may be empty
abbrev pub is_name_byte : ℕ → Bool
is_name_byte b = nat_le 33 b && (nat_le b 126 && not (b == 34))

abbrev pub is_name : List ℕ → Bool
is_name word = list_all is_name_byte word

-- bytes in hexadecimal, and a dash for none
abbrev pub is_dash : List ℕ → Bool
is_dash word = bytes_eq word (codes "-")

abbrev pub are_bytes : List ℕ → Bool
are_bytes word = is_dash word || (not (length word == 0) && ((length word % 2 == 0) && list_all is_hex_digit word))
