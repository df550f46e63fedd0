-- The bytes of a line as a text (UTF-8, RFC 3629), where people can read them as one, as a JSON member (RFC 8259). This
-- project's own.
use Rattle.std.specs.Prelude.{ℕ, List, [], ◌∷◌, ◌++◌, Bool, cond, ◌&&◌, ◌||◌, ◌==◌, not, nat_le, Result, Ok, Err, codes}
use Rattle.std.specs.List.{list_all}
use Rattle.std.specs.Str.{is_utf8}
use Rattle.hex.specs.Hex.{decode_of}
use Rattle.hex.specs.declared.error.FromHexError.{FromHexError}
use Rattle.json.specs.Print.{quoted}

-- of the control characters of ASCII a tab, a line feed and a carriage return alone
abbrev pub is_printed : ℕ → Bool
is_printed b = (nat_le 32 b && not (b == 127)) || ((b == 9) || ((b == 10) || (b == 13)))

abbrev pub is_text : List ℕ → Bool
is_text bytes = is_utf8 bytes && list_all is_printed bytes

-- a comma and the member `text`, with the escapes of JSON
abbrev pub text_member : List ℕ → List ℕ
text_member text = 44 ∷ 34 ∷ codes "text" ++ 34 ∷ 58 ∷ quoted text

abbrev pub text_beside : Result (List ℕ) FromHexError → List ℕ
text_beside (Ok bytes) = cond (is_text bytes) (text_member bytes) []
text_beside (Err fault) = []

-- what stands beside bytes in hexadecimal: their text, where they are one; a dash has none
abbrev pub beside_bytes : List ℕ → List ℕ
beside_bytes word = text_beside (decode_of word)
