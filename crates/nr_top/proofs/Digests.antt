-- A word of 64 digits spells a root.
use Rattle.std.proofs.Common.{◌≡◌, ℕ, ◌-◌, ◌*◌, ◌==◌, Bool, true, false, ◌&&◌, ◌||◌, List, length, Some, None, Result, is_some, refl, ◌∙◌, arith}
use Rattle.std.specs.Prelude.{if◌then◌else◌, nat_le, IsOk}
use Rattle.std.specs.List.{AllPass, list_all}
use Rattle.std.proofs.lemmas.Bool.{and_parts, eqb-true}
use Rattle.std.proofs.lemmas.List.Elements.{All-weaker}
use Rattle.std.proofs.lemmas.List.Sums.{AllPass-from_list_all}
use Rattle.hex.specs.Hex.{decode_of, decode_sized, is_hex_digit as is_digit_of_any_case}
use Rattle.hex.specs.declared.error.FromHexError.{FromHexError}
use Rattle.hex.proofs.HexLemmas.{IsOk-decode_sized, decode_sized-twice}
use Rattle.nr_words.specs.Forms.{is_digest, is_hex_digit}

digit_reads : (b : ℕ) → is_hex_digit b ≡ true → is_digit_of_any_case b ≡ true
digit_reads b e = by (nat_le 65 b && nat_le b 70) (nat_le 97 b && nat_le b 102) (nat_le 48 b && nat_le b 57) e
  where
    by : (upper lower ten : Bool) → (ten || lower) ≡ true → is_some (if upper then Some (b - 55) else if lower then Some (b - 87) else if ten then Some (b - 48) else None) ≡ true
    by true lower ten e = refl
    by false true ten e = refl
    by false false true e = refl
    by false false false e = absurd cc

digits_read : (word : List ℕ) → list_all is_hex_digit word ≡ true → AllPass is_digit_of_any_case word
digits_read word e = All-weaker (λ b. is_hex_digit b ≡ true) (λ b. is_digit_of_any_case b ≡ true) digit_reads word (AllPass-from_list_all is_hex_digit word e)

pub digest_reads : (word : List ℕ) (r : Result (List ℕ) FromHexError) → is_digest word ≡ true → r ≡ decode_sized word 32 → IsOk r × (r ≡ decode_of word)
digest_reads word r is e =
    let parts = and_parts (length word == 64) (list_all is_hex_digit word) is in
    let long : length word ≡ 64 = eqb-true (length word) 64 parts.0 in
    let sized : length word ≡ 2 * 32 = omega (arith, long) in
    (rw e ((IsOk-decode_sized word 32).1 (sized, digits_read word parts.1)), e ∙ decode_sized-twice word 32 sized)
