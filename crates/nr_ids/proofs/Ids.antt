-- What the grammar says of an id: its length, and each of its bytes.
use Rattle.std.proofs.Common.{◌≡◌, ◌≤◌, ◌<◌, ◌||◌, ℕ, Bool, true, false, not, ltb, nat_lt, List, length, Option, Some, None, cond, ◌==◌, ◌≢◌, refl, sym, ap, inl, inr, ◌∙◌, arith}
use Rattle.std.proofs.Math.Bool.{true≢false}
use Rattle.std.specs.Str.{IsAscii, IsUtf8}
use Rattle.std.proofs.lemmas.Str.{IsUtf8-from_ascii}
use Rattle.std.proofs.lemmas.List.{get_or_past}
use Rattle.std.proofs.lemmas.List.Folds.{list_any_none}
use Rattle.std.proofs.lemmas.Bool.{ltb-false}
use Rattle.std.proofs.lemmas.Bool.Decides.{nat_tests, eqb_tells, leb_tells}
use Rattle.std.proofs.lemmas.List.Sums.{prefix_len_passes}
use Rattle.std.specs.List.{All, AllPass, position_or_len, list_any}
use Rattle.nr_ids.specs.declared.fault.IdFault.{IdFault}
use Rattle.nr_ids.specs.declared.fault.IdFault.TheVariants.{Length, Memory}
use Rattle.nr_ids.specs.Grammar.{id_fault, character_fault, separator_fault, first_bad_separator, is_id_byte}

short_enough : (a b : Bool) (rest : Option IdFault) → cond (a || b) (Some Length) rest ≡ None → b ≡ false
short_enough true b rest e = absurd cc
short_enough false true rest e = absurd cc
short_enough false false rest e = refl

pub short_id : (bytes : List ℕ) → id_fault bytes ≡ None → length bytes ≤ 64
unfolding id_fault
short_id bytes e = ltb-false 64 (length bytes) (short_enough (ltb (length bytes) 2) (ltb 64 (length bytes)) _ e)

all_behind : (a t : Bool) (place n : ℕ) (rest : Option IdFault) → t ≡ nat_lt place n → cond a (Some Length) (character_fault (cond t (Some place) None) rest) ≡ None → n ≤ place
all_behind true t place n rest is e = absurd cc
all_behind false true place n rest is e = absurd cc
all_behind false false place n rest is e = grind (arith, nat_tests)

not_not : (b : Bool) → not (not b) ≡ true → b ≡ true
not_not true e = refl
not_not false e = absurd cc

pub id_bytes : (bytes : List ℕ) → id_fault bytes ≡ None → AllPass is_id_byte bytes
unfolding id_fault
id_bytes bytes e k d lt =
    let behind : length bytes ≤ position_or_len (λ b. not (is_id_byte b)) bytes = all_behind (ltb (length bytes) 2 || ltb 64 (length bytes)) _ (position_or_len (λ b. not (is_id_byte b)) bytes) (length bytes) _ refl e in
    not_not _ (prefix_len_passes (λ b. not (not (is_id_byte b))) bytes k d (omega arith))

some_fault : (a : Bool) (p q : Option ℕ) → cond a (Some Length) (character_fault p (separator_fault q)) ≡ Some Memory → ⊥
some_fault true p q e = absurd cc
some_fault false (Some at) q e = absurd cc
some_fault false None (Some at) e = absurd cc
some_fault false None None e = absurd cc

pub never_memory : (bytes : List ℕ) → id_fault bytes ≡ Some Memory → ⊥
unfolding id_fault
never_memory bytes e = some_fault _ _ (first_bad_separator bytes) e

-- a byte that stands in no id, as the comma, 44, stands in none
pub lacks : (b : ℕ) (bytes : List ℕ) → is_id_byte b ≡ false → id_fault bytes ≡ None → All (λ x. x ≢ b) bytes
lacks b bytes out e k d lt same = true≢false (sym (id_bytes bytes e k d lt) ∙ ap is_id_byte same ∙ out)

unequal : (x b : ℕ) → x ≢ b → x == b ≡ false
unequal x b ne = elim (eqb_tells x b) [ inl p ↦ absurd (ne p.1) | inr p ↦ p.0 ]

pub lacks_any : (b : ℕ) (bytes : List ℕ) → is_id_byte b ≡ false → id_fault bytes ≡ None → list_any (λ x. x == b) bytes ≡ false
lacks_any b bytes out e = list_any_none (λ x. x == b) bytes (λ k d lt. unequal _ b (lacks b bytes out e k d lt))

small_byte : (b : ℕ) → is_id_byte b ≡ true → b < 128
small_byte b e = grind (arith, nat_tests)

pub ascii_id : (bytes : List ℕ) → id_fault bytes ≡ None → IsAscii bytes
ascii_id bytes e i = elim (leb_tells (length bytes) i) [ inl p ↦ omega (arith, get_or_past bytes i 0 p.1) | inr p ↦ small_byte _ (id_bytes bytes e i 0 p.1) ]

pub text_id : (bytes : List ℕ) → id_fault bytes ≡ None → IsUtf8 bytes
text_id bytes e = IsUtf8-from_ascii bytes (ascii_id bytes e)
