-- The first form that words fit, found one by one.
use Rattle.std.proofs.Common.{◌≡◌, ℕ, ◌+◌, ◌<◌, ◌≤◌, true, false, cond, List, [], ◌∷◌, length, map, drop, get_or, Option, Some, None, sym, ap, ◌∙◌, arith}
use Rattle.std.proofs.lemmas.List.{drop_more, drop_all}
use Rattle.nr_explain.specs.Words.{pieces}
use Rattle.nr_explain.specs.Forms.{Field, Form, fits, form_of}
use Rattle.nr_words.proofs.Pieces.{some_piece}

next_form : {X : Type 0} (v : X → Form) (xs : List X) (i : ℕ) (d : X) (words : List (List ℕ)) → i < length xs
    → form_of (map v (drop i xs)) words ≡ cond (fits (v (get_or xs i d)) words) (Some (v (get_or xs i d))) (form_of (map v (drop (i + 1) xs)) words)
next_form v xs i d words l = ap (λ ys. form_of (map v ys) words) (drop_more xs i d l)

pub form_skipped : {X : Type 0} (v : X → Form) (xs : List X) (i : ℕ) (d : X) (words : List (List ℕ)) (all : Option Form) → i < length xs → false ≡ fits (v (get_or xs i d)) words
    → form_of (map v (drop i xs)) words ≡ all → form_of (map v (drop (i + 1) xs)) words ≡ all
form_skipped v xs i d words all l failed so_far =
    ap (λ b. cond b (Some (v (get_or xs i d))) (form_of (map v (drop (i + 1) xs)) words)) failed ∙ sym (next_form v xs i d words l) ∙ so_far

pub form_found : {X : Type 0} (v : X → Form) (xs : List X) (i : ℕ) (d : X) (words : List (List ℕ)) (all : Option Form) → i < length xs → true ≡ fits (v (get_or xs i d)) words
    → form_of (map v (drop i xs)) words ≡ all → Some (v (get_or xs i d)) ≡ all
form_found v xs i d words all l fitted so_far =
    ap (λ b. cond b (Some (v (get_or xs i d))) (form_of (map v (drop (i + 1) xs)) words)) fitted ∙ sym (next_form v xs i d words l) ∙ so_far

pub no_form : {X : Type 0} (v : X → Form) (xs : List X) (i : ℕ) (words : List (List ℕ)) (all : Option Form) → length xs ≤ i
    → form_of (map v (drop i xs)) words ≡ all → None ≡ all
no_form v xs i words all l so_far = ap (λ ys. form_of (map v ys) words) (sym (drop_all i xs l)) ∙ so_far

-- a line has at least one word
pub no_fields : {X : Type 0} (v : X → Field) (xs : List X) (line : List ℕ) → length xs < 1 → false ≡ fits (map v xs) (pieces 32 line)
no_fields v [] line l = sym (ap (fits []) (some_piece 32 line).2)
no_fields v (x ∷ xs) line l = absurd (omega (arith, l))
