-- Pieces between separators, taken off one by one.
use Rattle.std.proofs.Common.{◌≡◌, ℕ, ◌+◌, ◌<◌, ◌≤◌, ◌==◌, Bool, true, false, cond, List, [], ◌∷◌, length, take, drop, Option, Some, None, refl, ap, ◌∙◌, arith}
use Rattle.std.specs.Prelude.{nat_lt, position}
use Rattle.std.specs.List.{onto_first, position_or_len}
use Rattle.std.proofs.lemmas.Bool.{ltb-true, ltb-false}
use Rattle.std.proofs.lemmas.List.Splits.{slice_split_none, slice_split_first}
use Rattle.std.proofs.lemmas.List.Sums.{fails_before_first}
use Rattle.nr_words.specs.Pieces.{pieces}

no_place : (p : ℕ → Bool) (bytes : List ℕ) → position p bytes ≡ None → length bytes ≤ position_or_len p bytes
no_place p bytes = by (nat_lt (position_or_len p bytes) (length bytes)) refl
  where
    by : (b : Bool) → nat_lt (position_or_len p bytes) (length bytes) ≡ b → ◌≡◌ {A = Option ℕ} (cond b (Some (position_or_len p bytes)) None) None → length bytes ≤ position_or_len p bytes
    by true e f = absurd cc
    by false e f = ltb-false (position_or_len p bytes) (length bytes) e

a_place : (p : ℕ → Bool) (bytes : List ℕ) (i : ℕ) → position p bytes ≡ Some i → (position_or_len p bytes ≡ i) × (position_or_len p bytes < length bytes)
a_place p bytes i = by (nat_lt (position_or_len p bytes) (length bytes)) refl
  where
    by : (b : Bool) → nat_lt (position_or_len p bytes) (length bytes) ≡ b → cond b (Some (position_or_len p bytes)) None ≡ Some i → (position_or_len p bytes ≡ i) × (position_or_len p bytes < length bytes)
    by true e f = (cc, ltb-true (position_or_len p bytes) (length bytes) e)
    by false e f = absurd cc

pub one_piece : (separator : ℕ) (bytes : List ℕ) → position (λ b. b == separator) bytes ≡ None → pieces separator bytes ≡ bytes ∷ []
one_piece separator bytes e =
    let p : ℕ → Bool = λ b. b == separator in
    let l : length bytes ≤ position_or_len p bytes = no_place p bytes e in
    slice_split_none p bytes (λ k d k_in. fails_before_first p bytes k d (omega (arith, k_in, l)))

pub first_piece : (separator : ℕ) (bytes : List ℕ) (i : ℕ) → position (λ b. b == separator) bytes ≡ Some i → pieces separator bytes ≡ take i bytes ∷ pieces separator (drop (i + 1) bytes)
first_piece separator bytes i e =
    let p : ℕ → Bool = λ b. b == separator in
    let at = a_place p bytes i e in
    slice_split_first p bytes 0 at.1 ∙ ap (λ n. take n bytes ∷ pieces separator (drop (n + 1) bytes)) at.0

some_onto : (b : ℕ) (parts : List (List ℕ)) → (first : List ℕ) × (more : List (List ℕ)) × (onto_first b parts ≡ first ∷ more)
some_onto b [] = (b ∷ [], [], refl)
some_onto b (part ∷ parts) = (b ∷ part, parts, refl)

-- there is always one
pub some_piece : (separator : ℕ) (bytes : List ℕ) → (first : List ℕ) × (more : List (List ℕ)) × (pieces separator bytes ≡ first ∷ more)
some_piece separator [] = ([], [], refl)
some_piece separator (b ∷ bytes) = by (b == separator)
  where
    by : (t : Bool) → (first : List ℕ) × (more : List (List ℕ)) × (cond t ([] ∷ pieces separator bytes) (onto_first b (pieces separator bytes)) ≡ first ∷ more)
    by true = ([], pieces separator bytes, refl)
    by false = some_onto b (pieces separator bytes)
