-- One step over the places of a form, over a table and over the words of a place.
use Rattle.std.proofs.Common.{◌≡◌, ◌<◌, ◌≤◌, ◌+◌, ℕ, not, cond, List, [], ◌∷◌, ◌++◌, Option, Some, None, drop, get_or, length, ltb, map, option_and_then, option_map, position, take, refl, sym, ap, ap₂, ◌∙◌, append_assoc, append-nil}
use Rattle.std.specs.Borrow.{Bor}
use Rattle.std.specs.List.{prefix_len}
use Rattle.std.specs.Str.{bytes_eq}
use Rattle.std.proofs.lemmas.List.{at_drop_all, at_drop_more, length-map, map_more, map_push}
use Rattle.clap.specs.Words.{Row, first_of}
use Rattle.nr_words.specs.Forms.{Value, before, name_of, place_value}
use Rattle.nr_words.specs.Parsing.{rules_of, values_by, word_rule}
use Rattle.nr_words.specs.Words.{place_in, places_in, value_in}
use Rattle.nr_words.specs.declared.forms.Place.{Place as LentPlace}
use Rattle.nr_words.specs.declared.forms.Value.{Value as LentValue}

-- ---- rules
pub rules_more : (places : List LentPlace) (i : ℕ) (d : LentPlace) → i < length places → rules_of (places_in (take (i + 1) places)) ≡ rules_of (places_in (take i places)) ++ word_rule (name_of (place_in (get_or places i d))) ∷ []
rules_more places i d less =
    let before_it = places_in (take i places) in
    let p = place_in (get_or places i d) in
    ap rules_of (map_more place_in places i d less)
    ∙ ap (map word_rule) (map_push name_of before_it p)
    ∙ map_push word_rule (map name_of before_it) (name_of p)

-- ---- values
pub values_more : (rows : List Row) (so_far : List Value) (places : List LentPlace) (i : ℕ) (d : LentPlace) (v : Value) → i < length places
    → Some v ≡ option_and_then (place_value (place_in (get_or places i d))) (first_of (name_of (place_in (get_or places i d))) rows)
    → option_map (λ (rest : List Value). so_far ++ rest) (values_by (places_in (drop i places)) rows) ≡ option_map (λ (rest : List Value). (so_far ++ v ∷ []) ++ rest) (values_by (places_in (drop (i + 1) places)) rows)
values_more rows so_far places i d v less is =
    let rest = values_by (places_in (drop (i + 1) places)) rows in
    ap (option_map (λ (r : List Value). so_far ++ r)) (at_drop_more (λ (ps : List LentPlace). values_by (places_in ps) rows) places i d less)
    ∙ ap (λ (o : Option Value). option_map (λ (r : List Value). so_far ++ r) (before o rest)) (sym is)
    ∙ go rest
  where
    go : (o : Option (List Value)) → option_map (λ (r : List Value). so_far ++ r) (before (Some v) o) ≡ option_map (λ (r : List Value). (so_far ++ v ∷ []) ++ r) o
    go None = refl
    go (Some r) = (λ j. Some (sym (append_assoc so_far (v ∷ []) r) j))

pub values_stop : (rows : List Row) (so_far : List Value) (places : List LentPlace) (i : ℕ) (d : LentPlace) → i < length places
    → None ≡ option_and_then (place_value (place_in (get_or places i d))) (first_of (name_of (place_in (get_or places i d))) rows)
    → option_map (λ (rest : List Value). so_far ++ rest) (values_by (places_in (drop i places)) rows) ≡ None
values_stop rows so_far places i d less is =
    let rest = values_by (places_in (drop (i + 1) places)) rows in
    ap (option_map (λ (r : List Value). so_far ++ r)) (at_drop_more (λ (ps : List LentPlace). values_by (places_in ps) rows) places i d less)
    ∙ ap (λ (o : Option Value). option_map (λ (r : List Value). so_far ++ r) (before o rest)) (sym is)

pub values_end : (rows : List Row) (so_far : List Value) (places : List LentPlace) (i : ℕ) → length places ≤ i → option_map (λ (rest : List Value). so_far ++ rest) (values_by (places_in (drop i places)) rows) ≡ Some so_far
values_end rows so_far places i all =
    ap (option_map (λ (r : List Value). so_far ++ r)) (at_drop_all (λ (ps : List LentPlace). values_by (places_in ps) rows) places i all)
    ∙ (λ j. Some (append-nil so_far j))

pub values_start : (o : Option (List Value)) (none : List LentValue) → none ≡ [] → o ≡ option_map (λ (rest : List Value). map value_in none ++ rest) o
values_start None none is = refl
values_start (Some r) none is = (λ j. Some (map value_in (sym is j) ++ r))

-- ---- the words of a place
module _ (word : List ℕ) where
  prefix_is : (words : List (Bor (List ℕ))) → prefix_len (λ (known : Bor (List ℕ)). not (bytes_eq known.now word)) words ≡ prefix_len (λ (known : List ℕ). not (bytes_eq known word)) (map (λ (w : Bor (List ℕ)). w.now) words)
  prefix_is [] = refl
  prefix_is (w ∷ words) = ap (λ n. cond (not (bytes_eq w.now word)) (1 + n) 0) (prefix_is words)

  pub position_is : (words : List (Bor (List ℕ))) → position (λ (known : Bor (List ℕ)). bytes_eq known.now word) words ≡ position (λ (known : List ℕ). bytes_eq known word) (map (λ (w : Bor (List ℕ)). w.now) words)
  position_is words = ap₂ (λ n m. cond (ltb n m) (Some n) None) (prefix_is words) (sym (length-map words (λ (w : Bor (List ℕ)). w.now)))
