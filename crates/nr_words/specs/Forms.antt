-- Commands by a table of forms: for each its verb and its places. This project's own.
use Rattle.std.specs.Prelude.{◌≡◌, ℕ, ◌<◌, ◌≤◌, List, [], ◌∷◌, Bool, true, false, cond, not, ◌&&◌, ◌||◌, Option, Some}
use Rattle.std.specs.Prelude.{None, IfSome, length, map, find, nat_le, ◌==◌, ◌++◌, option_and_then, option_map}
use Rattle.std.specs.Prelude.{position}
use Rattle.std.specs.List.{flat_map, list_all, list_any}
use Rattle.std.specs.Str.{bytes_eq}
use Rattle.nr_words.specs.Numbers.{is_digit, number_in}

-- a place of a form, by its name: the name of a file or another word without a rule of its own, a number with its
-- least and its most, 64 digits of base 16, or one of some words
pub data Place : Type 0 where
  file : List ℕ → Place
  number : List ℕ → ℕ → ℕ → Place
  digits : List ℕ → Place
  one_of : List ℕ → List (List ℕ) → Place

-- the form of a command: its verb, and the places behind it
pub record Form : Type 0 where
  pub verb : List ℕ
  pub places : List Place

-- what a word is at its place: the number of a choice is that of the word among the place's words
pub data Value : Type 0 where
  Text : List ℕ → Value
  Number : ℕ → Value
  Digits : List ℕ → Value
  Choice : ℕ → Value

-- ---- places
abbrev pub name_of : Place → List ℕ
name_of (file name) = name
name_of (number name least most) = name
name_of (digits name) = name
name_of (one_of name words) = name

abbrev pub is_hex_digit : ℕ → Bool
is_hex_digit b = is_digit b || (nat_le 97 b && nat_le b 102)

-- 64 digits of base 16, in lower case
abbrev pub is_digest : List ℕ → Bool
is_digest word = (length word == 64) && list_all is_hex_digit word

-- what a word is at a place, where it may stand there
abbrev pub place_value : Place → List ℕ → Option Value
place_value (file name) word = Some (Text word)
place_value (number name least most) word = option_map Number (number_in least most word)
place_value (digits name) word = cond (is_digest word) (Some (Digits word)) None
place_value (one_of name words) word = option_map Choice (position (λ known. bytes_eq known word) words)

-- ---- forms
abbrev pub before : Option Value → Option (List Value) → Option (List Value)
before None values = None
before (Some value) values = option_map (λ rest. value ∷ rest) values

-- each place has its word, and no word is left
abbrev pub values : List Place → List (List ℕ) → Option (List Value)
values [] [] = Some []
values [] (word ∷ words) = None
values (p ∷ places) [] = None
values (p ∷ places) (word ∷ words) = before (place_value p word) (values places words)

abbrev pub form_of : List Form → List ℕ → Option Form
form_of table verb = find (λ form. bytes_eq form.verb verb) table

abbrev pub with_verb : Form → Option (List Value) → Option (List ℕ × List Value)
with_verb form = option_map (λ values. (form.verb, values))

-- the verb of a form, and then the words at its places
abbrev pub formed : List Form → List (List ℕ) → Option (List ℕ × List Value)
formed table [] = None
formed table (verb ∷ words) = option_and_then (λ form. with_verb form (values form.places words)) (form_of table verb)

-- a word that isn't empty and doesn't begin with a dash
abbrev pub is_plain : List ℕ → Bool
is_plain [] = false
is_plain (b ∷ bytes) = not (b == 45)

-- the form that words have, by its verb, and what they are at its places; no word is empty or begins with a dash
unfoldable pub read : List Form → List (List ℕ) → Option (List ℕ × List Value)
read table words = cond (list_all is_plain words) (formed table words) None

-- the words of a form behind a program's name, or behind more of its words, parted by single spaces
abbrev pub form_line : List ℕ → Form → List ℕ
form_line program form = program ++ 32 ∷ form.verb ++ flat_map (λ p. 32 ∷ name_of p) form.places ++ 10 ∷ []

-- ---- tables
abbrev pub are_distinct : List (List ℕ) → Bool
are_distinct [] = true
are_distinct (name ∷ names) = not (list_any (bytes_eq name) names) && are_distinct names

-- the names of a form's places differ, since a word is found by its place's name; they are at most 100, so that
-- positions can be counted
abbrev pub is_form : Form → Bool
is_form form = are_distinct (map name_of form.places) && nat_le (length form.places) 100

-- words can be read by a table; of two forms with one verb the first counts
abbrev pub is_table : List Form → Bool
is_table table = list_all is_form table

-- ---- what stands at the places of a form
-- a text, a number within its bounds, 64 digits, or the number of one of the words
abbrev pub Fits : Place → Value → Type 0
Fits (file name) (Text word) = Unit {0}
Fits (number name least most) (Number n) = (least ≤ n) × (n ≤ most)
Fits (digits name) (Digits word) = is_digest word ≡ true
Fits (one_of name words) (Choice k) = k < length words
Fits p value = ⊥

abbrev pub AllFit : List Place → List Value → Type 0
AllFit [] [] = Unit {0}
AllFit [] (value ∷ values) = ⊥
AllFit (p ∷ places) [] = ⊥
AllFit (p ∷ places) (value ∷ values) = Fits p value × AllFit places values

abbrev pub FitsForm : List Form → List ℕ × List Value → Type 0
FitsForm table found = IfSome (form_of table found.0) (λ form. AllFit form.places found.1)
