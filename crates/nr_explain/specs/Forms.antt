-- Forms of lines: for each word what it may be, and a text that goes with it. This project's own.
use Rattle.std.specs.Prelude.{ℕ, ◌^◌, ◌&&◌, List, [], ◌∷◌, Bool, true, false, cond, is_some, Option, Some, None}
use Rattle.std.specs.Str.{bytes_eq}
use Rattle.nr_explain.specs.Words.{number_below, is_digest, is_name, are_bytes}
use Rattle.nr_explain.specs.Entries.{entry_of}

-- this word, or this number; a number of 64 or of 128 bits; a hash, bytes; an entry of a configuration; a name
pub data Kind : Type 0 where
  Word : List ℕ → Kind
  Figure : List ℕ → Kind
  Number : Kind
  Amount : Kind
  Hash : Kind
  Bytes : Kind
  Entry : Kind
  Name : Kind

pub record Field : Type 0 where
  pub kind : Kind
  pub text : List ℕ

abbrev pub Form : Type 0
Form = List Field

abbrev pub word : List ℕ → List ℕ → Field
word this text = record { kind = Word this; text = text }

abbrev pub figure : List ℕ → List ℕ → Field
figure this text = record { kind = Figure this; text = text }

abbrev pub number : List ℕ → Field
number text = record { kind = Number; text = text }

abbrev pub amount : List ℕ → Field
amount text = record { kind = Amount; text = text }

abbrev pub hash : List ℕ → Field
hash text = record { kind = Hash; text = text }

abbrev pub bytes : List ℕ → Field
bytes text = record { kind = Bytes; text = text }

abbrev pub entry : List ℕ → Field
entry text = record { kind = Entry; text = text }

abbrev pub name : List ℕ → Field
name text = record { kind = Name; text = text }

abbrev pub is_of : Kind → List ℕ → Bool
is_of (Word text) word = bytes_eq word text
is_of (Figure text) word = bytes_eq word text
is_of Number word = is_some (number_below (2 ^ 64) word)
is_of Amount word = is_some (number_below (2 ^ 128) word)
is_of Hash word = is_digest word
is_of Bytes word = are_bytes word
is_of Entry word = is_some (entry_of word)
is_of Name word = is_name word

-- a word for each field, and no other
abbrev pub fits : Form → List (List ℕ) → Bool
fits [] [] = true
fits [] (w ∷ ws) = false
fits (f ∷ fs) [] = false
fits (f ∷ fs) (w ∷ ws) = is_of f.kind w && fits fs ws

-- the first form that the words fit
abbrev pub form_of : List Form → List (List ℕ) → Option Form
form_of [] words = None
form_of (form ∷ forms) words = cond (fits form words) (Some form) (form_of forms words)
