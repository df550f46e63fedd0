-- What the reading by a parser comes to.
use Rattle.std.proofs.Common.{◌≡◌, ◌≢◌, ◌⊎◌, ◌&&◌, true, false, cond, List, [], ◌∷◌, Option, None, option_and_then, refl, sym, ap, subst, ◌∙◌, inl, inr, string_bytes}
use Rattle.std.specs.List.{list_all}
use Rattle.std.specs.Global.{Global}
use Rattle.std.specs.declared.string.String.{String}
use Rattle.clap.specs.Kinds.{IsAmong, Kinds}
use Rattle.clap.specs.Faults.{fault_of, is_free_app, is_simple_and_free}
use Rattle.clap.specs.Simple.{App, built, is_simple, subcommand_of}
use Rattle.clap.specs.Walk.{Row, Text}
use Rattle.clap.specs.declared.error.kind.ErrorKind.{ErrorKind}
use Rattle.nr_words.specs.Forms.{Form, formed, is_plain, is_table, read}
use Rattle.nr_words.specs.Parsing.{found_by, table_app}
use Rattle.nr_words.specs.Words.{texts}
use Rattle.nr_words.proofs.Both.{both_left}
use Rattle.nr_words.proofs.Places.{Reads}
use Rattle.nr_words.proofs.Tables.{table_reads, table_simple}

pub all-texts : (words : List (String Global)) → list_all (λ word. is_plain (string_bytes word)) words ≡ list_all is_plain (texts words)
all-texts [] = refl
all-texts (word ∷ words) = ap (λ b. is_plain (string_bytes word) && b) (all-texts words)

pub not_plain : (table : List Form) (words : List Text) → list_all is_plain words ≡ false → None ≡ read table words
unfolding read
not_plain table words e = sym (ap (λ b. cond b (formed table words) None) e)

module _ {A : Type 0} (fault : Kinds) (found meant : Option A) where
  when_read : Reads fault found meant → fault ≡ [] → found ≡ meant
  when_read (inl h) none = h.1
  when_read (inr h) none = absurd (h.1 none)

  among_none : (k : ErrorKind) → fault ≡ [] → ¬ (IsAmong k fault)
  among_none k none h = subst (IsAmong k) none h

  when_refused : (k memory : ErrorKind) → Reads fault found meant → k ≢ memory → (k ≡ memory) ⊎ IsAmong k fault → meant ≡ None
  when_refused k memory reads other (inl is) = absurd (other is)
  when_refused k memory (inl h) other (inr among) = absurd (among_none k h.0 among)
  when_refused k memory (inr h) other (inr among) = h.0

module _ (program : Text) (table : List Form) (words : List Text) (app : App) (is : app ≡ table_app program table) where
  pub simple_and_free : is_simple_and_free app ≡ true
  simple_and_free = ap is_simple_and_free is ∙ table_simple program table

  pub simple : is_simple app ≡ true
  simple = both_left (is_simple app) (is_free_app (built app)) simple_and_free

  reads : is_table table ≡ true → list_all is_plain words ≡ true → Reads (fault_of app words) (option_and_then (found_by table) (subcommand_of app words)) (read table words)
  reads good plain = subst (λ (a : App). Reads (fault_of a words) (option_and_then (found_by table) (subcommand_of a words)) (read table words)) (sym is) (table_reads program table good words plain)

  pub parsed : (rows : Option (Text × List Row)) → is_table table ≡ true → list_all is_plain words ≡ true → rows ≡ subcommand_of app words → fault_of app words ≡ [] → option_and_then (found_by table) rows ≡ read table words
  parsed rows good plain same none = ap (option_and_then (found_by table)) same ∙ when_read (fault_of app words) (option_and_then (found_by table) (subcommand_of app words)) (read table words) (reads good plain) none

  pub none_read : (k memory : ErrorKind) → is_table table ≡ true → list_all is_plain words ≡ true → k ≢ memory → (k ≡ memory) ⊎ IsAmong k (fault_of app words) → read table words ≡ None
  none_read k memory good plain other failed = when_refused (fault_of app words) (option_and_then (found_by table) (subcommand_of app words)) (read table words) k memory (reads good plain) other failed
