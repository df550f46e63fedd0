-- What clap makes of plain words by a table of forms.
use Rattle.std.proofs.Common.{◌≡◌, ◌⊎◌, ◌&&◌, ℕ, Bool, true, false, cond, List, [], ◌∷◌, ◌++◌, Option, Some, None, count_by, find, fold, is_some, map, not, option_and_then, option_map, refl, sym, ap, ap₂, subst, ◌∙◌, append_assoc, append-nil, true≢false, inl, inr}
use Rattle.std.specs.List.{list_all, list_any}
use Rattle.std.specs.Option.{option_map_or}
use Rattle.std.specs.Str.{bytes_eq}
use Rattle.std.proofs.lemmas.Slice.Eq.{bytes_eq-Decides}
use Rattle.std.proofs.lemmas.Bool.{and_from}
use Rattle.clap.specs.Kinds.{Kinds, or_else}
use Rattle.clap.specs.Faults.{built_fault, check_fault, defaults_fault, entered_fault, fault_of, has_free_rules, is_simple_and_free, level_fault, walk_fault}
use Rattle.clap.specs.Simple.{App, Shape, built, built_leaf, entered, inherited, is_buildable, is_in_order, is_ready, is_ready_leaf, is_simple_leaf, label_of, names_of, rows_at, subcommand_of}
use Rattle.clap.specs.Walk.{Row, Rule, Text, answers_to, idle, is_early_multiple, nothing_held, rows_after, stop_after, subcommand_met}
use Rattle.clap.specs.declared.error.kind.ErrorKind.TheVariants.{InvalidSubcommand, MissingSubcommand, UnknownArgument}
use Rattle.nr_words.specs.Forms.{Form, Value, form_of, formed, is_form, is_plain, is_table, name_of, read, values, with_verb}
use Rattle.nr_words.specs.Parsing.{form_app, forms_app, found_by, table_app, values_by, with_form, word_rule}
use Rattle.nr_words.proofs.Both.{both_left, both_right}
use Rattle.nr_words.proofs.Places.{Reads, after, fails, form_reads, leaf, rules}
use Rattle.nr_words.proofs.Plain.{entered_fails, entered_matches, form_fault, stray_fails}
use Rattle.nr_words.proofs.Subcommands.{same}

-- ---- the parser of a table, and what building makes of it
abbrev app : Shape → List Shape → App
app top subs = record { top = top; subs = subs }

abbrev unless_any : List Form → Bool → Bool
unless_any [] b = b
unless_any (form ∷ table) b = false

abbrev over : Shape → List Form → Shape
over top table = record top { is_leaf = unless_any table top.is_leaf }

abbrev shapes : List Form → List Shape
shapes = map (λ form. (form_app form).top)

abbrev leaves : List Form → List Shape
leaves = map leaf

abbrev forms_top : Text → Shape
forms_top program = (forms_app program).top

unless_none : (table : List Form) → unless_any table false ≡ false
unless_none [] = refl
unless_none (form ∷ table) = refl

adds : (top : Shape) (subs : List Shape) (table : List Form) → fold with_form (app top subs) table ≡ app (over top table) (subs ++ shapes table)
adds top subs [] = (λ i. app top (sym (append-nil subs) i))
adds top subs (form ∷ table) =
    adds (record top { is_leaf = false }) (subs ++ (form_app form).top ∷ []) table
    ∙ (λ i. app (record top { is_leaf = unless_none table i }) (append_assoc subs ((form_app form).top ∷ []) (shapes table) i))

table_is : (program : Text) (table : List Form) → table_app program table ≡ app (over (forms_top program) table) (shapes table)
table_is program table = adds (forms_top program) [] table

leaves_are : (top : Shape) → ((form : Form) → built_leaf (inherited top (form_app form).top) ≡ leaf form) → (table : List Form) → map built_leaf (map (inherited top) (shapes table)) ≡ leaves table
leaves_are top same_leaf [] = refl
leaves_are top same_leaf (form ∷ table) = ap₂ (λ (s : Shape) (ss : List Shape). s ∷ ss) (same_leaf form) (leaves_are top same_leaf table)

abbrev built_top : Text → List Form → Shape
built_top program table = record (over (forms_top program) table) { is_built = true }

built_is : (program : Text) (table : List Form) → built (app (over (forms_top program) table) (shapes table)) ≡ app (built_top program table) (leaves table)
built_is program [] = refl
built_is program (form ∷ table) = ap (app (built_top program (form ∷ table))) (leaves_are (built_top program (form ∷ table)) (λ f. refl) (form ∷ table))

-- ---- it is of those of which clap says what it reads
all_forms : (test : Shape → Bool) (f : Form → Shape) → ((form : Form) → test (f form) ≡ true) → (table : List Form) → list_all test (map f table) ≡ true
all_forms test f each [] = refl
all_forms test f each (form ∷ table) = and_from (test (f form)) (list_all test (map f table)) (each form) (all_forms test f each table)

simple_words : (names : List Text) → list_all (λ (a : Rule). a.is_simple) (map word_rule names) ≡ true
simple_words [] = refl
simple_words (n ∷ ns) = simple_words ns

simple_rules : (i : ℕ) (names : List Text) → list_all (λ (a : Rule). a.is_simple) (rules i names) ≡ true
simple_rules i [] = refl
simple_rules i (n ∷ ns) = simple_rules (after i) ns

free_rules : (i : ℕ) (names : List Text) → list_all (λ (a : Rule). a.is_free) (rules i names) ≡ true
free_rules i [] = refl
free_rules i (n ∷ ns) = free_rules (after i) ns

none_early : (k i : ℕ) (names : List Text) → list_any (is_early_multiple k) (rules i names) ≡ false
none_early k i [] = refl
none_early k i (n ∷ ns) = none_early k (after i) ns

ready : (form : Form) → is_ready_leaf (leaf form) ≡ true
ready form =
    let names : List Text = map name_of form.places in
    and_from (list_all (λ (a : Rule). a.is_simple) (rules 1 names)) (is_in_order (rules 1 names)) (simple_rules 1 names) (ap not (none_early (count_by (λ (a : Rule). is_some a.index) (rules 1 names)) 1 names))

abbrev are_ready : App → Bool
are_ready a = is_ready a.top && list_all is_ready_leaf a.subs

abbrev are_free : App → Bool
are_free a = has_free_rules a.top && list_all has_free_rules a.subs

abbrev bare : Text → List Form → App
bare program table = app (over (forms_top program) table) (shapes table)

bare_simple : (program : Text) (table : List Form) → is_simple_and_free (bare program table) ≡ true
bare_simple program table =
    let a = bare program table in
    let buildable : is_buildable a ≡ true = all_forms is_simple_leaf (λ form. (form_app form).top) (λ form. simple_words (map name_of form.places)) table in
    let are : are_ready (built a) ≡ true = ap are_ready (built_is program table) ∙ all_forms is_ready_leaf leaf ready table in
    let free : are_free (built a) ≡ true = ap are_free (built_is program table) ∙ all_forms has_free_rules leaf (λ form. free_rules 1 (map name_of form.places)) table in
    and_from (is_buildable a && are_ready (built a)) (are_free (built a)) (and_from (is_buildable a) (are_ready (built a)) buildable are) free

pub table_simple : (program : Text) (table : List Form) → is_simple_and_free (table_app program table) ≡ true
table_simple program table = ap is_simple_and_free (table_is program table) ∙ bare_simple program table

-- ---- the form of a verb
subs_of : (verb : Text) (table : List Form) → find (λ s. answers_to verb (label_of s)) (leaves table) ≡ option_map leaf (form_of table verb)
subs_of verb [] = refl
subs_of verb (form ∷ table) = go (bytes_eq form.verb verb) refl (subs_of verb table)
  where
    go : (t : Bool) → bytes_eq form.verb verb ≡ t → find (λ s. answers_to verb (label_of s)) (leaves table) ≡ option_map leaf (form_of table verb) → find (λ s. answers_to verb (label_of s)) (leaves (form ∷ table)) ≡ option_map leaf (form_of (form ∷ table) verb)
    go true is later = rw is refl
    go false is later = rw is later

met : (verb : Text) (table : List Form) → subcommand_met (map label_of (leaves table)) idle verb ≡ option_map (λ (form : Form). form.verb) (form_of table verb)
met verb [] = refl
met verb (form ∷ table) = go (bytes_eq form.verb verb) refl (met verb table)
  where
    go : (t : Bool) → bytes_eq form.verb verb ≡ t → subcommand_met (map label_of (leaves table)) idle verb ≡ option_map (λ (f : Form). f.verb) (form_of table verb) → subcommand_met (map label_of (leaves (form ∷ table))) idle verb ≡ option_map (λ (f : Form). f.verb) (form_of (form ∷ table) verb)
    go true is later = rw is refl
    go false is later = rw is later

no_form : {A : Type 0} (form : Form) → None ≡ Some form → A
no_form form e = absurd (true≢false (sym (ap is_some e)))

-- the first form of the verb, or a later one
first_or_later : (f form : Form) (table : List Form) (verb : Text) → form_of (f ∷ table) verb ≡ Some form → ((f ≡ form) × (bytes_eq f.verb verb ≡ true)) ⊎ (form_of table verb ≡ Some form)
first_or_later f form table verb found = go (bytes_eq f.verb verb) refl
  where
    go : (t : Bool) → bytes_eq f.verb verb ≡ t → ((f ≡ form) × (bytes_eq f.verb verb ≡ true)) ⊎ (form_of table verb ≡ Some form)
    go true is = inl (same f form (sym (ap (λ b. cond b (Some f) (form_of table verb)) is) ∙ found), is)
    go false is = inr (sym (ap (λ b. cond b (Some f) (form_of table verb)) is) ∙ found)

pub verb_is : (table : List Form) (verb : Text) (form : Form) → form_of table verb ≡ Some form → form.verb ≡ verb
verb_is [] verb form found = no_form form found
verb_is (f ∷ table) verb form found = elim (first_or_later f form table verb found) [
  | inl h ↦ ap (λ (x : Form). x.verb) (sym h.0) ∙ (bytes_eq-Decides f.verb verb).0 h.1
  | inr later ↦ verb_is table verb form later
]

good_form : (table : List Form) (verb : Text) (form : Form) → is_table table ≡ true → form_of table verb ≡ Some form → is_form form ≡ true
good_form [] verb form good found = no_form form found
good_form (f ∷ table) verb form good found = elim (first_or_later f form table verb found) [
  | inl h ↦ ap is_form (sym h.0) ∙ both_left (is_form f) (is_table table) good
  | inr later ↦ good_form table verb form (both_right (is_form f) (is_table table) good) later
]

-- ---- words by a built parser
or_none : (fault : Kinds) → or_else fault [] ≡ fault
or_none [] = refl
or_none (k ∷ ks) = refl

-- what a built parser finds
abbrev found_in_app : List Form → App → List Text → Option (Text × List Value)
found_in_app table a words = option_and_then (found_by table) (entered a (stop_after a.top.rules (names_of a) words))

abbrev ReadsBy : List Form → App → List Text → Type 0
ReadsBy table a words = Reads (built_fault a nothing_held words) (found_in_app table a words) (formed table words)

as_read : {A B : Type 0} (f : Option A → Option B) → f None ≡ None → (fault form : Kinds) (found meant : Option B) (by said : Option A) → fault ≡ form → found ≡ f by → meant ≡ f said → Reads form by said → Reads fault found meant
as_read f none fault form found meant by said is g m (inl h) = inl (is ∙ h.0, g ∙ ap f h.1 ∙ sym m)
as_read f none fault form found meant by said is g m (inr h) = inr (m ∙ ap f h.0 ∙ none, λ e. h.1 (sym is ∙ e))

module _ (program : Text) (table : List Form) where
  abbrev B : App
  B = app (built_top program table) (leaves table)

  no_words : ReadsBy table B []
  unfolding walk_fault defaults_fault
  no_words = fails _ _ _ MissingSubcommand [] refl refl

  is_stray : (b : Bool) → cond b (UnknownArgument ∷ []) (UnknownArgument ∷ InvalidSubcommand ∷ []) ≡ UnknownArgument ∷ cond b [] (InvalidSubcommand ∷ [])
  is_stray true = refl
  is_stray false = refl

  stray : (verb : Text) (words : List Text) → is_plain verb ≡ true → form_of table verb ≡ None → ReadsBy table B (verb ∷ words)
  stray verb words plain none =
      let nothing : subcommand_met (names_of B) idle verb ≡ None = met verb table ∙ ap (option_map (λ (f : Form). f.verb)) none in
      fails _ _ _ UnknownArgument (cond (unless_any table true) [] (InvalidSubcommand ∷ []))
      (ap (option_and_then (λ (form : Form). with_verb form (values form.places words))) none)
      (stray_fails B verb words UnknownArgument (cond (unless_any table true) [] (InvalidSubcommand ∷ [])) refl nothing plain (is_stray (unless_any table true)))

  module _ (verb : Text) (words : List Text) (form : Form) (good : is_form form ≡ true) (plain : list_all is_plain words ≡ true) (is : form_of table verb ≡ Some form) where
    named : form.verb ≡ verb
    named = verb_is table verb form is

    entered_form : subcommand_met (names_of B) idle verb ≡ Some form.verb
    entered_form = met verb table ∙ ap (option_map (λ (f : Form). f.verb)) is

    sub : find (λ s. answers_to form.verb (label_of s)) (leaves table) ≡ Some (leaf form)
    sub = ap (λ v. find (λ s. answers_to v (label_of s)) (leaves table)) named ∙ subs_of verb table ∙ ap (option_map leaf) is

    rows_there : entered B (Some (form.verb, words)) ≡ Some (rows_at (leaf form) words)
    rows_there = ap (option_map (λ (s : Shape). rows_at s words)) sub

    fault_there : entered_fault B (Some (form.verb, words)) ≡ form_fault (leaf form) words
    fault_there = ap (λ (o : Option Shape). option_map_or (λ s. level_fault s [] nothing_held words false []) o []) sub

    fault_is : built_fault B nothing_held (verb ∷ words) ≡ form_fault (leaf form) words
    unfolding defaults_fault
    fault_is =
        entered_fails B verb form.verb words entered_form refl
        ∙ ap₂ (λ (k : Kinds) (e : Option (Text × List Row)). or_else k (check_fault (built_top program table) [] (is_some e))) fault_there rows_there
        ∙ or_none (form_fault (leaf form) words)

    found_is : found_in_app table B (verb ∷ words) ≡ with_verb form (values_by form.places (rows_after (leaf form).rules [] words))
    found_is =
        ap (option_and_then (found_by table)) (entered_matches B verb form.verb words entered_form ∙ rows_there)
        ∙ ap (option_and_then (λ (f : Form). with_verb f (values_by f.places (rows_after (leaf form).rules [] words)))) (ap (form_of table) named ∙ is)

    by_form : ReadsBy table B (verb ∷ words)
    by_form =
        as_read (with_verb form) refl _ (form_fault (leaf form) words) _ _ (values_by form.places (rows_after (leaf form).rules [] words)) (values form.places words)
        fault_is found_is
        (ap (option_and_then (λ (f : Form). with_verb f (values f.places words))) is)
        (form_reads form words good plain)

  built_reads : is_table table ≡ true → (words : List Text) → list_all is_plain words ≡ true → ReadsBy table B words
  built_reads good [] plain = no_words
  built_reads good (verb ∷ words) plain = go (form_of table verb) refl
    where
      go : (o : Option Form) → form_of table verb ≡ o → ReadsBy table B (verb ∷ words)
      go None is = stray verb words (both_left (is_plain verb) (list_all is_plain words) plain) is
      go (Some form) is = by_form verb words form (good_form table verb form good is) (both_right (is_plain verb) (list_all is_plain words) plain) is

  -- ---- the parser of a table gives the form that the words have, or refuses words that have none
  pub table_reads : is_table table ≡ true → (words : List Text) → list_all is_plain words ≡ true
      → Reads (fault_of (table_app program table) words) (option_and_then (found_by table) (subcommand_of (table_app program table) words)) (read table words)
  unfolding read
  table_reads good words plain =
      let meant : formed table words ≡ cond (list_all is_plain words) (formed table words) None = sym (ap (λ b. cond b (formed table words) None) plain) in
      subst (λ (a : App). Reads (fault_of a words) (option_and_then (found_by table) (subcommand_of a words)) (cond (list_all is_plain words) (formed table words) None)) (sym (table_is program table))
      (subst (λ (a : App). Reads (built_fault a nothing_held words) (found_in_app table a words) (cond (list_all is_plain words) (formed table words) None)) (sym (built_is program table))
      (subst (Reads (built_fault B nothing_held words) (found_in_app table B words)) meant (built_reads good words plain)))
