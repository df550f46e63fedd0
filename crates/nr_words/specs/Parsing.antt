-- The parser of a table of forms, as `clap` reads it, and what its matches give. This project's own.
use Rattle.std.specs.Prelude.{◌≡◌, ℕ, List, [], ◌∷◌, true, fold, map, Option, Some, option_and_then}
use Rattle.clap.specs.Words.{AddsSubcommand, App, Row, Rule, app_of, first_of, new_app, new_rule, with_subcommand}
use Rattle.clap.specs.declared.builder.command.Command.{Command as Parser}
use Rattle.nr_words.specs.Forms.{Form, Place, Value, before, form_of, name_of, place_value, with_verb}

-- ---- parsers
-- a word that has to stand
abbrev pub word_rule : List ℕ → Rule
word_rule id = record (new_rule id) { required = true }

abbrev pub rules_of : List Place → List Rule
rules_of places = map word_rule (map name_of places)

-- a form: words behind its name that have to stand
abbrev pub words_app : List ℕ → List Rule → App
words_app name rules = let a = new_app name in record a { top = record a.top { rules = rules } }

abbrev pub form_app : Form → App
form_app form = words_app form.verb (rules_of form.places)

-- one of some forms has to stand, and nothing else may
abbrev pub forms_app : List ℕ → App
forms_app name = let a = new_app name in record a { top = record a.top { no_binary_name = true; disable_help_flag = true; disable_help_subcommand = true; subcommand_required = true } }

abbrev pub with_form : App → Form → App
with_form a form = with_subcommand a (form_app form).top

abbrev pub table_app : List ℕ → List Form → App
table_app program table = fold with_form (forms_app program) table

-- a form that a program takes as it stands
abbrev pub IsForm : Parser → Type 0
IsForm form =
    (old new : Parser) → AddsSubcommand old form new → app_of new ≡ with_subcommand (app_of old) (app_of form).top

-- ---- matches
abbrev pub values_by : List Place → List Row → Option (List Value)
values_by [] rows = Some []
values_by (p ∷ places) rows =
    before (option_and_then (place_value p) (first_of (name_of p) rows)) (values_by places rows)

abbrev pub found_by : List Form → List ℕ × List Row → Option (List ℕ × List Value)
found_by table p = option_and_then (λ form. with_verb form (values_by form.places p.1)) (form_of table p.0)
