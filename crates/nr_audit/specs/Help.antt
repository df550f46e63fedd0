-- The table of the program's forms, and what `help` and `version` write. This project's own.
use Rattle.std.specs.Prelude.{ℕ, List, [], ◌∷◌, ◌++◌, codes}
use Rattle.std.specs.List.{flat_map}
use Rattle.nr_words.specs.Command.{files, form}
use Rattle.nr_words.specs.Forms.{Form, form_line}

abbrev pub forms : List Form
forms = form (codes "gather") files ∷ form (codes "help") [] ∷ form (codes "version") [] ∷ []

-- a line for each form, and one that says what one of its words may be
abbrev pub help_text : List ℕ
help_text =
    flat_map (form_line (codes "near_audit")) forms ++ codes "CONFIG is free or the name of a file." ++ 10 ∷ []

abbrev pub version_text : List ℕ
version_text = codes "near_audit 0.1.0" ++ 10 ∷ []
