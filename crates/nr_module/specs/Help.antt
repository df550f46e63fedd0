-- The tables of the program's forms, and what `help` and `version` write. This project's own.
use Rattle.std.specs.Prelude.{ℕ, List, [], ◌∷◌, ◌++◌, codes}
use Rattle.std.specs.List.{flat_map}
use Rattle.nr_words.specs.Command.{form}
use Rattle.nr_words.specs.Forms.{Form, file, form_line, number}

-- the gas is any number of 64 bits
abbrev pub forms : List Form
forms =
    form (codes "check") (file (codes "CONFIG") ∷ file (codes "FILE") ∷ [])
    ∷ form (codes "run") (file (codes "CONFIG") ∷ file (codes "FILE") ∷ file (codes "METHOD")
    ∷ number (codes "GAS") 0 18446744073709551615 ∷ [])
    ∷ form (codes "trap") (file (codes "CONFIG") ∷ file (codes "FILE") ∷ file (codes "METHOD")
    ∷ number (codes "GAS") 0 18446744073709551615 ∷ [])
    ∷ form (codes "list") (file (codes "FILE") ∷ []) ∷ form (codes "text") (file (codes "FILE") ∷ [])
    ∷ form (codes "help") [] ∷ form (codes "version") []
    ∷ form (codes "call") (file (codes "CONFIG") ∷ file (codes "FILE") ∷ file (codes "METHOD") ∷ file (codes "ARGS")
    ∷ number (codes "GAS") 0 18446744073709551615 ∷ []) ∷ []

-- a verb has one form of a table, so a call with tokens stands in a table of its own
abbrev pub paid_forms : List Form
paid_forms =
    form (codes "call") (file (codes "CONFIG") ∷ file (codes "FILE") ∷ file (codes "METHOD") ∷ file (codes "ARGS")
    ∷ number (codes "GAS") 0 18446744073709551615 ∷ file (codes "DEPOSIT") ∷ []) ∷ []

-- a line for each form, and two that say what four of the words may be
abbrev pub help_text : List ℕ
help_text =
    flat_map (form_line (codes "near_module")) (forms ++ paid_forms)
    ++ codes "CONFIG is free or the name of a file, and GAS a number from 0 to 18446744073709551615." ++ 10
    ∷ codes "ARGS is a text, or hex: and two digits for each byte, and DEPOSIT a number below 2^128." ++ 10 ∷ []

abbrev pub version_text : List ℕ
version_text = codes "near_module 0.1.0" ++ 10 ∷ []
