-- The words `replay CONFIG GENESIS.json BLOCKS.json` and `check CONFIG GENESIS.json BLOCKS.json SCHEDULE`. This
-- project's own.
use Rattle.std.specs.Prelude.{ℕ, List, [], ◌∷◌, cond, Option, Some, None, codes, option_and_then}
use Rattle.std.specs.Str.{bytes_eq}
use Rattle.nr_files.specs.Help.{jsonrun_forms}
use Rattle.nr_words.specs.Command.{Names, names_of}
use Rattle.nr_words.specs.Forms.{Value, Text, read}

-- ---- what the words of a form name
abbrev pub whole : List Value → Option Names
whole (Text config ∷ Text genesis ∷ Text blocks ∷ []) = Some (names_of config genesis blocks)
whole values = None

abbrev pub driven : List Value → Option Names
driven (Text config ∷ Text genesis ∷ Text blocks ∷ Text schedule ∷ []) =
    Some (record { config = config; genesis = genesis; blocks = blocks; schedule = Some schedule })
driven values = None

abbrev pub names_by : List ℕ × List Value → Option Names
names_by found =
    cond (bytes_eq found.0 (codes "replay")) (whole found.1)
    (cond (bytes_eq found.0 (codes "check")) (driven found.1) None)

-- the files that the words name, where they are one of the two commands
unfoldable pub run_names : List (List ℕ) → Option Names
run_names words = option_and_then names_by (read jsonrun_forms words)
