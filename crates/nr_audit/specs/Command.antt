-- The words of the command line: `gather CONFIG GENESIS BLOCKS`, `help` or `version`. The commands are this project's
-- own.
use Rattle.std.specs.Prelude.{ℕ, List, [], ◌∷◌, cond, Option, Some, None, codes, option_and_then}
use Rattle.std.specs.Str.{bytes_eq}
use Rattle.nr_words.specs.Command.{Names}
use Rattle.nr_words.specs.Forms.{Value, Text, read}
use Rattle.nr_words.specs.Words.{names_in}
use Rattle.nr_audit.specs.Help.{forms, help_text, version_text}
use Rattle.nr_audit.specs.declared.command.Words.{Words}
use Rattle.nr_audit.specs.declared.command.Words.TheVariants as lent

-- the chunks of the chain of three files are gathered, or a text is written
pub data Command : Type 0 where
  OfChain : Names → Command
  OfText : List ℕ → Command

-- ---- what the words of a form are
abbrev pub gather_of : List Value → Option Command
gather_of (Text config ∷ Text genesis ∷ Text blocks ∷ []) =
    Some (OfChain (record { config = config; genesis = genesis; blocks = blocks; schedule = None }))
gather_of values = None

abbrev pub found_command : List ℕ × List Value → Option Command
found_command found = cond (bytes_eq found.0 (codes "gather")) (gather_of found.1)
    (cond (bytes_eq found.0 (codes "help")) (Some (OfText help_text))
    (cond (bytes_eq found.0 (codes "version")) (Some (OfText version_text)) None))

unfoldable pub command : List (List ℕ) → Option Command
command words = option_and_then found_command (read forms words)

-- ---- lent words
abbrev pub command_in : Words → Command
command_in (lent.Gather names) = OfChain (names_in names)
command_in (lent.Text text) = OfText text.now
