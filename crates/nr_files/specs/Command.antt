-- The words of the command line: `genesis CONFIG JSON`, `blocks JSON`, `hex FILE`, `show`, or `show --compact`, with
-- `genesis CONFIG FILE`, `blocks FILE`, `report FILE`, `part FILE`, `proof FILE` or `gathered FILE`, `explain WORDS..`,
-- `help`, `help COMMAND` or `version`. The commands are this project's own.
use Rattle.std.specs.Prelude.{ℕ, List, [], ◌∷◌, ◌++◌, Bool, true, false, cond, Option, Some, None, codes}
use Rattle.std.specs.Str.{bytes_eq}
use Rattle.nr_words.specs.Forms.{Value, Text, read}
use Rattle.nr_explain.specs.Programs.{explained}
use Rattle.nr_files.specs.Help.{help_of, help_text, made_forms, shown_forms, version_text}
use Rattle.nr_files.specs.declared.command.Asked.{Asked as LentAsked}
use Rattle.nr_files.specs.declared.command.Asked.TheVariants as lent
use Rattle.nr_files.specs.declared.command.Request.{Request as LentRequest}
use Rattle.nr_files.specs.declared.command.Work.{Work}
use Rattle.nr_files.specs.declared.command.Work.TheVariants.{MakeBlocks, MakeGenesis, MakeHex, ShowBlocks, ShowGenesis}
use Rattle.nr_files.specs.declared.command.Work.TheVariants.{ShowReport, ShowPart, ShowProof, ShowGathered}

-- what is done, whether a JSON text of it has no spaces between its parts, under which configuration, and with which
-- file
pub record Request : Type 0 where
  pub work : Work
  pub compact : Bool
  pub config : List ℕ
  pub file : List ℕ

-- what the words ask for: nothing that there is, a sentence that there isn't, a file's, or a text that is written
pub data Asked : Type 0 where
  Nothing : Asked
  Unknown : Asked
  File : Request → Asked
  Written : List ℕ → Asked

-- ---- what the words of a form are
abbrev pub request : Bool → Work → List ℕ → List ℕ → Asked
request compact work config name = File (record { work = work; compact = compact; config = config; file = name })

abbrev pub with_config : Bool → Work → List Value → Asked
with_config compact work (Text config ∷ Text name ∷ []) = request compact work config name
with_config compact work values = Nothing

-- under the built-in configuration, which loads no file
abbrev pub without_config : Bool → Work → List Value → Asked
without_config compact work (Text name ∷ []) = request compact work (codes "free") name
without_config compact work values = Nothing

abbrev pub made_of : List ℕ × List Value → Asked
made_of found =
    cond (bytes_eq found.0 (codes "genesis")) (with_config false MakeGenesis found.1)
    (cond (bytes_eq found.0 (codes "blocks")) (without_config false MakeBlocks found.1)
    (cond (bytes_eq found.0 (codes "hex")) (without_config false MakeHex found.1) Nothing))

abbrev pub shown_of : Bool → List ℕ × List Value → Asked
shown_of compact found =
    cond (bytes_eq found.0 (codes "genesis")) (with_config compact ShowGenesis found.1)
    (cond (bytes_eq found.0 (codes "blocks")) (without_config compact ShowBlocks found.1)
    (cond (bytes_eq found.0 (codes "report")) (without_config compact ShowReport found.1)
    (cond (bytes_eq found.0 (codes "part")) (without_config compact ShowPart found.1)
    (cond (bytes_eq found.0 (codes "proof")) (without_config compact ShowProof found.1)
    (cond (bytes_eq found.0 (codes "gathered")) (without_config compact ShowGathered found.1) Nothing)))))

abbrev pub by_form : (List ℕ × List Value → Asked) → Option (List ℕ × List Value) → Asked
by_form meaning None = Nothing
by_form meaning (Some found) = meaning found

-- ---- what is written without a file
abbrev pub of_sentence : Option (List ℕ) → Asked
of_sentence None = Unknown
of_sentence (Some text) = Written text

-- the sentence of words, of which there is at least one
abbrev pub of_words : List (List ℕ) → Asked
of_words [] = Nothing
of_words (word ∷ words) = of_sentence (explained (word ∷ words))

-- a text and a line feed
abbrev pub told : List ℕ → Asked
told text = Written (text ++ 10 ∷ [])

-- a text, where no word stands behind its own
abbrev pub alone : List ℕ → List (List ℕ) → Asked
alone text [] = told text
alone text (word ∷ words) = Nothing

abbrev pub of_help : Option (List ℕ) → Asked
of_help None = Nothing
of_help (Some text) = told text

-- the words of all commands, or what is said of one
abbrev pub helped : List (List ℕ) → Asked
helped [] = told help_text
helped (command ∷ []) = of_help (help_of command)
helped (command ∷ word ∷ words) = Nothing

-- ---- commands
abbrev pub verb_of : List (List ℕ) → List ℕ
verb_of [] = []
verb_of (verb ∷ words) = verb

abbrev pub behind : List (List ℕ) → List (List ℕ)
behind [] = []
behind (verb ∷ words) = words

-- what words behind `show` ask for
abbrev pub shown : Bool → List (List ℕ) → Asked
shown compact words = by_form (shown_of compact) (read shown_forms words)

abbrev pub show_meant : List (List ℕ) → Asked
show_meant words = cond (bytes_eq (verb_of words) (codes "--compact")) (shown true (behind words)) (shown false words)

unfoldable pub meant : List (List ℕ) → Asked
meant words =
    cond (bytes_eq (verb_of words) (codes "explain")) (of_words (behind words))
    (cond (bytes_eq (verb_of words) (codes "help")) (helped (behind words))
    (cond (bytes_eq (verb_of words) (codes "version")) (alone version_text (behind words))
    (cond (bytes_eq (verb_of words) (codes "show")) (show_meant (behind words))
    (by_form made_of (read made_forms words)))))

-- ---- lent words
abbrev pub request_in : LentRequest → Request
request_in r = record { work = r.work; compact = r.compact; config = r.config.now; file = r.file.now }

abbrev pub asked_in : LentAsked → Asked
asked_in lent.Nothing = Nothing
asked_in lent.Unknown = Unknown
asked_in (lent.File request) = File (request_in request)
asked_in (lent.Written text) = Written text
