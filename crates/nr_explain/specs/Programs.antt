-- The programs by their names, the forms of the lines of each, and the sentence of a line. This project's own.
use Rattle.std.specs.Prelude.{ℕ, List, [], ◌∷◌, ◌++◌, Option, codes, cond, option_map}
use Rattle.std.specs.List.{flat_map}
use Rattle.std.specs.Option.{option_or}
use Rattle.std.specs.Str.{bytes_eq}
use Rattle.nr_explain.specs.Words.{pieces}
use Rattle.nr_explain.specs.Forms.{Form, form_of}
use Rattle.nr_explain.specs.LineSentences.{steps, refusals, failures, bad_codes, traps, faults, modules}
use Rattle.nr_explain.specs.LineSentences.{invalid_modules, module_traps, listings}
use Rattle.nr_explain.specs.CallSentences.{call_codes, call_ends, call_faults, call_traps}
use Rattle.nr_explain.specs.Sentences.{programs, items, configurations, geneses, chains, schedules, proofs}
use Rattle.nr_explain.specs.Sentences.{gathered_chunks, state_parts, sentence_by}
use Rattle.nr_explain.specs.Written.{reported, answers}
use Rattle.nr_explain.specs.declared.program.Program.{Program}
use Rattle.nr_explain.specs.declared.program.Program.TheVariants.{Any, Serial, Replay, Audit, Module, Files}

-- ---- the first form that the words fit
-- statuses of all programs, of those that read a chain, and of the one that reads other files too
abbrev pub common_form : List (List ℕ) → Option Form
common_form words = option_or (form_of programs words) (form_of configurations words)

abbrev pub chain_form : List (List ℕ) → Option Form
chain_form words = option_or (common_form words) (option_or (form_of geneses words) (form_of chains words))

abbrev pub file_form : List (List ℕ) → Option Form
file_form words =
    option_or (form_of schedules words)
    (option_or (form_of proofs words)
    (option_or (form_of items words) (option_or (form_of gathered_chunks words) (form_of state_parts words))))

-- lines of a report
abbrev pub report_form : List (List ℕ) → Option Form
report_form words =
    option_or (form_of refusals words)
    (option_or (form_of failures words)
    (option_or (form_of bad_codes words)
    (option_or (form_of traps words) (option_or (form_of faults words) (form_of reported words)))))

-- lines of calls
abbrev pub call_form : List (List ℕ) → Option Form
call_form words =
    option_or (form_of call_ends words)
    (option_or (form_of call_codes words) (option_or (form_of call_traps words) (form_of call_faults words)))

-- lines of modules
abbrev pub module_form : List (List ℕ) → Option Form
module_form words =
    option_or (form_of modules words)
    (option_or (form_of invalid_modules words)
    (option_or (form_of module_traps words) (option_or (form_of listings words) (call_form words))))

abbrev pub serial_form : List (List ℕ) → Option Form
serial_form words =
    option_or (chain_form words)
    (option_or (file_form words)
    (option_or (form_of steps words) (option_or (form_of answers words) (report_form words))))

-- ---- programs
unfoldable pub program_of : List ℕ → Program
program_of word =
    cond (bytes_eq word (codes "near_serial")) Serial
    (cond (bytes_eq word (codes "near_replay")) Replay
    (cond (bytes_eq word (codes "near_audit")) Audit
    (cond (bytes_eq word (codes "near_module")) Module
    (cond (bytes_eq word (codes "near_files")) Files Any))))

unfoldable pub form_by : Program → List (List ℕ) → Option Form
form_by Any words = option_or (serial_form words) (module_form words)
form_by Serial words = serial_form words
form_by Replay words = option_or (chain_form words) (report_form words)
form_by Audit words = chain_form words
form_by Module words = option_or (common_form words) (module_form words)
form_by Files words = common_form words

-- ---- the sentence of words, before which the name of a program may stand
abbrev pub name_of : List (List ℕ) → List ℕ
name_of [] = []
name_of (w ∷ ws) = w

abbrev pub behind : List (List ℕ) → List (List ℕ)
behind [] = []
behind (w ∷ ws) = ws

-- the words of the line itself
unfoldable pub line_words : Program → List (List ℕ) → List (List ℕ)
line_words Any words = words
line_words Serial words = behind words
line_words Replay words = behind words
line_words Audit words = behind words
line_words Module words = behind words
line_words Files words = behind words

-- the words with a space between each two
abbrev pub spaced : List (List ℕ) → List ℕ
spaced [] = []
spaced (w ∷ ws) = w ++ flat_map (λ v. 32 ∷ v) ws

abbrev pub line_told : Program → List ℕ → Option (List ℕ)
line_told p line = sentence_by (form_by p (pieces 32 line)) (pieces 32 line)

abbrev pub told_by : Program → List (List ℕ) → Option (List ℕ)
told_by p words = line_told p (spaced (line_words p words))

abbrev pub told_of : List (List ℕ) → Option (List ℕ)
told_of words = told_by (program_of (name_of words)) words

-- the sentence with a line feed
abbrev pub explained : List (List ℕ) → Option (List ℕ)
explained words = option_map (λ s. s ++ 10 ∷ []) (told_of words)
