-- The objects of a report's lines, made one by one.
use Rattle.std.proofs.Common.{◌≡◌, ℕ, ◌+◌, ◌==◌, Bool, true, false, List, [], ◌∷◌, ◌++◌, length, Option, Some, None, Result, Ok, Err, refl, sym, ap, subst, ◌∙◌, arith, append_assoc}
use Rattle.std.proofs.lemmas.Bool.{eqb-true}
use Rattle.std.proofs.lemmas.List.{append-nil}
use Rattle.nr_explain.specs.Words.{pieces}
use Rattle.nr_explain.specs.Lines.{AddsWhere, object_of}
use Rattle.nr_explain.specs.Report.{with_object, last_piece, objects_from, report_json}
use Rattle.nr_explain.specs.declared.report.ReportFault.{ReportFault}
use Rattle.nr_explain.specs.declared.report.ReportFault.TheVariants.{NoLine}
use Rattle.nr_words.proofs.Pieces.{some_piece}

-- the objects so far, and those of what is left
abbrev pub behind : List ℕ → Result (List ℕ) ReportFault → Result (List ℕ) ReportFault
behind objects (Ok more) = Ok (objects ++ more)
behind objects (Err fault) = Err fault

behind_none : (rest : Result (List ℕ) ReportFault) → behind [] rest ≡ rest
behind_none (Ok more) = refl
behind_none (Err fault) = refl

behind_more : (objects object : List ℕ) (n : ℕ) (rest : Result (List ℕ) ReportFault) → behind objects (with_object n (Some object) rest) ≡ behind (objects ++ object) rest
behind_more objects object n (Ok more) = ap (λ (t : List ℕ). Ok t) (sym (append_assoc objects object more))
behind_more objects object n (Err fault) = refl

one_line : (n : ℕ) (piece first : List ℕ) (more : List (List ℕ)) → objects_from n (piece ∷ first ∷ more) ≡ with_object n (object_of piece) (objects_from (n + 1) (first ∷ more))
unfolding objects_from
one_line n piece first more = refl

pub next_line : (n : ℕ) (piece rest : List ℕ) → objects_from n (piece ∷ pieces 10 rest) ≡ with_object n (object_of piece) (objects_from (n + 1) (pieces 10 rest))
next_line n piece rest =
    let some = some_piece 10 rest in
    ap (λ (t : List (List ℕ)). objects_from n (piece ∷ t)) some.2 ∙ one_line n piece some.0 some.1
    ∙ ap (λ (t : List (List ℕ)). with_object n (object_of piece) (objects_from (n + 1) t)) (sym some.2)

last_line : (n : ℕ) (piece : List ℕ) → objects_from n (piece ∷ []) ≡ last_piece n piece
unfolding objects_from
last_line n piece = refl

pub from_first : (text : List ℕ) → behind [] (objects_from 1 (pieces 10 text)) ≡ report_json text
unfolding report_json
from_first text = behind_none (objects_from 1 (pieces 10 text))

object_shown : (n : ℕ) (o : Option (List ℕ)) (old new : List ℕ) (rest : Result (List ℕ) ReportFault) → AddsWhere true o old new → behind old (with_object n o rest) ≡ behind new rest
object_shown n (Some object) old new rest adds = behind_more old object n rest ∙ ap (λ t. behind t rest) (sym adds)
object_shown n None old new rest adds = absurd adds

object_refused : (n : ℕ) (o : Option (List ℕ)) (old new : List ℕ) (rest : Result (List ℕ) ReportFault) → AddsWhere false o old new → behind old (with_object n o rest) ≡ Err (NoLine n)
object_refused n (Some object) old new rest adds = absurd adds
object_refused n None old new rest adds = refl

pub line_shown : (n : ℕ) (old new text piece rest : List ℕ) (all : Result (List ℕ) ReportFault) (shown : Bool) → pieces 10 text ≡ piece ∷ pieces 10 rest → shown ≡ true → AddsWhere shown (object_of piece) old new
    → behind old (objects_from n (pieces 10 text)) ≡ all → behind new (objects_from (n + 1) (pieces 10 rest)) ≡ all
line_shown n old new text piece rest all shown split is adds told =
    let P : Bool → Type 0 = λ b. AddsWhere b (object_of piece) old new in
    sym (object_shown n (object_of piece) old new (objects_from (n + 1) (pieces 10 rest)) (subst P is adds))
    ∙ ap (behind old) (sym (ap (objects_from n) split ∙ next_line n piece rest))
    ∙ told

pub line_refused : (n : ℕ) (old new text piece rest : List ℕ) (all : Result (List ℕ) ReportFault) (shown : Bool) → pieces 10 text ≡ piece ∷ pieces 10 rest → shown ≡ false → AddsWhere shown (object_of piece) old new
    → behind old (objects_from n (pieces 10 text)) ≡ all → all ≡ Err (NoLine n)
line_refused n old new text piece rest all shown split is adds told =
    let P : Bool → Type 0 = λ b. AddsWhere b (object_of piece) old new in
    sym told ∙ ap (behind old) (ap (objects_from n) split ∙ next_line n piece rest)
    ∙ object_refused n (object_of piece) old new (objects_from (n + 1) (pieces 10 rest)) (subst P is adds)

pub shown_whole : (n : ℕ) (objects text : List ℕ) (all : Result (List ℕ) ReportFault) → pieces 10 text ≡ text ∷ [] → true ≡ (length text == 0)
    → behind objects (objects_from n (pieces 10 text)) ≡ all → all ≡ Ok objects
shown_whole n objects [] all split none told = sym told ∙ ap (behind objects) (ap (objects_from n) split ∙ last_line n []) ∙ ap (λ (t : List ℕ). Ok t) (append-nil objects)
shown_whole n objects (b ∷ text) all split none told = let e : length (b ∷ text) ≡ 0 = eqb-true (length (b ∷ text)) 0 (sym none) in absurd (omega (arith, e))

pub shown_in_part : (n : ℕ) (objects text : List ℕ) (all : Result (List ℕ) ReportFault) → pieces 10 text ≡ text ∷ [] → false ≡ (length text == 0)
    → behind objects (objects_from n (pieces 10 text)) ≡ all → all ≡ Err (NoLine n)
shown_in_part n objects [] all split some told = absurd cc
shown_in_part n objects (b ∷ text) all split some told = sym told ∙ ap (behind objects) (ap (objects_from n) split ∙ last_line n (b ∷ text))
