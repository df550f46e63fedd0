-- A report as JSON, an object for each line. This project's own.
use Rattle.std.specs.Prelude.{ℕ, ◌+◌, List, [], ◌∷◌, ◌++◌, Option, Some, None, Result, Ok, Err}
use Rattle.nr_explain.specs.Words.{pieces}
use Rattle.nr_explain.specs.Lines.{object_of}
use Rattle.nr_explain.specs.declared.report.ReportFault.{ReportFault}
use Rattle.nr_explain.specs.declared.report.ReportFault.TheVariants.{NoLine}

abbrev pub with_object : ℕ → Option (List ℕ) → Result (List ℕ) ReportFault → Result (List ℕ) ReportFault
with_object n None rest = Err (NoLine n)
with_object n (Some object) (Ok objects) = Ok (object ++ objects)
with_object n (Some object) (Err fault) = Err fault

-- nothing stands behind the last line feed
abbrev pub last_piece : ℕ → List ℕ → Result (List ℕ) ReportFault
last_piece n [] = Ok []
last_piece n (b ∷ bytes) = Err (NoLine n)

unfoldable pub objects_from : ℕ → List (List ℕ) → Result (List ℕ) ReportFault
objects_from n [] = Ok []
objects_from n (piece ∷ []) = last_piece n piece
objects_from n (piece ∷ next ∷ more) = with_object n (object_of piece) (objects_from (n + 1) (next ∷ more))

-- the objects of all lines, which count from 1, or the first that is none of a report
unfoldable pub report_json : List ℕ → Result (List ℕ) ReportFault
report_json text = objects_from 1 (pieces 10 text)
