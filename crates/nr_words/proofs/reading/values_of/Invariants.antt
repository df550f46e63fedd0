-- What holds at the loops of `reading::values_of`.
use Rattle.std.proofs.Common.{◌≡◌, ◌++◌, List, drop, option_map}
use Rattle.clap.specs.Words.{found_of, rows_of}
use Rattle.nr_words.specs.Forms.{Value}
use Rattle.nr_words.specs.Parsing.{values_by}
use Rattle.nr_words.specs.Words.{places_in, values_in}
use Rattle.nr_words.proofs.reading.values_of.Given as goal

-- what all places give is what there is so far, before what the places that are left give
abbrev pub invariant-loop-place : goal.invariant-loop-place
invariant-loop-place l =
    let rows = rows_of (found_of l.found) in
    values_by (places_in l.places) rows ≡ option_map (λ (rest : List Value). values_in l.values ++ rest) (values_by (places_in (drop l.place-index l.places)) rows)
