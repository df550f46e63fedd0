-- The goals of `reading::value_of` that no tactic closes.
use Rattle.std.proofs.Common.{◌≡◌, ◌∙◌, None, Some, ap, option_and_then}
use Rattle.clap.specs.Words.{first_of, found_of, rows_of}
use Rattle.clap.proofs.WalkLemmas.{first_value-rows}
use Rattle.nr_words.specs.Forms.{name_of, place_value}
use Rattle.nr_words.specs.Words.{place_in}
use Rattle.nr_words.proofs.reading.value_of.Goals as goal

pub returns-in-Some : goal.returns-in-Some
returns-in-Some c =
    let f = found_of c.args.found.now in
    let word : Some c.in-Some.word.now ≡ first_of (name_of (place_in c.args.place.now)) (rows_of f) = c.in-Some.ensures ∙ first_value-rows f c.name_of.result.now ∙ ap (λ n. first_of n (rows_of f)) c.name_of.ensures in
    c.value_at.ensures ∙ ap (option_and_then (place_value (place_in c.args.place.now))) word

pub returns-in-None : goal.returns-in-None
returns-in-None c =
    let f = found_of c.args.found.now in
    let word : None ≡ first_of (name_of (place_in c.args.place.now)) (rows_of f) = c.in-None.ensures ∙ first_value-rows f c.name_of.result.now ∙ ap (λ n. first_of n (rows_of f)) c.name_of.ensures in
    ap (option_and_then (place_value (place_in c.args.place.now))) word
