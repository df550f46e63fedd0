-- The goals of `reading::values_of` that no tactic closes.
use Rattle.std.proofs.Common.{◌≡◌, ◌∙◌, ◌+◌, ◌++◌, List, [], ◌∷◌, ap, drop, map, option_map, sym}
use Rattle.std.proofs.lemmas.List.{map_push}
use Rattle.clap.specs.Words.{found_of, rows_of}
use Rattle.nr_words.specs.Forms.{Value}
use Rattle.nr_words.specs.Parsing.{values_by}
use Rattle.nr_words.specs.Words.{places_in, value_in}
use Rattle.nr_words.proofs.Steps.{values_end, values_more, values_start, values_stop}
use Rattle.nr_words.proofs.reading.values_of.Goals as goal

pub loop-place-init : goal.loop-place-init
loop-place-init c = values_start (values_by (places_in c.args.places.now) (rows_of (found_of c.args.found.now))) c.new-values.result.items c.new-values.ensures.items

pub returns-in-None : goal.returns-in-None
returns-in-None c =
    let at = c.loop-place in
    sym (at.invariant ∙ values_stop (rows_of (found_of c.args.found.now)) (map value_in at.values.items) c.args.places.now at.place-index _ c.loop-place-test.true c.in-None.ensures)

pub loop-place-preserved : goal.loop-place-preserved
loop-place-preserved c =
    let at = c.loop-place in
    let v = value_in c.in-Some.value in
    let pushed : map value_in c.push.new.self.items ≡ map value_in at.values.items ++ v ∷ [] = ap (map value_in) c.in_ok-push-in-Some.ensures.items ∙ map_push value_in at.values.items c.in-Some.value in
    at.invariant
    ∙ values_more (rows_of (found_of c.args.found.now)) (map value_in at.values.items) c.args.places.now at.place-index _ v c.loop-place-test.true c.in-Some.ensures
    ∙ sym (ap (λ (vs : List Value). option_map (λ (rest : List Value). vs ++ rest) (values_by (places_in (drop (at.place-index + 1) c.args.places.now)) (rows_of (found_of c.args.found.now)))) pushed)

pub returns : goal.returns
returns c =
    let at = c.loop-place in
    sym (at.invariant ∙ values_end (rows_of (found_of c.args.found.now)) (map value_in at.values.items) c.args.places.now at.place-index c.loop-place-test.false)
