-- Whether one of the values that are left has a float.
use Rattle.std.proofs.Common.{◌≡◌, ℕ, ◌+◌, ◌<◌, ◌≤◌, Bool, true, false, ◌||◌, List, length, drop, get_or}
use Rattle.std.proofs.Common.{sym, ap, ◌∙◌}
use Rattle.std.proofs.lemmas.List.{drop_more, drop_all}
use Rattle.serde_json.specs.View.{view, items_view}
use Rattle.serde_json.specs.Written.{has_float, items_have_float}
use Rattle.serde_json.specs.declared.value.Value.{Value}

one_more : (values : List Value) (i : ℕ) (s : Value) → i < length values → items_have_float (items_view (drop i values)) ≡ (has_float (view (get_or values i s)) || items_have_float (items_view (drop (i + 1) values)))
one_more values i s within = ap (λ vs. items_have_float (items_view vs)) (drop_more values i s within)

pub item_has : (values : List Value) (i : ℕ) (s : Value) (all : Bool) → i < length values → true ≡ has_float (view (get_or values i s)) → items_have_float (items_view (drop i values)) ≡ all → true ≡ all
item_has values i s all within has so_far =
    let step : items_have_float (items_view (drop i values)) ≡ true = one_more values i s within ∙ ap (λ b. b || items_have_float (items_view (drop (i + 1) values))) (sym has) in
    sym step ∙ so_far

pub item_lacks : (values : List Value) (i : ℕ) (s : Value) (all : Bool) → i < length values → false ≡ has_float (view (get_or values i s)) → items_have_float (items_view (drop i values)) ≡ all
    → items_have_float (items_view (drop (i + 1) values)) ≡ all
item_lacks values i s all within lacks so_far =
    let step : items_have_float (items_view (drop i values)) ≡ items_have_float (items_view (drop (i + 1) values)) =
    one_more values i s within ∙ ap (λ b. b || items_have_float (items_view (drop (i + 1) values))) (sym lacks) in
    sym step ∙ so_far

pub items_lack : (values : List Value) (i : ℕ) (all : Bool) → length values ≤ i → items_have_float (items_view (drop i values)) ≡ all → false ≡ all
items_lack values i all past so_far = sym (ap (λ vs. items_have_float (items_view vs)) (drop_all i values past)) ∙ so_far
