-- Where the inputs of a receipt clash with nothing, they are distinct and awaited by none.
use Rattle.std.proofs.Common.{◌≡◌, ℕ, Bool, true, false, cond, ◌||◌, List, [], ◌∷◌, map, Option, Some, None, refl, ap, ◌∙◌}
use Rattle.std.specs.Prelude.{bytes_eq, is_some}
use Rattle.std.specs.List.{list_any, find}
use Rattle.std.specs.Option.{option_or, option_map}
use Rattle.nr_ids.specs.declared.key.Hash32.{Hash32}
use Rattle.nr_join.specs.Offering.{first_repeated, first_awaited, inputs_held}
use Rattle.nr_join.specs.declared.offered.Held.TheVariants.{SameInput, Awaited}
use Rattle.nr_records.specs.declared.receipt.Receipt.{Receipt}
use Rattle.nr_state.specs.Flat.{inputs_of}
use Rattle.nr_state.specs.Queues.{awaited_by, has_awaited}
use Rattle.nr_state.specs.Repeats.{has_repeat}
use Rattle.nr_state.specs.View.{repeats_input}
use Rattle.nr_state.specs.World.{World}

-- ---- no repeat
bytes_among : (a : List ℕ) (ids : List Hash32) → list_any (bytes_eq a) (map (λ input. input.0) ids) ≡ list_any (λ other. bytes_eq a other.0) ids
bytes_among a [] = refl
bytes_among a (id ∷ ids) = ap (λ b. bytes_eq a id.0 || b) (bytes_among a ids)

none_repeats : (ids : List Hash32) → first_repeated ids ≡ None → has_repeat (map (λ input. input.0) ids) ≡ false
none_repeats [] e = refl
none_repeats (id ∷ ids) e = ap (λ b. b || has_repeat (map (λ input. input.0) ids)) (bytes_among id.0 ids) ∙ by (list_any (λ other. bytes_eq id.0 other.0) ids) e (none_repeats ids)
  where
    by : (b : Bool) → cond b (Some id) (first_repeated ids) ≡ None → (first_repeated ids ≡ None → has_repeat (map (λ input. input.0) ids) ≡ false) → (b || has_repeat (map (λ input. input.0) ids)) ≡ false
    by true h rest = absurd cc
    by false h rest = rest h

-- ---- nothing found
none_found : {A : Type 0} (p : A → Bool) (xs : List A) → find p xs ≡ None → list_any p xs ≡ false
none_found p [] e = refl
none_found p (x ∷ xs) e = by (p x) e (none_found p xs)
  where
    by : (b : Bool) → cond b (Some x) (find p xs) ≡ None → (find p xs ≡ None → list_any p xs ≡ false) → (b || list_any p xs) ≡ false
    by true h rest = absurd cc
    by false h rest = rest h

-- ---- neither
none_held : (a b : Option Hash32) → option_or (option_map SameInput a) (option_map Awaited b) ≡ None → (a ≡ None) × (b ≡ None)
none_held None None e = (refl, refl)
none_held None (Some id) e = absurd cc
none_held (Some id) b e = absurd cc

pub distinct_inputs : (w : World) (r : Receipt) → inputs_held w r ≡ None → repeats_input r ≡ false
distinct_inputs w r e = none_repeats (inputs_of r.body) (none_held (first_repeated (inputs_of r.body)) (first_awaited w r.receiver (inputs_of r.body)) e).0

pub unawaited_inputs : (w : World) (r : Receipt) → inputs_held w r ≡ None → has_awaited w r ≡ false
unawaited_inputs w r e =
    none_found (λ input. is_some (awaited_by w r.receiver input)) (inputs_of r.body) (none_held (first_repeated (inputs_of r.body)) (first_awaited w r.receiver (inputs_of r.body)) e).1
