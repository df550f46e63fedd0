-- The entry of a number.
use Rattle.std.proofs.Common.{◌≡◌, ℕ, ◌-◌, ◌<◌, ◌≤◌, Bool, true, false, cond, List, length, map, get_or, Some, None, refl, sym, ap, ◌∙◌, arith}
use Rattle.std.specs.Prelude.{nat_lt, option_map, slice_get}
use Rattle.std.proofs.lemmas.Bool.Decides.{nat_tests}
use Rattle.std.proofs.lemmas.List.{length-map}
use Rattle.std.proofs.lemmas.Option.{slice_get-map, slice_get-get_or, slice_get_past}
use Rattle.nr_config.specs.Table.{table}
use Rattle.nr_explain.specs.Entries.{Bounds, entries, nth_entry}

pub entries_count : length entries ≡ 75
unfolding entries table
entries_count = refl

pub past_entries : (n : ℕ) → 75 < n → None ≡ nth_entry n
past_entries n l = by (nat_lt 0 n)
  where
    by : (b : Bool) → None ≡ cond b (slice_get entries (n - 1)) None
    by true = let count = entries_count in sym (slice_get_past entries (n - 1) (omega (arith, l, count)))
    by false = refl

pub an_entry : {X : Type 0} (v : X → Bounds) (xs : List X) (n : ℕ) (d : X) → map v xs ≡ entries → 0 < n → n ≤ 75 → Some (v (get_or xs (n - 1) d)) ≡ nth_entry n
an_entry v xs n d is some few =
    let lt : nat_lt 0 n ≡ true = grind (arith, nat_tests) in
    let count : length xs ≡ 75 = sym (length-map xs v) ∙ ap (λ (t : List Bounds). length t) is ∙ entries_count in
    let within : n - 1 < length xs = omega (arith, some, few, count) in
    ap (option_map v) (sym (slice_get-get_or xs (n - 1) d within)) ∙ sym (slice_get-map v xs (n - 1)) ∙ ap (λ t. slice_get t (n - 1)) is
    ∙ ap (λ b. cond b (slice_get entries (n - 1)) None) (sym lt)
