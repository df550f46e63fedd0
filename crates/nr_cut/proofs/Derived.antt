-- What is derived from postponed receipts, of the part of a world and of worlds side by side.
use Rattle.std.proofs.Common.{◌≡◌, Bool, List, ◌++◌, ℕ, map, Option, Some, None, Ordering, sym, ap, ◌∙◌}
use Rattle.std.specs.Prelude.{not}
use Rattle.std.specs.FinMap.{FinMap, empty, entries, from_entries, get-empty, retain_keys}
use Rattle.std.specs.List.{flat_map}
use Rattle.std.specs.Cmp.Lexicographic.{nat_list_cmp_total}
use Rattle.std.proofs.lemmas.Map.Lookups.{exact_bytes}
use Rattle.nr_columns.specs.Columns.{Columns}
use Rattle.nr_columns.specs.Orders.{pair_cmp}
use Rattle.nr_columns.proofs.Empty.{entries_empty}
use Rattle.nr_cut.specs.Cut.{HasOnly, beside, joined}
use Rattle.nr_records.specs.declared.receipt.Receipt.{Receipt}
use Rattle.nr_state.specs.Flat.{awaited_in, awaits, missing_in, missing_inputs}
use Rattle.nr_state.specs.Keyed.{IsKeyed}
use Rattle.nr_state.specs.Scopes.{all_of, over, over_map, part_of}
use Rattle.nr_state.specs.World.{World, no_world}
use Rattle.nr_state.proofs.Awaiting.{Key}
use Rattle.nr_state.proofs.OverEntries.{columns_both}
use Rattle.nr_state.proofs.OverMaps.{over-empty}
use Rattle.nr_state.proofs.ValidOwned.{exact_data, exact_keys, key_total, pair_total}

-- ---- nothing is derived where nothing waits
none_keyed : IsKeyed no_world
none_keyed k r is = absurd (let e : ◌≡◌ {A = Option Receipt} None (Some r) = sym (get-empty pair_cmp k) ∙ is in cc)

none_awaited : awaited_in no_world ≡ empty
none_awaited = λ i. from_entries (flat_map awaits (map (λ e. e.1) (entries_empty {X = Receipt} pair_cmp i)))

none_missing : missing_in no_world ≡ empty
none_missing = λ i.
    from_entries (map (λ (e : Key × Receipt). (e.0, missing_inputs no_world e.1)) (entries_empty pair_cmp i))

-- ---- of a part
module _ (test : List ℕ → Bool) (w : World) (keyed : IsKeyed w) where
  -- it is put over a world of nothing
  over_none : part_of test w ≡ over (all_of test) w no_world
  over_none = λ i. record (part_of test w) {
    accounts = sym (over-empty nat_list_cmp_total exact_bytes test w.accounts) i;
    keys = sym (over-empty key_total exact_keys (λ k. test k.0) w.keys) i;
    code = sym (over-empty nat_list_cmp_total exact_bytes test w.code) i;
    data_of = sym (over-empty pair_total exact_data (λ k. test k.0) w.data_of) i;
    received = sym (over-empty pair_total exact_data (λ k. test k.0) w.received) i;
    postponed = sym (over-empty pair_total exact_data (λ k. test k.0) w.postponed) i;
  }

  pub awaited_of_part : awaited_in (part_of test w) ≡ retain_keys (awaited_in w) (λ k. test k.0)
  awaited_of_part =
      ap awaited_in over_none
      ∙ ap (λ (k : Columns). k.awaited) (columns_both test w no_world keyed none_keyed)
      ∙ ap (over_map (λ (k : Key). test k.0) (awaited_in w)) none_awaited
      ∙ over-empty pair_total exact_data (λ k. test k.0) (awaited_in w)

  pub missing_of_part : missing_in (part_of test w) ≡ retain_keys (missing_in w) (λ k. test k.0)
  missing_of_part =
      ap missing_in over_none
      ∙ ap (λ (k : Columns). k.missing) (columns_both test w no_world keyed none_keyed)
      ∙ ap (over_map (λ (k : Key). test k.0) (missing_in w)) none_missing
      ∙ over-empty pair_total exact_data (λ k. test k.0) (missing_in w)

-- ---- side by side
-- two maps of which the one has what passes a test, and the other one all else
over_joined : {K X : Type 0} {R : K → K → Ordering} (test : K → Bool) (m n : FinMap R X) → retain_keys m test ≡ m
    → retain_keys n (λ k. not (test k)) ≡ n → over_map test m n ≡ joined m n
unfolding over_map
over_joined test m n e f = λ i. from_entries (entries (e i) ++ entries (f i))

module _ (test : List ℕ → Bool) (a b : World) (one : HasOnly test a) (other : HasOnly (λ id. not (test id)) b)
    (ka : IsKeyed a) (kb : IsKeyed b) where
  abbrev mixed : World
  mixed = over (all_of test) a b

  waiting_alike : record (beside a b) { received = mixed.received; postponed = mixed.postponed } ≡ beside a b
  waiting_alike = λ i. record (beside a b) {
    received =
        over_joined (λ (k : Key). test k.0) a.received b.received (λ j. (one j).received)
        (λ j. (other j).received) i;
    postponed =
        over_joined (λ (k : Key). test k.0) a.postponed b.postponed (λ j. (one j).postponed)
        (λ j. (other j).postponed) i;
  }

  pub awaited_of_both : awaited_in (beside a b) ≡ joined (awaited_in a) (awaited_in b)
  awaited_of_both =
      sym (ap awaited_in waiting_alike)
      ∙ ap (λ (k : Columns). k.awaited) (columns_both test a b ka kb)
      ∙ over_joined (λ (k : Key). test k.0) (awaited_in a) (awaited_in b)
      (sym (awaited_of_part test a ka) ∙ ap awaited_in one)
      (sym (awaited_of_part (λ id. not (test id)) b kb) ∙ ap awaited_in other)

  pub missing_of_both : missing_in (beside a b) ≡ joined (missing_in a) (missing_in b)
  missing_of_both =
      sym (ap missing_in waiting_alike)
      ∙ ap (λ (k : Columns). k.missing) (columns_both test a b ka kb)
      ∙ over_joined (λ (k : Key). test k.0) (missing_in a) (missing_in b)
      (sym (missing_of_part test a ka) ∙ ap missing_in one)
      (sym (missing_of_part (λ id. not (test id)) b kb) ∙ ap missing_in other)
