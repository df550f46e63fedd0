-- Which changes keep a state's columns those of its world.
use Rattle.std.proofs.Common.{◌≡◌, ℕ, Bool, true, List, [], map, Ordering, sym, ap, ◌∙◌, subst}
use Rattle.std.specs.FinMap.{FinMap, empty, entries, from_entries, len-entries, len-empty, get-empty}
use Rattle.std.specs.List.{AllByRecursion, flat_map}
use Rattle.std.proofs.lemmas.List.{nil_from_length}
use Rattle.nr_bytes.proofs.Basics.{none≢some}
use Rattle.nr_config.specs.Config.{Config}
use Rattle.nr_records.specs.declared.access_key.AccessKey.{AccessKey}
use Rattle.nr_records.specs.declared.account.Account.{Account}
use Rattle.nr_records.specs.declared.receipt.Receipt.{Receipt}
use Rattle.nr_columns.specs.Columns.{Columns, no_columns, laid_columns}
use Rattle.nr_columns.specs.Orders.{bytes_cmp, pair_cmp, key_cmp}
use Rattle.nr_columns.specs.View.{ColumnsView, with_columns}
use Rattle.nr_state.specs.Flat.{columns_of, awaits, awaited_in, missing_in, missing_inputs, flat}
use Rattle.nr_state.specs.View.{world_in, IsWhole, IsState, StateView, state_view}
use Rattle.nr_state.specs.World.{no_world}
use Rattle.nr_state.specs.Worlds.{IsWorld}
use Rattle.nr_state.proofs.Worlds.{none_fits}

-- ---- nothing yet
entries_empty : {K X : Type 0} (R : K → K → Ordering) → entries (empty {X = X} {R = R}) ≡ []
entries_empty {X = X} R = nil_from_length _ (sym (len-entries empty) ∙ len-empty R X)

awaited_none : awaited_in no_world ≡ empty
awaited_none = ap {A = List ((List ℕ × List ℕ) × Receipt)} (λ es. from_entries (flat_map awaits (map (λ e. e.1) es))) (entries_empty pair_cmp)

missing_none : missing_in no_world ≡ empty
missing_none = ap {A = List ((List ℕ × List ℕ) × Receipt)} (λ es. from_entries (map (λ e. (e.0, missing_inputs no_world e.1)) es)) (entries_empty pair_cmp)

pub whole_none : IsWhole no_columns
whole_none =
    record {
      derived = λ i. record no_columns { awaited = awaited_none i; missing = missing_none i };
      postponed = record {
        each = λ k r e. absurd (none≢some r (sym (get-empty pair_cmp k) ∙ e));
        apart = λ j k q r id e f. absurd (none≢some q (sym (get-empty pair_cmp j) ∙ e));
      };
      fits = none_fits;
    }

pub state_none : (v : ColumnsView) → v.columns ≡ no_columns → v.marks ≡ [] → IsState v true
state_none v e f = record { here = λ _. subst IsWhole (sym e) whole_none; marks = subst (AllByRecursion IsWhole) (sym f) tt }

-- ---- the contents are those of the world
pub flat_here : (v : ColumnsView) (c : Config) (whole : Bool) (s : StateView) → state_view v c whole ≡ s → s.whole ≡ true → IsState v whole → flat s.world ≡ laid_columns v.columns
unfolding flat
flat_here v c whole s e h is = ap (λ t. laid_columns (columns_of t.world)) (sym e) ∙ ap laid_columns (is.here (ap (λ t. t.whole) e ∙ h)).derived

-- ---- a change of accounts, keys, code and data keeps what is derived
module _ (a : FinMap bytes_cmp Account) (ks : FinMap key_cmp AccessKey) (c : FinMap bytes_cmp (List ℕ)) (d : FinMap pair_cmp (List ℕ)) where
  abbrev owning : Columns → Columns
  owning j = record j { accounts = a; keys = ks; code = c; data_of = d }

  whole_owning : (k : Columns) → IsWhole k → (IsWorld (world_in k) → IsWorld (world_in (owning k))) → IsWhole (owning k)
  whole_owning k h fits = record { derived = ap owning h.derived; postponed = record { each = h.postponed.each; apart = h.postponed.apart }; fits = fits h.fits }

  pub state_owning : (u v : ColumnsView) (old new : Bool) → v ≡ with_columns u (owning u.columns) → IsState u old → (new ≡ true → old ≡ true) → (IsWorld (world_in u.columns) → IsWorld (world_in (owning u.columns))) → IsState v new
  state_owning u v old new e is h fits =
      record {
        here = λ t. subst (λ w. IsWhole w.columns) (sym e) (whole_owning u.columns (is.here (h t)) fits);
        marks = subst (λ w. AllByRecursion IsWhole w.marks) (sym e) is.marks;
      }
