-- The entries of a state are those of its world, and the world can be made of them again.
use Rattle.std.proofs.Common.{◌≡◌, Bool, true, List, [], sym, ap, subst, ◌∙◌}
use Rattle.std.specs.Prelude.{Result, Ok, Err, IfOk}
use Rattle.std.specs.FinMap.{entries, from_entries, get-entries, get-from_entries, same_map}
use Rattle.std.specs.List.{AllByRecursion}
use Rattle.std.specs.Cmp.Lexicographic.{nat_list_cmp_total}
use Rattle.std.proofs.lemmas.Map.Lookups.{exact_bytes}
use Rattle.nr_config.specs.Config.{Config}
use Rattle.nr_columns.proofs.Empty.{entries_empty, is_laid_empty, no_columns_in}
use Rattle.nr_columns.specs.Columns.{Columns, laid_columns, no_columns}
use Rattle.nr_columns.specs.Entries.{contents_of, pairs_of}
use Rattle.nr_columns.specs.View.{ColumnsView, columns_in}
use Rattle.nr_columns.specs.declared.entry.Entry.{Entry}
use Rattle.nr_state.specs.Entries.{IsReadBack}
use Rattle.nr_state.specs.FromEntries.{AreWholeEntries, world_from}
use Rattle.nr_state.specs.Flat.{columns_of, flat}
use Rattle.nr_state.specs.View.{ArePostponed, IsWhole, IsState, StateView, state_view, world_in}
use Rattle.nr_state.specs.World.{World, no_world, bytes_cmp}
use Rattle.nr_state.specs.Worlds.{IsWorld}
use Rattle.nr_state.proofs.QueueNumbers.{world_back}
use Rattle.nr_state.proofs.WholeStates.{whole_none}
use Rattle.nr_state.proofs.WorldsRead.{world_read}
use Rattle.nr_triedef.specs.Root.{Contents}

pub if_ok : {A E : Type 0} (r : Result A E) (P Q : A → Type 0) → ((x : A) → P x → Q x) → IfOk r P → IfOk r Q
if_ok (Ok x) P Q f p = f x p
if_ok (Err e) P Q f p = p

-- contents are those that their entries stand for
back : (c : Contents) → from_entries (entries c) ≡ c
back c =
    same_map nat_list_cmp_total exact_bytes (from_entries (entries c)) c
    (λ q. get-from_entries nat_list_cmp_total (entries c) q ∙ sym (get-entries c q))

module _ (k : Columns) (es : List Entry) (read : columns_in (laid_columns k) ≡ k) (are : pairs_of es ≡ entries (laid_columns k)) where
  contents_are : contents_of es ≡ laid_columns k
  contents_are = ap from_entries are ∙ back (laid_columns k)

  columns_are : columns_in (contents_of es) ≡ k
  columns_are = ap columns_in contents_are ∙ read

  whole_of : IsWhole k → AreWholeEntries es
  whole_of whole = record {
    entries = record {
      laid = ap laid_columns columns_are ∙ sym contents_are;
      order = ap entries contents_are ∙ sym are;
    };
    whole = subst IsWhole (sym columns_are) whole;
  }

pub whole_entries : (v : ColumnsView) (c : Config) (whole : Bool) (s : StateView) (es : List Entry) → state_view v c whole ≡ s → IsState v whole
    → columns_in (laid_columns v.columns) ≡ v.columns → s.whole ≡ true → pairs_of es ≡ entries (laid_columns v.columns) → AreWholeEntries es
whole_entries v c whole s es e is read h are = whole_of v.columns es read are (is.here (ap (λ t. t.whole) e ∙ h))

pub world_again : (v : ColumnsView) (c : Config) (whole : Bool) (s : StateView) (es : List Entry) → state_view v c whole ≡ s
    → columns_in (laid_columns v.columns) ≡ v.columns → pairs_of es ≡ entries (laid_columns v.columns) → world_from es ≡ s.world
world_again v c whole s es e read are = ap world_in (columns_are v.columns es read are) ∙ ap (λ t. t.world) e

-- a state over the columns that such entries stand for
pub state_from : (v : ColumnsView) (es : List Entry) → AreWholeEntries es → v.columns ≡ columns_in (contents_of es) → v.marks ≡ [] → IsState v true
state_from v es are here none = record {
  here = λ _. subst IsWhole (sym here) are.whole;
  marks = subst (AllByRecursion IsWhole) (sym none) tt;
}

-- ---- the entries of any world whose records fit their fields
module _ (w : World) (fits : IsWorld w) (are : ArePostponed w) where
  whole_columns : IsWhole (columns_of w)
  whole_columns = record {
    derived = ap columns_of (world_back w);
    postponed = subst ArePostponed (sym (world_back w)) are;
    fits = subst IsWorld (sym (world_back w)) fits;
  }

  pub entries_whole : (es : List Entry) → pairs_of es ≡ entries (flat w) → AreWholeEntries es
  unfolding flat
  entries_whole es is = whole_of (columns_of w) es (world_read w fits are) is whole_columns

  pub entries_again : (es : List Entry) → pairs_of es ≡ entries (flat w) → world_from es ≡ w
  unfolding flat
  entries_again es is = ap world_in (columns_are (columns_of w) es (world_read w fits are) is) ∙ world_back w

-- ---- the world of whole entries
module _ (es : List Entry) (are : AreWholeEntries es) where
  pub world_fits : IsWorld (world_from es)
  world_fits = are.whole.fits

  pub world_postponed : ArePostponed (world_from es)
  world_postponed = are.whole.postponed

  pub flat_again : flat (world_from es) ≡ contents_of es
  unfolding flat
  flat_again = ap laid_columns are.whole.derived ∙ are.entries.laid

  pub pairs_again : entries (flat (world_from es)) ≡ pairs_of es
  pairs_again = ap entries flat_again ∙ are.entries.order

  pub read_again : IsReadBack (world_from es)
  read_again = ap columns_in flat_again ∙ sym are.whole.derived

-- ---- no entries
abbrev nothing : List Entry
nothing = []

columns_none : columns_in (contents_of nothing) ≡ no_columns
columns_none = no_columns_in

pub none_whole : AreWholeEntries []
none_whole = record {
  entries = record { laid = is_laid_empty; order = entries_empty bytes_cmp };
  whole = subst IsWhole (sym columns_none) whole_none;
}

pub none_again : world_from [] ≡ no_world
none_again = ap world_in columns_none
