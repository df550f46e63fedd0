-- A change of the columns that is one of the world.
use Rattle.std.proofs.Common.{◌≡◌, Bool, true, sym, ap, subst, ◌∙◌}
use Rattle.std.specs.List.{AllByRecursion}
use Rattle.nr_config.specs.Config.{Config}
use Rattle.nr_columns.specs.Columns.{Columns}
use Rattle.nr_columns.specs.View.{ColumnsView, with_columns}
use Rattle.nr_state.specs.World.{World}
use Rattle.nr_state.specs.Flat.{columns_of}
use Rattle.nr_state.specs.View.{world_in, ArePostponed, IsWhole, StateView, state_view, with_world, IsState}
use Rattle.nr_state.specs.Worlds.{IsWorld}
use Rattle.nr_state.proofs.QueueNumbers.{world_back}

-- the columns follow the world
pub record Follows (after : World) (k : Columns) : Type 0 where
  pub columns : columns_of after ≡ k
  pub postponed : ArePostponed after

-- a state is shown
pub record Shows (v : ColumnsView) (config : Config) (whole : Bool) (s : StateView) : Type 0 where
  pub is : IsState v whole
  pub view : state_view v config whole ≡ s
  pub whole_before : s.whole ≡ true

module _ {v : ColumnsView} {config : Config} {whole : Bool} {s : StateView} (shows : Shows v config whole s) where
  is_whole : IsWhole v.columns
  is_whole = shows.is.here (ap (λ t. t.whole) shows.view ∙ shows.whole_before)

  -- its columns are those of its world
  pub columns_shown : v.columns ≡ columns_of s.world
  columns_shown = sym is_whole.derived ∙ ap (λ t. columns_of t.world) shows.view

  pub are_postponed : ArePostponed s.world
  are_postponed = subst (λ t. ArePostponed t.world) shows.view is_whole.postponed

  pub fits_shown : IsWorld s.world
  fits_shown = subst (λ t. IsWorld t.world) shows.view is_whole.fits

  pub moved : (f : Columns → Columns) (n : ColumnsView) (w : World) → n ≡ with_columns v (f v.columns) → Follows w (f (columns_of s.world)) → IsWorld w → IsState n true × (state_view n config true ≡ with_world s w)
  moved f n w e follows fits =
      let back : f v.columns ≡ columns_of w = ap f columns_shown ∙ sym follows.columns in
      let there : n.columns ≡ columns_of w = ap (λ m. m.columns) e ∙ back in (
        record {
          here = λ _. record {
            derived = subst (λ k. columns_of (world_in k) ≡ k) (sym there) (ap columns_of (world_back w));
            postponed = subst ArePostponed (sym (ap world_in there ∙ world_back w)) follows.postponed;
            fits = subst IsWorld (sym (ap world_in there ∙ world_back w)) fits;
          };
          marks = subst (AllByRecursion IsWhole) (sym (ap (λ m. m.marks) e)) shows.is.marks;
        },
        ap (λ m. state_view m config true) e
            ∙ (λ i. record (state_view v config true) { world = (ap world_in back ∙ world_back w) i })
            ∙ (λ i. record (shows.view i) { world = w; whole = sym shows.whole_before i }),
      )
