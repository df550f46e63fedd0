-- The goals of `columns::Columns::entries` that no tactic closes.
use Rattle.std.proofs.Common.{sym, ap, ◌∙◌}
use Rattle.std.specs.FinMap as map
use Rattle.std.specs.List.{flat_map}
use Rattle.nr_columns.specs.Columns.{laid_columns}
use Rattle.nr_columns.specs.Entries.{pairs_of, pair_at}
use Rattle.nr_columns.proofs.KeyLists.{all_read}
use Rattle.nr_columns.proofs.columns.Columns.entries.Goals as goal

pub returns : goal.returns
returns g c =
    let m = g.S.Store.contents c.self.inside.store in
    ap pairs_of c.of.ensures ∙ c.in_ok-found.ensures ∙ ap (flat_map (pair_at m)) (c.into_inner.ensures ∙ c.in_ok-keys.ensures) ∙ all_read m
    ∙ ap map.entries (sym c.self.invariant.here ∙ ap (λ v. laid_columns v.columns) c.self.view_is)
