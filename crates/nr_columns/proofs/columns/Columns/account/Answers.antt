-- The goals of `columns::Columns::account` that no tactic closes.
use Rattle.std.proofs.Common.{refl, ap, subst, ◌∙◌}
use Rattle.std.specs.Prelude.{◌≡◌, IfOk}
use Rattle.std.specs.FinMap as map
use Rattle.nr_columns.proofs.Steps.{accounts_column, found}
use Rattle.nr_columns.proofs.columns.Columns.account.Goals as goal

pub returns : goal.returns
returns g c =
    subst (λ o. IfOk c.stored.result (λ found. found ≡ o))
    (found accounts_column _ _ c.args.id.now (c.as_slice.ensures ∙ c.in_ok-key.ensures.text) refl ∙ ap (λ v. map.get v.columns.accounts c.args.id.now) c.self.view_is) c.stored.ensures
