-- The goals of `columns::Columns::accounts` that no tactic closes.
use Rattle.std.proofs.Common.{ap, ◌∙◌}
use Rattle.std.specs.FinMap.{values}
use Rattle.nr_columns.proofs.InOrder.{accounts_listed, found_in}
use Rattle.nr_columns.proofs.columns.Columns.accounts.Goals as goal

pub returns : goal.returns
returns g c =
    let m = g.S.Store.contents c.self.inside.store in
    c.of.ensures ∙ c.in_ok-found.ensures ∙ ap (found_in _ m) (c.inner.ensures ∙ c.in_ok-keys.ensures) ∙ accounts_listed m c.self.invariant.here ∙ ap (λ v. values v.columns.accounts) c.self.view_is
