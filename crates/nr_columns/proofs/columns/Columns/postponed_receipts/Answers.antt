-- The goals of `columns::Columns::postponed_receipts` that no tactic closes.
use Rattle.std.proofs.Common.{◌≡◌, ℕ, List, None, ap, sym, subst, ◌∙◌}
use Rattle.std.specs.Prelude.{IsSome}
use Rattle.std.specs.FinMap.{get, values}
use Rattle.nr_ids.specs.Grammar.{id_fault}
use Rattle.nr_columns.proofs.InOrder.{postponed_listed, found_in}
use Rattle.nr_columns.proofs.columns.Columns.postponed_receipts.Goals as goal

pub returns : goal.returns
returns g c =
    let m = g.S.Store.contents c.self.inside.store in
    c.of.ensures ∙ c.in_ok-found.ensures ∙ ap (found_in _ m) (c.inner.ensures ∙ c.in_ok-keys.ensures)
    ∙ postponed_listed m c.self.invariant.here (subst (λ v. (k : List ℕ × List ℕ) → IsSome (get v.columns.postponed k) → id_fault k.0 ≡ None) (sym c.self.view_is) c.requires)
    ∙ ap (λ v. values v.columns.postponed) c.self.view_is
