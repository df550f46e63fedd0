-- The goals of `columns::Columns::remove_account` that no tactic closes.
use Rattle.std.proofs.Common.{refl, ap, ◌∙◌}
use Rattle.std.specs.Prelude.{is_some}
use Rattle.std.specs.FinMap as map
use Rattle.nr_columns.proofs.Steps.{accounts_column, took, present, stays, shows}
use Rattle.nr_columns.proofs.columns.Columns.remove_account.Goals as goal

pub invariant_of-self-2 : goal.invariant_of-self-2
invariant_of-self-2 g c =
    let removed = c.in_ok-found.ensures in
    stays (took accounts_column _ _ _ c.args.id.now removed.ok (c.as_slice.ensures ∙ c.in_ok-key.ensures.text) refl) c.self.invariant removed.marks

pub returns-clause-found : goal.returns-clause-found
returns-clause-found g c =
    c.in_ok-found.ensures.found
    ∙ present accounts_column _ _ c.args.id.now c.self.invariant.here (c.as_slice.ensures ∙ c.in_ok-key.ensures.text) refl
    ∙ ap (λ v. is_some (map.get v.columns.accounts c.args.id.now)) c.self.view_is

pub returns-clause-ok : goal.returns-clause-ok
returns-clause-ok g c =
    let removed = c.in_ok-found.ensures in
    shows (took accounts_column _ _ _ c.args.id.now removed.ok (c.as_slice.ensures ∙ c.in_ok-key.ensures.text) refl) c.self.view_is removed.marks removed.spare
