-- The goals of `columns::Columns::code` that no tactic closes.
use Rattle.std.proofs.Common.{refl, ap, ◌∙◌}
use Rattle.std.specs.FinMap as map
use Rattle.nr_columns.proofs.Steps.{code_column, found, as_read}
use Rattle.nr_columns.proofs.columns.Columns.code.Goals as goal

pub returns : goal.returns
returns g c =
    c.get.ensures ∙ as_read _ ∙ found code_column _ _ c.args.id.now (c.as_slice.ensures ∙ c.in_ok-key.ensures.text) refl
    ∙ ap (λ v. map.get v.columns.code c.args.id.now) c.self.view_is
