-- The goals of `rows::push_report` that no tactic closes.
use Rattle.std.proofs.Common.{◌∷◌, ◌++◌, [], Some, ap, ◌∙◌}
use Rattle.std.specs.Prelude.{box_value}
use Rattle.std.specs.Option.{option_map}
use Rattle.nr_outcome.specs.Rows.{reports_in}
use Rattle.nr_outcome.proofs.Lists.{map_snoc}
use Rattle.nr_outcome.proofs.rows.push_report.Goals as goal

pub returns : goal.returns
returns g c =
    ap reports_in c.in_ok-push.ensures.items ∙ map_snoc (option_map box_value) c.args.row.now.items (Some c.in_ok-new.field-0)
    ∙ ap (λ x. reports_in c.args.row.now.items ++ Some x ∷ []) c.in_ok-new.ensures.ok
