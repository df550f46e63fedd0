-- The goals of `body::Body::of` that no tactic closes.
use Rattle.std.proofs.Common.{◌∙◌, sym}
use Rattle.nr_trienodes.proofs.Rows.{none_there}
use Rattle.nr_trienodes.proofs.body.Body.of.Goals as goal

pub returns-then-is_alone-clause-row : goal.returns-then-is_alone-clause-row
returns-then-is_alone-clause-row c =
    c.alone.ensures.row ∙ none_there c.args.row.now c.told-row (sym c.is_alone.ensures ∙ c.if-is_alone.true)
