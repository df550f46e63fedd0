-- The goals of `columns::Columns::set_spelled_key` that no tactic closes.
use Rattle.std.proofs.Common.{ap, ◌∙◌}
use Rattle.std.specs.FinMap.{insert}
use Rattle.nr_columns.proofs.SpelledKeys.{read_again}
use Rattle.nr_columns.proofs.Steps.{keys_column, wrote, stays, shows}
use Rattle.nr_columns.proofs.columns.Columns.set_spelled_key.Goals as goal

pub invariant_of-self-2 : goal.invariant_of-self-2
invariant_of-self-2 g c =
    let set = c.in_ok-set.ensures in
    stays (wrote keys_column _ _ _ (c.args.id.now, c.args.key.now) c.args.access.now (set.ok ∙ ap (insert _ _) c.bytes.ensures.spelled) (c.as_slice.ensures ∙ c.in_ok-slot.ensures.text) c.in_ok-slot.ensures.there (read_again _ c.bytes.ensures.fits)) c.self.invariant set.marks

pub returns-clause-ok : goal.returns-clause-ok
returns-clause-ok g c =
    let set = c.in_ok-set.ensures in
    shows (wrote keys_column _ _ _ (c.args.id.now, c.args.key.now) c.args.access.now (set.ok ∙ ap (insert _ _) c.bytes.ensures.spelled) (c.as_slice.ensures ∙ c.in_ok-slot.ensures.text) c.in_ok-slot.ensures.there (read_again _ c.bytes.ensures.fits)) c.self.view_is set.marks set.spare
