-- The goals of `columns::Columns::set_code` that no tactic closes.
use Rattle.std.proofs.Common.{refl, ◌∙◌}
use Rattle.nr_columns.proofs.Steps.{code_column, wrote, stays, shows}
use Rattle.nr_columns.proofs.columns.Columns.set_code.Goals as goal

pub invariant_of-self-2 : goal.invariant_of-self-2
invariant_of-self-2 g c =
    let wrote_it = c.in_ok-set.ensures in
    stays (wrote code_column _ _ _ c.args.id.now c.args.code.now wrote_it.ok (c.as_slice.ensures ∙ c.in_ok-key.ensures.text) refl refl) c.self.invariant wrote_it.marks

pub returns-clause-ok : goal.returns-clause-ok
returns-clause-ok g c =
    let wrote_it = c.in_ok-set.ensures in
    shows (wrote code_column _ _ _ c.args.id.now c.args.code.now wrote_it.ok (c.as_slice.ensures ∙ c.in_ok-key.ensures.text) refl refl) c.self.view_is wrote_it.marks wrote_it.spare
