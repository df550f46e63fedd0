-- The goals of `columns::Columns::set_postponed` that no tactic closes.
use Rattle.std.proofs.Common.{ap, ◌∙◌}
use Rattle.nr_columns.specs.Tables.{read_of}
use Rattle.nr_columns.proofs.Steps.{postponed_column, wrote, stays, shows}
use Rattle.nr_columns.proofs.columns.Columns.set_postponed.Goals as goal

pub invariant_of-self-2 : goal.invariant_of-self-2
invariant_of-self-2 g c =
    let wrote_it = c.in_ok-put.ensures in
    stays (wrote postponed_column _ _ _ (c.args.receiver.now, c.args.receipt_id.now.0) c.args.receipt.now wrote_it.ok (c.as_slice.ensures ∙ c.in_ok-key.ensures.text) c.in_ok-key.ensures.there (ap read_of wrote_it.back)) c.self.invariant wrote_it.marks

pub returns-clause-ok : goal.returns-clause-ok
returns-clause-ok g c =
    let wrote_it = c.in_ok-put.ensures in
    shows (wrote postponed_column _ _ _ (c.args.receiver.now, c.args.receipt_id.now.0) c.args.receipt.now wrote_it.ok (c.as_slice.ensures ∙ c.in_ok-key.ensures.text) c.in_ok-key.ensures.there (ap read_of wrote_it.back)) c.self.view_is wrote_it.marks wrote_it.spare
