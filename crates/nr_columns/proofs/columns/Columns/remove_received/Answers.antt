-- The goals of `columns::Columns::remove_received` that no tactic closes.
use Rattle.std.proofs.Common.{ap, ◌∙◌}
use Rattle.std.specs.Prelude.{is_some}
use Rattle.std.specs.FinMap as map
use Rattle.nr_columns.proofs.Steps.{received_column, took, present, stays, shows}
use Rattle.nr_columns.proofs.columns.Columns.remove_received.Goals as goal

pub invariant_of-self-2 : goal.invariant_of-self-2
invariant_of-self-2 g c =
    let removed = c.in_ok-found.ensures in
    stays (took received_column _ _ _ (c.args.receiver.now, c.args.data_id.now.0) removed.ok (c.as_slice.ensures ∙ c.in_ok-key.ensures.text) c.in_ok-key.ensures.there) c.self.invariant removed.marks

pub returns-clause-found : goal.returns-clause-found
returns-clause-found g c =
    c.in_ok-found.ensures.found
    ∙ present received_column _ _ (c.args.receiver.now, c.args.data_id.now.0) c.self.invariant.here (c.as_slice.ensures ∙ c.in_ok-key.ensures.text) c.in_ok-key.ensures.there
    ∙ ap (λ v. is_some (map.get v.columns.received (c.args.receiver.now, c.args.data_id.now.0))) c.self.view_is

pub returns-clause-ok : goal.returns-clause-ok
returns-clause-ok g c =
    let removed = c.in_ok-found.ensures in
    shows (took received_column _ _ _ (c.args.receiver.now, c.args.data_id.now.0) removed.ok (c.as_slice.ensures ∙ c.in_ok-key.ensures.text) c.in_ok-key.ensures.there) c.self.view_is removed.marks removed.spare
