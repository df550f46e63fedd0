-- The goals of `columns::Columns::set_queue` that no tactic closes.
use Rattle.std.proofs.Common.{refl}
use Rattle.nr_columns.proofs.Steps.{queue_wrote, stays, shows}
use Rattle.nr_columns.proofs.columns.Columns.set_queue.Goals as goal

pub invariant_of-self-2 : goal.invariant_of-self-2
invariant_of-self-2 g c =
    let wrote_it = c.in_ok-put_queue.ensures in
    stays (queue_wrote _ _ _ (c.args.served, c.args.next) wrote_it.ok refl wrote_it.back) c.self.invariant wrote_it.marks

pub returns-clause-ok : goal.returns-clause-ok
returns-clause-ok g c =
    let wrote_it = c.in_ok-put_queue.ensures in
    shows (queue_wrote _ _ _ (c.args.served, c.args.next) wrote_it.ok refl wrote_it.back) c.self.view_is wrote_it.marks wrote_it.spare
