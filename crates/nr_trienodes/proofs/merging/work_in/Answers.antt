-- The goals of `merging::work_in` that no tactic closes.
use Rattle.nr_trienodes.proofs.Sets.{extends_trans}
use Rattle.nr_trienodes.proofs.merging.work_in.Goals as goal

pub returns-in_err-found-in-Some-clause-grows : goal.returns-in_err-found-in-Some-clause-grows
returns-in_err-found-in-Some-clause-grows c = extends_trans c.args.nodes.now c.leave.new.nodes c.put_along.new.nodes c.leave.ensures.grows c.put_along.ensures.grows

pub returns-in_ok-found-in-Some-clause-grows : goal.returns-in_ok-found-in-Some-clause-grows
returns-in_ok-found-in-Some-clause-grows c = extends_trans c.args.nodes.now c.leave.new.nodes c.put_along.new.nodes c.leave.ensures.grows c.put_along.ensures.grows
