-- The goals of `merging::finish` that no tactic closes.
use Rattle.std.proofs.Common.{arith}
use Rattle.nr_trienodes.proofs.Sets.{extends_trans}
use Rattle.nr_trienodes.proofs.Moves.{steady_trans, finished}
use Rattle.nr_trienodes.proofs.merging.finish.Goals as goal

pub up-preserved : goal.up-preserved
up-preserved c = steady_trans c.args.nodes.now c.up.nodes c.close.new.nodes c.args.way c.up.way c.close.new.way 0 0 0 0 0 0 c.up.invariant c.in_ok-close.ensures.steady (omega arith)

pub returns-in_err-close-clause-grows : goal.returns-in_err-close-clause-grows
returns-in_err-close-clause-grows c = extends_trans c.args.nodes.now c.up.nodes c.close.new.nodes c.up.invariant.more.grows c.close.ensures.grows

pub returns-in_err-id-clause-grows : goal.returns-in_err-id-clause-grows
returns-in_err-id-clause-grows c = extends_trans c.args.nodes.now c.up.nodes c.settle_open.new.nodes c.up.invariant.more.grows c.settle_open.ensures.grows

pub returns-clause-same : goal.returns-clause-same
returns-clause-same c = finished c.args.nodes.now c.up.nodes c.settle_open.new.nodes c.args.way c.up.way c.in_ok-id.id c.up.invariant (omega arith) c.in_ok-id.ensures.settled

pub returns-clause-grows : goal.returns-clause-grows
returns-clause-grows c = extends_trans c.args.nodes.now c.up.nodes c.settle_open.new.nodes c.up.invariant.more.grows c.settle_open.ensures.grows
