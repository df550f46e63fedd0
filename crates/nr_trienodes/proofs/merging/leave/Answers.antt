-- The goals of `merging::leave` that no tactic closes.
use Rattle.std.proofs.Common.{arith}
use Rattle.nr_trienodes.specs.Opened.{path}
use Rattle.nr_trienodes.proofs.Sets.{extends_trans}
use Rattle.nr_trienodes.proofs.Moves.{steady_trans, along_other}
use Rattle.nr_trienodes.proofs.merging.leave.Goals as goal

pub back-preserved : goal.back-preserved
back-preserved c =
    record {
      steady = steady_trans c.args.nodes.now c.back.nodes c.close.new.nodes c.args.way.now c.back.way c.close.new.way 0 0 0 0 0 0 c.back.invariant.steady c.in_ok-close.ensures.steady (omega arith);
      along = c.in_ok-close.ensures.along c.args.last.now c.back.invariant.along;
    }

pub returns-in_err-close-clause-grows : goal.returns-in_err-close-clause-grows
returns-in_err-close-clause-grows c = extends_trans c.args.nodes.now c.back.nodes c.close.new.nodes c.back.invariant.steady.more.grows c.close.ensures.grows

pub returns-clause-along : goal.returns-clause-along
returns-clause-along c = along_other c.args.last.now c.args.key.now (path c.back.way.levels) c.back.way.at c.shared_of-shared.result c.back.invariant.along c.back.invariant.steady.more.way.at (omega arith) c.shared_of-shared.ensures
