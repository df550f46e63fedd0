-- The goals of `settling::remake` that no tactic closes.
use Rattle.std.proofs.Common.{length}
use Rattle.nr_trienodes.proofs.Settled.{back_set, row_back}
use Rattle.nr_trienodes.proofs.settling.remake.Goals as goal

pub settle-requires-clause-back : goal.settle-requires-clause-back
settle-requires-clause-back c = back_set (length c.args.nodes.now) c.row-row.result c.args.nibble c.args.below (row_back c.args.nodes.now c.args.node c.row-row.result c.allocator-alloc.ensures c.requires.node c.row-row.ensures) c.requires.below
