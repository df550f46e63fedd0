-- The goals of `nodes::Nodes::usage_below` that no tactic closes.
use Rattle.std.proofs.Common.{length}
use Rattle.nr_trienodes.proofs.Rows.{in_row}
use Rattle.nr_trienodes.proofs.nodes.Nodes.usage_below.Goals as goal

pub usage_in-requires : goal.usage_in-requires
usage_in-requires c = in_row (length c.args.self.now) c.args.row.now c.loop-child.child-index c.requires
