-- The goals of `listing::push_children` that no tactic closes.
use Rattle.std.proofs.Common.{arith}
use Rattle.nr_trienodes.proofs.Pushing.{row_down}
use Rattle.nr_trienodes.proofs.listing.push_children.Goals as goal

pub row-preserved : goal.row-preserved
row-preserved c = record {
  few = omega (arith, c.row.invariant.few);
  pushed = row_down c.args.nodes.now c.args.node c.row-row.result c.args.key.now c.row.left c.args.places.now.items c.row.places.items c.push_child.new.places.items c.allocator-alloc.ensures c.requires.there c.row-row.ensures c.row-test.true c.row.invariant.few c.requires.small c.row.invariant.pushed c.in_ok-push_child.ensures;
}
