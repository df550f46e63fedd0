-- The goals of `nodes::Nodes::fitting` that no tactic closes.
use Rattle.std.proofs.Common.{refl, arith}
use Rattle.nr_trienodes.proofs.Merged.{weight_next}
use Rattle.nr_trienodes.proofs.nodes.Nodes.fitting.Goals as goal

pub returns-in_default-clause-most : goal.returns-in_default-clause-most
returns-in_default-clause-most c = λ lt.
    let short = c.in_default.ensures.none refl in
    omega (arith, weight_next c.args.changes.now c.loop-fitting.fitting c.index-changes-fitting.result lt c.index-changes-fitting.is, c.loop-fitting.invariant.room)

pub loop-fitting-preserved : goal.loop-fitting-preserved
loop-fitting-preserved c = record {
  within = omega arith;
  room = omega (arith, c.in-Some.ensures.left, weight_next c.args.changes.now c.loop-fitting.fitting c.index-changes-fitting.result c.loop-fitting-test.true c.index-changes-fitting.is, c.loop-fitting.invariant.room);
}
