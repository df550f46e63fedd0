-- The goals of `levels::way_of` that no tactic closes.
use Rattle.std.proofs.Common.{refl, arith}
use Rattle.nr_outproof.proofs.Ways.{way_goes, way_done}
use Rattle.nr_outproof.proofs.levels.way_of.Goals as goal

pub levels-preserved : goal.levels-preserved
levels-preserved c = record {
  within = omega (arith, c.levels.invariant.within);
  whole = way_goes _ c.levels.way.items c.add_side.new.way.items c.levels.count c.levels.place _ c.levels.invariant.whole c.in_ok-add_side.ensures c.levels-test.true c.levels.invariant.within refl;
}

pub returns : goal.returns
returns c = way_done _ c.levels.way.items c.levels.count c.levels.place c.levels.invariant.whole c.levels-test.false
