-- The goals of `levels::path_of` that no tactic closes.
use Rattle.std.proofs.Common.{◌≡◌, ◌<◌, length, ap, ◌∙◌, rules, arith}
use Rattle.nr_outproof.specs.Levels.{paired}
use Rattle.nr_outproof.proofs.Tops.{length-paired}
use Rattle.nr_outproof.proofs.Paths.{path_goes, path_done}
use Rattle.nr_outproof.proofs.levels.path_of.Goals as goal

pub levels-preserved : goal.levels-preserved
levels-preserved c =
    let next : c.in_ok-level-2.level.items ≡ paired c.levels.level.items = search rules in
    let more : 1 < length c.levels.level.items = search rules in
    let long = ap length next ∙ length-paired c.levels.level.items in
    record {
      within = omega (arith, long, more, c.levels.invariant.within);
      whole = path_goes _ c.levels.path.items c.add_beside.new.path.items c.levels.level.items _ c.levels.at c.levels.invariant.whole (search rules) more c.levels.invariant.within next;
    }

pub returns : goal.returns
returns c = path_done _ c.levels.path.items c.levels.level.items c.levels.at c.levels.invariant.whole (search rules)

pub levels-smaller : goal.levels-smaller
levels-smaller c =
    let next : c.in_ok-level-2.level.items ≡ paired c.levels.level.items = search rules in
    let more : 1 < length c.levels.level.items = search rules in
    let long = ap length next ∙ length-paired c.levels.level.items in
    omega (arith, long, more)
