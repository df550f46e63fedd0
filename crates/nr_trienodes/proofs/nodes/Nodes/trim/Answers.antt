-- The goals of `nodes::Nodes::trim` that no tactic closes.
use Rattle.std.proofs.Common.{arith}
use Rattle.nr_trienodes.proofs.Renaming.{roots_few}
use Rattle.nr_trienodes.proofs.Youngs.{all_count}
use Rattle.nr_trienodes.proofs.nodes.Nodes.trim.Goals as goal

pub returns-clause-few : goal.returns-clause-few
returns-clause-few c =
    omega (
      arith,
      c.in_ok-trim_young.ensures.few,
      all_count c.args.self.now c.args.roots.now,
      roots_few c.args.self.now c.trim_young.new.self c.args.roots.now c.trim_young.new.roots
          c.count-count.ensures.sound c.requires c.in_ok-trim_young.ensures.ok,
    )

pub returns-clause-tries : goal.returns-clause-tries
returns-clause-tries c = omega (arith, c.in_ok-trim_young.ensures.few, all_count c.args.self.now c.args.roots.now)
