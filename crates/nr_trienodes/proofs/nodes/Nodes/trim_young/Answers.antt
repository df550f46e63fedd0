-- The goals of `nodes::Nodes::trim_young` that no tactic closes.
use Rattle.std.proofs.Common.{arith}
use Rattle.nr_trienodes.proofs.Renaming.{oldest_there}
use Rattle.nr_trienodes.proofs.nodes.Nodes.trim_young.Goals as goal

pub returns-clause-same : goal.returns-clause-same
returns-clause-same c =
    oldest_there c.args.self.now c.args.oldest c.min-oldest.result c.args.roots.now c.trim_to.new.roots
    (λ id few there. omega (arith, c.min-oldest.ensures, c.len.ensures))
    c.requires c.trim_to.ensures.same
