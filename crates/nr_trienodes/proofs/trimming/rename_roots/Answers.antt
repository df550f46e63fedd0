-- The goals of `trimming::rename_roots` that no tactic closes.
use Rattle.std.proofs.Common.{◌∙◌, ap, set, None}
use Rattle.std.specs.Prelude.{Option}
use Rattle.nr_trienodes.specs.Naming.{new_root}
use Rattle.nr_trienodes.specs.declared.nodes.NodeId.{NodeId}
use Rattle.nr_trienodes.proofs.Marking.{each_on}
use Rattle.nr_trienodes.proofs.trimming.rename_roots.Goals as goal

pub loop-root-preserved : goal.loop-root-preserved
loop-root-preserved c =
    ap (λ (r : Option NodeId). set c.loop-root.roots c.loop-root.root-index r) c.renamed.ensures
    ∙ each_on (new_root c.args.names.now) c.args.roots.now c.loop-root.roots c.loop-root.root-index None c.loop-root.invariant c.loop-root-test.true
