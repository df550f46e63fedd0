-- The goals of `trimming::mark_roots` that no tactic closes.
use Rattle.std.proofs.Common.{◌∙◌, ap}
use Rattle.std.specs.Prelude.{Option, ℕ}
use Rattle.nr_trienodes.specs.Naming.{marked}
use Rattle.nr_trienodes.proofs.Marking.{roots_on}
use Rattle.nr_trienodes.proofs.trimming.mark_roots.Goals as goal

pub loop-root-preserved : goal.loop-root-preserved
loop-root-preserved c = roots_on c.args.nodes.now c.args.roots.now c.loop-root.root-index c.args.names.now c.loop-root.names c.mark.new.names c.requires.names c.loop-root-test.true c.requires.roots c.loop-root.invariant
    (c.mark.ensures ∙ ap (λ (o : Option ℕ). marked c.loop-root.names o) c.number_of.ensures)
