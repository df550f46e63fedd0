-- The goals of `commands::roots::add_leg` that no tactic closes.
use Rattle.std.proofs.Common.{◌+◌}
use Rattle.nr_chunk.specs.Runs.{chain_in}
use Rattle.nr_outcome.proofs.Steps.{text_next}
use Rattle.nr_top.specs.Proving.{height_roots}
use Rattle.nr_top.proofs.commands.roots.add_leg.Goals as goal

pub loop-below-preserved : goal.loop-below-preserved
loop-below-preserved c =
    text_next c.loop-below.below (λ h. height_roots (chain_in c.args.outcome.now.chain) (h + 1)) c.args.text.now c.loop-below.text c.add_height.new.text
    c.loop-below.invariant c.in_ok-add_height.ensures
