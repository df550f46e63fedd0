-- What holds at the loops of `commands::roots::add_leg`.
use Rattle.std.proofs.Common.{◌≡◌, ◌+◌, ◌++◌}
use Rattle.nr_chunk.specs.Runs.{chain_in}
use Rattle.nr_top.specs.Proving.{height_roots}
use Rattle.nr_outcome.specs.Texts.{text_below}
use Rattle.nr_top.proofs.commands.roots.add_leg.Given as goal

abbrev pub invariant-loop-below : goal.invariant-loop-below
invariant-loop-below l = l.text ≡ l.fn.text ++ text_below l.below (λ h. height_roots (chain_in l.outcome.chain) (h + 1))
