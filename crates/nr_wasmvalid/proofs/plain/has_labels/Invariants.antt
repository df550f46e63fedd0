-- What holds at the loops of `plain::has_labels`.
use Rattle.std.proofs.Common.{◌≡◌, drop}
use Rattle.nr_wasmvalid.specs.Rules.{are_labels}
use Rattle.nr_wasmvalid.proofs.plain.has_labels.Given as goal

abbrev pub invariant-loop-depth : goal.invariant-loop-depth
invariant-loop-depth l = are_labels l.label l.stacks.labels (drop l.depth-index l.depths) ≡ are_labels l.label l.stacks.labels l.depths
