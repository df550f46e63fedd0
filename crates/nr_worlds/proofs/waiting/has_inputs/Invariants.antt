-- What holds at the loops of `waiting::has_inputs`.
use Rattle.std.proofs.Common.{◌≡◌, length}
use Rattle.std.specs.Prelude.{◌==◌}
use Rattle.nr_worlds.specs.Tests.{inputs_count}
use Rattle.nr_worlds.proofs.waiting.has_inputs.Given as goal

abbrev pub invariant-loop-rest : goal.invariant-loop-rest
invariant-loop-rest l = (l.left == inputs_count l.rest) ≡ (l.fn.count == inputs_count l.fn.receipts)

abbrev pub decreases-loop-rest : goal.decreases-loop-rest
decreases-loop-rest l = length l.rest
