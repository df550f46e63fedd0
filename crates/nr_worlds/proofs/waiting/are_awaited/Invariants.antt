-- What holds at the loops of `waiting::are_awaited`.
use Rattle.std.proofs.Common.{◌≡◌, length}
use Rattle.nr_worlds.specs.Tests.{are_awaited}
use Rattle.nr_worlds.proofs.waiting.are_awaited.Given as goal

abbrev pub invariant-loop-rest : goal.invariant-loop-rest
invariant-loop-rest g l = are_awaited l.columns.columns l.receipt l.rest ≡ are_awaited l.columns.columns l.receipt l.fn.inputs

abbrev pub decreases-loop-rest : goal.decreases-loop-rest
decreases-loop-rest g l = length l.rest
