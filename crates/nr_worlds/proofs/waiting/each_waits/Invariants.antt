-- What holds at the loops of `waiting::each_waits`.
use Rattle.std.proofs.Common.{◌≡◌, length}
use Rattle.std.specs.List.{list_all}
use Rattle.nr_worlds.specs.Tests.{is_waiting}
use Rattle.nr_worlds.proofs.waiting.each_waits.Given as goal

abbrev pub invariant-loop-rest : goal.invariant-loop-rest
invariant-loop-rest g l = list_all (is_waiting l.columns.columns) l.rest ≡ list_all (is_waiting l.columns.columns) l.fn.receipts

abbrev pub decreases-loop-rest : goal.decreases-loop-rest
decreases-loop-rest g l = length l.rest
