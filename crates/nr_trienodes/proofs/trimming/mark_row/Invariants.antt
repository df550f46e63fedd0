-- What holds at the loops of `trimming::mark_row`.
use Rattle.std.proofs.Common.{take}
use Rattle.nr_trienodes.specs.Naming.{RowMarked}
use Rattle.nr_trienodes.specs.Shape.{shape_at}
use Rattle.nr_trienodes.proofs.trimming.mark_row.Given as goal

abbrev pub invariant-loop-x : goal.invariant-loop-x
invariant-loop-x l = RowMarked (take l.x (shape_at l.nodes l.id).below) l.initial.names l.names l.id
