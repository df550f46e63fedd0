-- What holds at the loops of `file_shelf::append_rest`.
use Rattle.nr_bytes.specs.Files.{Begun}
use Rattle.nr_bytes.proofs.file_shelf.append_rest.Given as goal

abbrev pub invariant-loop : goal.invariant-loop
invariant-loop g l = Begun (g.F.Read.remaining l.fn.file) (g.F.Read.remaining l.file) l.limit l.left l.fn.out.items l.out.items
