-- What holds at the loops of `part_files::load_parts`.
use Rattle.nr_top.specs.StateParts.{part_names, parts_plan}
use Rattle.nr_top.proofs.PartLoading.{LeadsOn, names_left, rest_plan}
use Rattle.nr_top.proofs.part_files.load_parts.Given as goal

abbrev pub invariant-loop-position : goal.invariant-loop-position
invariant-loop-position g l =
    LeadsOn (g.S.Shelf.held l.fn.shelf) (g.S.Shelf.held l.shelf) (g.S.Shelf.asked l.fn.shelf) (g.S.Shelf.asked l.shelf) (g.S.Shelf.faults l.fn.shelf) (g.S.Shelf.faults l.shelf)
    (parts_plan 0 (part_names l.prefix l.count)) (rest_plan l.position (names_left l.prefix l.count l.position) l.parts.items)
