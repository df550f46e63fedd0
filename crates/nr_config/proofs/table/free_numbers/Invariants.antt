-- What holds at the loops of `table::free_numbers`.
use Rattle.std.proofs.Common.{◌≡◌, map, take, length}
use Rattle.nr_config.specs.declared.table.Row as code
use Rattle.nr_config.proofs.table.free_numbers.Given as goal

abbrev pub invariant-loop-i : goal.invariant-loop-i
invariant-loop-i l = (length l.numbers ≡ 75) × (take l.i l.numbers ≡ map (λ (r : code.Row). r.free) (take l.i l.rows))
