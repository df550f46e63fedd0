-- What holds at the loops of `table::generated_numbers`.
use Rattle.std.proofs.Common.{◌≡◌, map, take, length}
use Rattle.nr_config.specs.declared.table.Row as code
use Rattle.nr_config.proofs.table.generated_numbers.Given as goal

abbrev pub invariant-loop-i : goal.invariant-loop-i
invariant-loop-i l = (length l.numbers ≡ 75) × (take l.i l.numbers ≡ map (λ (r : code.Row). r.generated) (take l.i l.rows))
