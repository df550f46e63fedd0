-- What holds at the loops of `functions::print_types`.
use Rattle.std.proofs.Common.{◌≡◌, ◌++◌, string_bytes, take}
use Rattle.nr_wat.specs.Fields.{type_field}
use Rattle.nr_wat.specs.Pieces.{numbered}
use Rattle.nr_wat.proofs.functions.print_types.Given as goal

abbrev pub invariant-loop-number : goal.invariant-loop-number
invariant-loop-number l = string_bytes l.text ≡ string_bytes l.initial.text ++ numbered type_field (take l.number l.types)
