-- What holds at the loops of `fields::print_elements`.
use Rattle.std.proofs.Common.{◌≡◌, ◌++◌, string_bytes, take}
use Rattle.nr_wat.specs.Fields.{element_field}
use Rattle.nr_wat.specs.Pieces.{numbered}
use Rattle.nr_wat.proofs.fields.print_elements.Given as goal

abbrev pub invariant-loop-number : goal.invariant-loop-number
invariant-loop-number l = string_bytes l.text ≡ string_bytes l.initial.text ++ numbered element_field (take l.number l.elements)
