-- What holds at the loops of `pieces::push_numbers`.
use Rattle.std.proofs.Common.{◌≡◌, ◌++◌, string_bytes, take}
use Rattle.nr_wat.specs.Pieces.{numbers_text}
use Rattle.nr_wat.proofs.pieces.push_numbers.Given as goal

abbrev pub invariant-loop-number : goal.invariant-loop-number
invariant-loop-number l = string_bytes l.text ≡ string_bytes l.initial.text ++ numbers_text (take l.number-index l.numbers)
