-- What holds at the loops of `receipts::print_outputs`.
use Rattle.std.proofs.Common.{◌≡◌, ◌++◌, string_bytes, take}
use Rattle.std.specs.List.{flat_map}
use Rattle.nr_onecall.specs.Texts.{give_line}
use Rattle.nr_onecall.proofs.receipts.print_outputs.Given as goal

abbrev pub invariant-loop-output : goal.invariant-loop-output
invariant-loop-output l = string_bytes l.text ≡ string_bytes l.initial.text ++ flat_map give_line (take l.output-index l.outputs)
