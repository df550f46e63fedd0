-- What holds at the loops of `receipts::print_inputs`.
use Rattle.std.proofs.Common.{◌≡◌, ◌++◌, string_bytes, take}
use Rattle.std.specs.List.{flat_map}
use Rattle.nr_onecall.specs.Texts.{wait_line}
use Rattle.nr_onecall.proofs.receipts.print_inputs.Given as goal

abbrev pub invariant-loop-input : goal.invariant-loop-input
invariant-loop-input l = string_bytes l.text ≡ string_bytes l.initial.text ++ flat_map wait_line (take l.input-index l.inputs)
