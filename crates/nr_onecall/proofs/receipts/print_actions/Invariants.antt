-- What holds at the loops of `receipts::print_actions`.
use Rattle.std.proofs.Common.{◌≡◌, ◌++◌, string_bytes, take}
use Rattle.std.specs.List.{flat_map}
use Rattle.nr_onecall.specs.Texts.{action_line}
use Rattle.nr_onecall.proofs.receipts.print_actions.Given as goal

abbrev pub invariant-loop-action : goal.invariant-loop-action
invariant-loop-action l = string_bytes l.text ≡ string_bytes l.initial.text ++ flat_map action_line (take l.action-index l.actions)
