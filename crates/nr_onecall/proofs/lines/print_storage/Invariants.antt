-- What holds at the loops of `lines::print_storage`.
use Rattle.std.proofs.Common.{◌≡◌, ◌++◌, string_bytes, take}
use Rattle.std.specs.List.{flat_map}
use Rattle.nr_onecall.specs.Texts.{stored_text}
use Rattle.nr_onecall.proofs.lines.print_storage.Given as goal

abbrev pub invariant-loop-entry : goal.invariant-loop-entry
invariant-loop-entry l =
    string_bytes l.text ≡ string_bytes l.initial.text ++ flat_map (λ e. stored_text (e.key, e.value)) (take l.entry-index l.entries)
