-- What holds at the loops of `printed::print_lines`.
use Rattle.std.proofs.Common.{◌≡◌, ◌++◌, string_bytes, take}
use Rattle.std.specs.List.{flat_map}
use Rattle.nr_report.specs.Lines.{line_text}
use Rattle.nr_report.proofs.printed.print_lines.Given as goal

abbrev pub invariant-loop-line : goal.invariant-loop-line
invariant-loop-line l = string_bytes l.text ≡ string_bytes l.initial.text ++ flat_map line_text (take l.line-index l.lines)
