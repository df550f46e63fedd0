-- What holds at the loops of `writing::print_path`.
use Rattle.std.proofs.Common.{◌≡◌, ◌++◌, take}
use Rattle.std.specs.List.{flat_map}
use Rattle.std.specs.String.{string_bytes}
use Rattle.nr_outproof.specs.Texts.{path_line}
use Rattle.nr_outproof.proofs.writing.print_path.Given as goal

abbrev pub invariant-loop-hash : goal.invariant-loop-hash
invariant-loop-hash l = string_bytes l.text ≡ string_bytes l.fn.text ++ flat_map path_line (take l.hash-index l.path)
