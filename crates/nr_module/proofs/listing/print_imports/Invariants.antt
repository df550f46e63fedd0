-- What holds at the loops of `listing::print_imports`.
use Rattle.std.proofs.Common.{◌≡◌, ◌++◌, string_bytes, take}
use Rattle.std.specs.List.{flat_map}
use Rattle.nr_module.specs.Listing.{import_line}
use Rattle.nr_module.proofs.listing.print_imports.Given as goal

abbrev pub invariant-loop-import : goal.invariant-loop-import
invariant-loop-import l = string_bytes l.text ≡ string_bytes l.initial.text ++ flat_map (import_line l.types) (take l.import-index l.imports)
