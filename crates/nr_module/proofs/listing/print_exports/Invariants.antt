-- What holds at the loops of `listing::print_exports`.
use Rattle.std.proofs.Common.{◌≡◌, ◌++◌, string_bytes, take}
use Rattle.std.specs.List.{flat_map}
use Rattle.nr_module.specs.Listing.{export_line}
use Rattle.nr_module.proofs.listing.print_exports.Given as goal

abbrev pub invariant-loop-export : goal.invariant-loop-export
invariant-loop-export l = string_bytes l.text ≡ string_bytes l.initial.text ++ flat_map (export_line l.module) (take l.export-index l.module.exports)
