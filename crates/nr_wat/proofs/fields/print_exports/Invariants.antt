-- What holds at the loops of `fields::print_exports`.
use Rattle.std.proofs.Common.{◌≡◌, ◌++◌, string_bytes, take}
use Rattle.std.specs.List.{flat_map}
use Rattle.nr_wat.specs.Fields.{export_field}
use Rattle.nr_wat.proofs.fields.print_exports.Given as goal

abbrev pub invariant-loop-export : goal.invariant-loop-export
invariant-loop-export l = string_bytes l.text ≡ string_bytes l.initial.text ++ flat_map export_field (take l.export-index l.exports)
