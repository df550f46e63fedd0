-- What holds at the loops of `functions::push_types`.
use Rattle.std.proofs.Common.{◌≡◌, ◌++◌, string_bytes, take}
use Rattle.std.specs.List.{flat_map}
use Rattle.nr_wat.specs.Fields.{type_word}
use Rattle.nr_wat.proofs.functions.push_types.Given as goal

abbrev pub invariant-loop-kind : goal.invariant-loop-kind
invariant-loop-kind l = string_bytes l.text ≡ string_bytes l.initial.text ++ flat_map type_word (take l.kind-index l.types)
