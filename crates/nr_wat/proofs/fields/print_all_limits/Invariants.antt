-- What holds at the loops of `fields::print_all_limits`.
use Rattle.std.proofs.Common.{◌≡◌, ◌++◌, string_bytes, take}
use Rattle.nr_wat.specs.Fields.{limits_field}
use Rattle.nr_wat.specs.Pieces.{numbered}
use Rattle.nr_wat.proofs.fields.print_all_limits.Given as goal

abbrev pub invariant-loop-number : goal.invariant-loop-number
invariant-loop-number l = string_bytes l.text ≡ string_bytes l.initial.text ++ numbered (limits_field l.word l.tail) (take l.number l.list)
