-- What holds at the loops of `pieces::push_bytes`.
use Rattle.std.proofs.Common.{◌≡◌, ◌++◌, string_bytes, take}
use Rattle.std.specs.List.{flat_map}
use Rattle.nr_wat.specs.Pieces.{byte_text}
use Rattle.nr_wat.proofs.pieces.push_bytes.Given as goal

abbrev pub invariant-loop-byte : goal.invariant-loop-byte
invariant-loop-byte l = string_bytes l.text ≡ string_bytes l.initial.text ++ flat_map byte_text (take l.byte-index l.bytes)
