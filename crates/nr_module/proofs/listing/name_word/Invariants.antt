-- What holds at the loops of `listing::name_word`.
use Rattle.std.proofs.Common.{◌≡◌, string_bytes, take}
use Rattle.std.specs.List.{flat_map}
use Rattle.nr_module.specs.Listing.{name_byte}
use Rattle.nr_module.proofs.listing.name_word.Given as goal

abbrev pub invariant-loop-byte : goal.invariant-loop-byte
invariant-loop-byte l = string_bytes l.word ≡ flat_map name_byte (take l.byte-index l.name)
