-- More bytes that nodes share, in place. This project's own.
use Rattle.std.specs.Prelude.{◌≤◌, ℕ, List, take}
use Rattle.nr_trienodes.specs.declared.wide_bytes.WideBytes.TheInside.{Inside}

-- what contracts see: the bytes
abbrev pub wide_view : Inside → List ℕ
wide_view b = take b.count b.bytes

-- no more count than there is room for
abbrev pub AreWideBytes : Inside → Type 0
AreWideBytes b = b.count ≤ 94
