-- A value that is kept with its hash. This project's own.
use Rattle.std.specs.Prelude.{◌≡◌}
use Rattle.nr_triedef.specs.Node.{digest}
use Rattle.nr_trielist.specs.declared.hashes.Hashed.TheInside.{Inside}

abbrev pub IsHashed : Inside → Type 0
IsHashed h = h.hash ≡ digest h.value
