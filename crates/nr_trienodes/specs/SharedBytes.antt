-- The bytes that nodes share, in place where they are few. This project's own.
use Rattle.std.specs.Prelude.{◌≤◌, ℕ, List, take}
use Rattle.nr_trienodes.specs.declared.shared_bytes.Form.{Form}
use Rattle.nr_trienodes.specs.declared.shared_bytes.Form.TheVariants.{Short, Long}
use Rattle.nr_trienodes.specs.declared.shared_bytes.SharedBytes.TheInside.{Inside}

-- the bytes of either form
abbrev pub shared_in : Form → List ℕ
shared_in (Short count bytes) = take count bytes
shared_in (Long bytes) = bytes.items

-- what contracts see: the bytes
abbrev pub shared_view : Inside → List ℕ
shared_view b = shared_in b.form

-- of the bytes in place no more count than there is room for
abbrev pub IsForm : Form → Type 0
IsForm (Short count bytes) = count ≤ 30
IsForm (Long bytes) = Unit {0}

-- it has such a form
abbrev pub AreSharedBytes : Inside → Type 0
AreSharedBytes b = IsForm b.form
