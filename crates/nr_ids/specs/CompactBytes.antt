-- Bytes in place where they are few. This project's own.
use Rattle.std.specs.Prelude.{◌≤◌, ℕ, List, take}
use Rattle.nr_ids.specs.declared.compact_bytes.Form.{Form}
use Rattle.nr_ids.specs.declared.compact_bytes.Form.TheVariants.{Short, Long}
use Rattle.nr_ids.specs.declared.compact_bytes.CompactBytes.TheInside.{Inside}

-- the bytes of either form
abbrev pub compact_in : Form → List ℕ
compact_in (Short count bytes) = take count bytes
compact_in (Long bytes) = bytes.items

-- what contracts see: the bytes
abbrev pub compact_view : Inside → List ℕ
compact_view b = compact_in b.form

-- of the bytes in place no more count than there is room for
abbrev pub IsForm : Form → Type 0
IsForm (Short count bytes) = count ≤ 30
IsForm (Long bytes) = Unit {0}

-- it has such a form
abbrev pub AreCompactBytes : Inside → Type 0
AreCompactBytes b = IsForm b.form
