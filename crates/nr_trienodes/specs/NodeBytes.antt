-- Bytes that a node holds, in place where they are few. This project's own.
use Rattle.std.specs.Prelude.{◌≤◌, ℕ, List, take}
use Rattle.std.specs.Arc.{arc_value}
use Rattle.nr_trienodes.specs.declared.node_bytes.Form.{Form}
use Rattle.nr_trienodes.specs.declared.node_bytes.Form.TheVariants.{Short, Wide, Long}
use Rattle.nr_trienodes.specs.declared.node_bytes.NodeBytes.TheInside.{Inside}

-- the bytes of either form
abbrev pub node_bytes_in : Form → List ℕ
node_bytes_in (Short count bytes) = take count bytes
node_bytes_in (Wide bytes) = arc_value bytes
node_bytes_in (Long bytes) = arc_value bytes

-- what contracts see: the bytes
abbrev pub node_bytes_view : Inside → List ℕ
node_bytes_view p = node_bytes_in p.form

-- of the bytes in place no more count than there is room for
abbrev pub IsForm : Form → Type 0
IsForm (Short count bytes) = count ≤ 14
IsForm (Wide bytes) = Unit {0}
IsForm (Long bytes) = Unit {0}

-- it has such a form
abbrev pub AreNodeBytes : Inside → Type 0
AreNodeBytes p = IsForm p.form
