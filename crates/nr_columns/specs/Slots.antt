-- A key of the trie, in place. This project's own.
use Rattle.std.specs.Prelude.{◌≤◌, ℕ, List, take}
use Rattle.nr_columns.specs.declared.key_slot.KeySlot.TheInside.{Inside}

-- what contracts see: the bytes
abbrev pub slot_view : Inside → List ℕ
slot_view s = take s.count s.bytes

-- no more count than there is room for
abbrev pub IsSlot : Inside → Type 0
IsSlot s = s.count ≤ 131
