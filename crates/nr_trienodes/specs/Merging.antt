-- Many changes of a map at once. This project's own.
use Rattle.std.specs.Prelude.{◌≡◌, ◌<◌, ℕ, ◌+◌, ◌*◌, ◌^◌, List, [], ◌∷◌, length, sum_by, Option, Some, None, Result}
use Rattle.std.specs.Prelude.{Err}
use Rattle.std.specs.FinMap.{insert, remove}
use Rattle.nr_triedef.specs.Node.{nibbles}
use Rattle.nr_triedef.specs.Root.{Contents}
use Rattle.nr_trienodes.specs.declared.fault.NodesFault.{NodesFault}
use Rattle.nr_trienodes.specs.declared.fault.NodesFault.TheVariants.{Full}

-- a key with the value that it is to have, or none
abbrev pub Changing : Type 0
Changing = List ℕ × Option (List ℕ)

-- with this value at the key, or with none
abbrev pub with_value : Contents → List ℕ → Option (List ℕ) → Contents
with_value m k None = remove m k
with_value m k (Some v) = insert m k v

-- with all of the changes, the first one first
abbrev pub merged : List Changing → Contents → Contents
merged [] m = m
merged (c ∷ cs) m = merged cs (with_value m c.0 c.1)

-- the most hashes of nodes that the next root takes for the changes, and the most nodes that they make
abbrev pub merge_weight : List Changing → ℕ
merge_weight changes = sum_by (λ (c : Changing). 2 * length (nibbles c.0) + 3) changes

-- there is no room for the nodes of all changes; for one change this is as for its key alone
abbrev pub IsOverfull : ℕ → List Changing → Type 0
IsOverfull held changes = 2 ^ 32 < held + 1 + merge_weight changes

-- changes are refused as full exactly where there is no room, with the number of nodes held
pub record OverfullsSo {A : Type 0} (held : ℕ) (changes : List Changing) (result : Result A NodesFault) : Type 0 where
  pub there : IsOverfull held changes → result ≡ Err (Full held)
  pub only : (n : ℕ) → result ≡ Err (Full n) → IsOverfull held changes
