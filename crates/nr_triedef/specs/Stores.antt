-- What a store holds: how much at most, and which keys of it begin with a prefix. This project's own.
use Rattle.std.specs.Prelude.{◌≡◌, ℕ, ◌<◌, ◌≤◌, ◌^◌, ◌==◌, List, length, map, Some}
use Rattle.std.specs.List.{filter, starts_with}
use Rattle.std.specs.FinMap.{entries, get}
use Rattle.nr_triedef.specs.Root.{Contents}

abbrev pub most_entries : ℕ
most_entries = 2 ^ 26

-- a key and a value that a store can hold: 70,000,000 bytes at most, and fewer than 2^32
abbrev pub IsSizedEntry : List ℕ → List ℕ → Type 0
IsSizedEntry key value = (length key ≤ 70000000) × (length value < 2 ^ 32)

-- what a store can hold
pub record IsSized (m : Contents) : Type 0 where
  pub few : length (entries m) ≤ most_entries
  pub each : (key value : List ℕ) → get m key ≡ Some value → IsSizedEntry key value

-- the keys that begin with the prefix, in the order of their bytes
abbrev pub keys_below : List ℕ → Contents → List (List ℕ)
keys_below prefix m = filter (λ key. starts_with ◌==◌ key prefix) (map (λ e. e.0) (entries m))
