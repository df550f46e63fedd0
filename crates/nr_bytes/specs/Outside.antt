-- Of this project's own: what a load and a write do to what a program reads from and writes to.
use Rattle.std.specs.Prelude.{◌≡◌, ℕ, ◌+◌, ◌<◌, ◌≤◌, ◌^◌, ◌-◌, ◌⊎◌, List, [], ◌∷◌, ◌++◌, length, take, Option, Some}
use Rattle.std.specs.Prelude.{None, Result, Ok, Err}
use Rattle.std.specs.Io.{StartsWith}
use Rattle.nr_bytes.specs.declared.shelf.LoadFault.{LoadFault}
use Rattle.nr_bytes.specs.declared.shelf.LoadFault.TheVariants.{Failed, TooLong, Memory}

-- A count rose, or stands at the end of its type.
abbrev pub Rose : ℕ → ℕ → Type 0
Rose old new = (old < new) ⊎ (new ≡ 2 ^ 64 - 1)

-- bytes begin with the old ones, and are at most so many more
abbrev pub Grown : ℕ → List ℕ → List ℕ → Type 0
Grown limit old new = StartsWith new old × (length new ≤ length old + limit)

-- What a load did; bytes that aren't told are at most as many as were wanted.
abbrev pub Loads : Result (Unit {0}) LoadFault → Option (List ℕ) → ℕ → List ℕ → List ℕ → Type 0
Loads (Ok u) None limit old new = Grown limit old new
Loads (Ok u) (Some bytes) limit old new = (length bytes ≤ limit) × (new ≡ old ++ bytes)
Loads (Err TooLong) None limit old new = new ≡ old
Loads (Err TooLong) (Some bytes) limit old new = (limit < length bytes) × (new ≡ old)
Loads (Err Failed) held limit old new = new ≡ old
Loads (Err Memory) held limit old new = new ≡ old

-- A load answers Failed only where the count of faults rose, and want of memory is no fault of the shelf.
abbrev pub Fails : Result (Unit {0}) LoadFault → ℕ → ℕ → Type 0
Fails (Ok u) old new = Unit {0}
Fails (Err Failed) old new = Rose old new
Fails (Err TooLong) old new = Unit {0}
Fails (Err Memory) old new = new ≡ old

-- A load notes the name that it was asked for, unless memory ran out.
abbrev pub Asks : Result (Unit {0}) LoadFault → List (List ℕ) → List (List ℕ) → List ℕ → Type 0
Asks (Ok u) old new name = new ≡ old ++ name ∷ []
Asks (Err Failed) old new name = new ≡ old ++ name ∷ []
Asks (Err TooLong) old new name = new ≡ old ++ name ∷ []
Asks (Err Memory) old new name = new ≡ old

-- What a sink holds grew by these bytes, where it tells.
abbrev pub Grew : Option (List ℕ) → Option (List ℕ) → List ℕ → Type 0
Grew None new bytes = new ≡ None
Grew (Some old) new bytes = new ≡ Some (old ++ bytes)

-- A write takes as many bytes from the front of a piece as it answers, or none.
abbrev pub Takes : {E : Type 0} → Result ℕ E → Option (List ℕ) → Option (List ℕ) → List ℕ → Type 0
Takes (Ok n) old new piece = Grew old new (take n piece)
Takes (Err e) old new piece = new ≡ old
