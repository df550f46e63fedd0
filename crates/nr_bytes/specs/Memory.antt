-- Of this project's own: what a shelf and a sink in memory are, and what the next call on them does.
use Rattle.std.specs.Prelude.{◌≡◌, ℕ, ◌+◌, ◌-◌, ◌^◌, ◌<◌, ◌≤◌, ◌==◌, List, [], ◌∷◌, ◌++◌, length, take, Option, Some}
use Rattle.std.specs.Prelude.{None, IsSome, Result, Ok, Err, Bool, cond, map, min, max, string_bytes}
use Rattle.std.specs.List.{list_any}
use Rattle.std.specs.Str.{bytes_eq}
use Rattle.std.specs.Global.{Vec, Global}
use Rattle.std.specs.declared.string.String.{String}
use Rattle.nr_bytes.specs.declared.shelf.LoadFault.{LoadFault}
use Rattle.nr_bytes.specs.declared.shelf.LoadFault.TheVariants.{Failed, TooLong, Memory}

-- a name, and the bytes under it
abbrev pub File : Type 0
File = String Global × Vec ℕ

-- the bytes of the first file with a name
abbrev pub held_in : List File → List ℕ → Option (List ℕ)
held_in [] name = None
held_in (f ∷ fs) name = cond (bytes_eq (string_bytes f.0) name) (Some f.1.items) (held_in fs name)

-- the bytes of each text
abbrev pub texts : List (String Global) → List (List ℕ)
texts names = map (λ name. string_bytes name) names

-- the names that were asked for, in a list that is made at the first load
abbrev pub asked_of : Option (Vec (String Global)) → List (List ℕ)
asked_of None = []
asked_of (Some names) = texts names.items

-- one more, up to the last number of 64 bits
abbrev pub one_more : ℕ → ℕ
one_more n = min (n + 1) (2 ^ 64 - 1)

-- the call of this number is one of those that fail
abbrev pub fails_at : List ℕ → ℕ → Bool
fails_at fail call = list_any (λ n. n == call) fail

-- files; the numbers of the calls that fail, from 1; how many calls and faults there were; the names asked for
pub record ShelfInMemory : Type 0 where
  pub files : List File
  pub fail : List ℕ
  pub calls : ℕ
  pub faults : ℕ
  pub asked : List (List ℕ)

-- the bytes that a load of this number finds
abbrev pub found_at : List ℕ → List File → ℕ → List ℕ → Option (List ℕ)
found_at fail files call name = cond (fails_at fail call) None (held_in files name)

-- the bytes that the next load finds
abbrev pub found : ShelfInMemory → List ℕ → Option (List ℕ)
found s name = found_at s.fail s.files (one_more s.calls) name

-- what a load does with the bytes that it finds
abbrev pub PutsFound : Result (Unit {0}) LoadFault → Option (List ℕ) → ℕ → List ℕ → List ℕ → Type 0
PutsFound (Ok u) None limit old new = ⊥
PutsFound (Ok u) (Some bytes) limit old new = (length bytes ≤ limit) × (new ≡ old ++ bytes)
PutsFound (Err TooLong) None limit old new = ⊥
PutsFound (Err TooLong) (Some bytes) limit old new = (limit < length bytes) × (new ≡ old)
PutsFound (Err Failed) None limit old new = new ≡ old
PutsFound (Err Failed) (Some bytes) limit old new = ⊥
PutsFound (Err Memory) bytes limit old new = new ≡ old

-- What a load leaves of the shelf. Want of memory leaves it as it was.
abbrev pub Finds : Result (Unit {0}) LoadFault → ShelfInMemory → ShelfInMemory → List ℕ → Type 0
Finds (Ok u) old new name =
    IsSome (found old name) × (new ≡ record old { calls = one_more old.calls; asked = old.asked ++ name ∷ [] })
Finds (Err TooLong) old new name =
    IsSome (found old name) × (new ≡ record old { calls = one_more old.calls; asked = old.asked ++ name ∷ [] })
Finds (Err Failed) old new name =
    (found old name ≡ None) × (new ≡ record old {
      calls = one_more old.calls;
      faults = one_more old.faults;
      asked = old.asked ++ name ∷ [];
    })
Finds (Err Memory) old new name = new ≡ old

-- bytes taken; how many it takes in all and in one call; the numbers of the calls that fail, from 1; how many
-- calls and faults there were
pub record SinkInMemory : Type 0 where
  pub taken : List ℕ
  pub room : ℕ
  pub step : ℕ
  pub fail : List ℕ
  pub calls : ℕ
  pub faults : ℕ

-- how many bytes of a piece the next write takes, 0 where it fails
abbrev pub next_taken : SinkInMemory → List ℕ → ℕ
next_taken s piece =
    cond (fails_at s.fail (one_more s.calls)) 0 (min (min (length piece) (max s.step 1)) (s.room - length s.taken))

-- What a write answers and leaves of the sink.
abbrev pub TakesNext : {E : Type 0} → Result ℕ E → SinkInMemory → SinkInMemory → List ℕ → Type 0
TakesNext (Ok n) old new piece =
    (n ≡ next_taken old piece) × (new ≡ record old { taken = old.taken ++ take n piece; calls = one_more old.calls })
TakesNext (Err e) old new piece =
    (next_taken old piece ≡ 0) × (new ≡ record old { calls = one_more old.calls; faults = one_more old.faults })
