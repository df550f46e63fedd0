-- What a command does: it asks for one file after another, each by what the bytes before it led to, and is then
-- answered or refused. This project's own.
use Rattle.std.specs.Prelude.{◌≡◌, ℕ, List, [], ◌∷◌, cond, length, nat_lt, Option, Some, None, IsSome, Result, Ok, Err}

-- An answer, a refusal, or a file: its name, the most bytes of it, the refusal of a longer one, and what its bytes lead
-- to.
pub data Plan (A E : Type 0) : Type 0 where
  Answer : A → Plan A E
  Refuse : E → Plan A E
  Ask : List ℕ → ℕ → E → (List ℕ → Plan A E) → Plan A E

-- the bytes of a file
abbrev pub file_plan : {E : Type 0} → List ℕ → ℕ → E → Plan (List ℕ) E
file_plan name limit long = Ask name limit long (λ bytes. Answer bytes)

-- a plan, and behind its answer what is done with it
unfoldable pub and_then : {A B E : Type 0} → Plan A E → (A → Plan B E) → Plan B E
and_then (Answer a) next = next a
and_then (Refuse e) next = Refuse e
and_then (Ask name limit long by_bytes) next = Ask name limit long (λ bytes. and_then (by_bytes bytes) next)

-- the value that was read, or the status of why none could be
abbrev pub by_reading : {A E F : Type 0} → (F → E) → Result A F → Plan A E
by_reading status (Ok a) = Answer a
by_reading status (Err fault) = Refuse (status fault)

-- what a file of these bytes leads to
abbrev pub by_length : {A E : Type 0} → ℕ → E → (List ℕ → Plan A E) → List ℕ → Plan A E
by_length limit long by_bytes bytes = cond (nat_lt limit (length bytes)) (Refuse long) (by_bytes bytes)

-- the plan behind the first file that it asks for, where this has these bytes
abbrev pub with_bytes : {A E : Type 0} → List ℕ → Plan A E → Plan A E
with_bytes bytes (Answer a) = Answer a
with_bytes bytes (Refuse e) = Refuse e
with_bytes bytes (Ask name limit long by_bytes) = by_length limit long by_bytes bytes

-- the same plan, which refuses with what another tells of each refusal
unfoldable pub map_refusal : {A E F : Type 0} → (E → F) → Plan A E → Plan A F
map_refusal other (Answer a) = Answer a
map_refusal other (Refuse e) = Refuse (other e)
map_refusal other (Ask name limit long by_bytes) =
    Ask name limit (other long) (λ bytes. map_refusal other (by_bytes bytes))

-- ---- a plan over a shelf, which holds bytes under a name, where it tells them
-- what is told of a file, if anything, are these bytes
abbrev pub Allows : Option (List ℕ) → List ℕ → Type 0
Allows None bytes = Unit {0}
Allows (Some told) bytes = told ≡ bytes

-- a plan asks for a file of this name, and bytes that the shelf allows lead to another plan
abbrev pub Turns : {A E : Type 0} → (List ℕ → Option (List ℕ)) → List ℕ → Plan A E → Plan A E → Type 0
Turns held name (Answer a) q = ⊥
Turns held name (Refuse e) q = ⊥
Turns held name (Ask asked limit long by_bytes) q =
    (bytes : List ℕ) × (asked ≡ name) × Allows (held name) bytes × (by_length limit long by_bytes bytes ≡ q)

-- files of these names, loaded one after another, lead from one plan to another
abbrev pub LeadsBy : {A E : Type 0} → (List ℕ → Option (List ℕ)) → List (List ℕ) → Plan A E → Plan A E → Type 0
LeadsBy held [] p q = p ≡ q
LeadsBy {A} {E} held (name ∷ names) p q = (r : Plan A E) × Turns held name p r × LeadsBy held names r q

-- whatever the bytes are, these are the files that a plan asks for in their order, all of them before an answer
abbrev pub Asks : {A E : Type 0} → List (List ℕ) → Plan A E → Type 0
Asks [] (Answer a) = Unit {0}
Asks (file ∷ files) (Answer a) = ⊥
Asks files (Refuse e) = Unit {0}
Asks [] (Ask name limit long by_bytes) = ⊥
Asks (file ∷ files) (Ask name limit long by_bytes) = (name ≡ file) × ((bytes : List ℕ) → Asks files (by_bytes bytes))

-- a plan that asks for no file
abbrev pub IsEnd : {A E : Type 0} → Plan A E → Type 0
IsEnd (Answer a) = Unit {0}
IsEnd (Refuse e) = Unit {0}
IsEnd (Ask name limit long by_bytes) = ⊥

-- the shelf tells the file of each name
abbrev pub AreTold : (List ℕ → Option (List ℕ)) → List (List ℕ) → Type 0
AreTold held [] = Unit {0}
AreTold held (name ∷ names) = IsSome (held name) × AreTold held names
