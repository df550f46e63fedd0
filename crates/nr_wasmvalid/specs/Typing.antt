-- WebAssembly Core 1.0, "Validation", "Instruction Sequences": the typing of sequences, and the
-- first breach where a sequence has no type.
use Rattle.std.specs.Prelude.{◌≡◌, ℕ, ◌+◌, List, [], ◌∷◌, ◌++◌, None, ◌⊎◌}
use Rattle.nr_wasmtypes.specs.declared.instr.ValType.{ValType}
use Rattle.nr_wasmtypes.specs.declared.instr.ValType.TheVariants.{I32}
use Rattle.nr_wasmtypes.specs.Code.{Code, End, Then, Block, Loop, Choice, count_of}
use Rattle.nr_wasmvalid.specs.declared.refusal.Refusal.{Refusal}
use Rattle.nr_wasmvalid.specs.Rules.{Types?, types, Context, within, Ask, Take, Obeys, kind_of, rule, ending}

-- the asks lead, one after the other, from these operands to those
abbrev pub Obey : List Ask → List ValType → List ValType → Type 0
Obey [] before after = after ≡ before
Obey (ask ∷ asks) before after = (mid : List ValType) × Obeys ask before mid × Obey asks mid after

-- The sequence has the type [before] → [after]. A block's body begins with no operand and ends with
-- its result and nothing else; a loop's label takes no operand.
abbrev pub Typed : Context → Code → List ValType → List ValType → Type 0
Typed c End before after = after ≡ before
Typed c (Then p rest) before after = (mid : List ValType) × Obey (rule c p) before mid × Typed c rest mid after
Typed c (Block ts body rest) before after =
    Typed (within ts c) body [] (types ts) × Typed c rest (types ts ++ before) after
Typed c (Loop ts body rest) before after =
    Typed (within None c) body [] (types ts) × Typed c rest (types ts ++ before) after
Typed c (Choice ts one other rest) before after =
    (below : List ValType) × (before ≡ I32 ∷ below)
    × Typed (within ts c) one [] (types ts) × Typed (within ts c) other [] (types ts)
    × Typed c rest (types ts ++ below) after

-- ---- the first breach
-- A set of lists of operands: those that may stand at a place. All asks before have led to them.
abbrev pub Some' : (List ValType → Type 0) → Type 0
Some' S = (ts : List ValType) × S ts

-- those that a sequence leaves of them
abbrev pub Left : Context → Code → (List ValType → Type 0) → List ValType → Type 0
Left c code S after = (before : List ValType) × S before × Typed c code before after

-- those that some asks leave
abbrev pub Behind : Ask → (List ValType → Type 0) → List ValType → Type 0
Behind ask S after = (before : List ValType) × S before × Obeys ask before after

-- those at the front of a block that is reached
abbrev pub Inside : (List ValType → Type 0) → List ValType → Type 0
Inside S ts = Some' S × (ts ≡ [])

-- it is reached, and none of the operands that may stand there obeys
abbrev pub Refuses : Ask → (List ValType → Type 0) → Type 0
Refuses ask S = Some' S × ((before after : List ValType) → S before → Obeys ask before after → ⊥)

-- the first of the asks that refuses, by its kind
abbrev pub StopsIn : List Ask → (List ValType → Type 0) → Refusal → Type 0
StopsIn [] S kind = ⊥
StopsIn (ask ∷ asks) S kind = (Refuses ask S × (kind ≡ kind_of ask)) ⊎ StopsIn asks (Behind ask S) kind

-- the same, where a fact holds
abbrev pub When : Type 0 → (List ValType → Type 0) → List ValType → Type 0
When P S ts = P × S ts

-- A body whose first instruction has the number n stops at its end, which is looked at with the
-- number of the instruction that comes next.
abbrev pub StopsAtEnd : Context → ℕ → Code → Types? → (List ValType → Type 0) → ℕ → Refusal → Type 0
StopsAtEnd c n body ts S place kind = (place ≡ n + count_of body) × StopsIn (ending ts) (Left c body S) kind

-- The sequence whose first instruction has the number n stops at this instruction in this way.
abbrev pub Stops : Context → ℕ → Code → (List ValType → Type 0) → ℕ → Refusal → Type 0
Stops c n End S place kind = ⊥
Stops c n (Then p rest) S place kind =
    ((place ≡ n) × StopsIn (rule c p) S kind) ⊎ Stops c (n + 1) rest (Left c (Then p End) S) place kind
Stops c n (Block ts body rest) S place kind =
    Stops (within ts c) (n + 1) body (Inside S) place kind
    ⊎ (StopsAtEnd (within ts c) (n + 1) body ts (Inside S) place kind
    ⊎ Stops c (n + 1 + count_of body) rest (Left c (Block ts body End) S) place kind)
Stops c n (Loop ts body rest) S place kind =
    Stops (within None c) (n + 1) body (Inside S) place kind
    ⊎ (StopsAtEnd (within None c) (n + 1) body ts (Inside S) place kind
    ⊎ Stops c (n + 1 + count_of body) rest (Left c (Loop ts body End) S) place kind)
Stops c n (Choice ts one other rest) S place kind =
    ((place ≡ n) × StopsIn (Take (I32 ∷ []) ∷ []) S kind)
    ⊎ (Stops (within ts c) (n + 1) one (Inside (Behind (Take (I32 ∷ [])) S)) place kind
    ⊎ (StopsAtEnd (within ts c) (n + 1) one ts (Inside (Behind (Take (I32 ∷ [])) S)) place kind
    ⊎ (Stops (within ts c) (n + 1 + count_of one) other
    (Inside (When (Typed (within ts c) one [] (types ts)) (Behind (Take (I32 ∷ [])) S))) place kind
    ⊎ (StopsAtEnd (within ts c) (n + 1 + count_of one) other ts
    (Inside (When (Typed (within ts c) one [] (types ts)) (Behind (Take (I32 ∷ [])) S))) place kind
    ⊎ Stops c (n + 1 + count_of one + count_of other) rest (Left c (Choice ts one other End) S) place kind))))

-- ---- a function's body
abbrev pub in_body : Context → Context
in_body c = within c.result c

-- The body has its function's type.
abbrev pub IsTyped : Context → Code → Type 0
IsTyped c code = Typed (in_body c) code [] (types c.result)

-- a function's body begins with no operand
abbrev pub None' : List ValType → Type 0
None' ts = ts ≡ []

-- The body's first breach: at an instruction, or at its end.
abbrev pub IsBreach : Context → Code → ℕ → Refusal → Type 0
IsBreach c code place kind =
    Stops (in_body c) 0 code None' place kind ⊎ StopsAtEnd (in_body c) 0 code c.result None' place kind
