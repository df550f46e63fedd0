-- WebAssembly Core 1.0, "Validation", "Instructions": what each instruction asks of the operands
-- and of its context, in the order in which a breach is looked for.
use Rattle.std.specs.Prelude.{◌≡◌, ℕ, List, [], ◌∷◌, ◌++◌, reverse, Option, Some, None, option_and_then, is_some}
use Rattle.std.specs.Prelude.{nat_le, Bool, true, false, ◌&&◌, IsTrue, slice_get}
use Rattle.nr_wasmtypes.specs.declared.instr.ValType.{ValType}
use Rattle.nr_wasmtypes.specs.declared.instr.ValType.TheVariants.{I32, I64}
use Rattle.nr_wasmtypes.specs.declared.module.FuncType.{FuncType}
use Rattle.nr_wasmtypes.specs.declared.module.Global.{Global}
use Rattle.nr_wasmtypes.specs.declared.module.Limits.{Limits}
use Rattle.nr_wasmtypes.specs.declared.instr.Plain.{Plain}
use Rattle.nr_wasmtypes.specs.Tables as tables
pub use Rattle.nr_wasmtypes.specs.Tables.{types}
use Rattle.nr_wasmtypes.specs.declared.instr.Plain.TheVariants as op
use Rattle.nr_wasmvalid.specs.declared.refusal.Refusal.{Refusal}
use Rattle.nr_wasmvalid.specs.declared.refusal.Refusal.TheVariants as refusal

-- no type or one
abbrev pub Types? : Type 0
Types? = Option ValType

-- what stands around an instruction: the types of the module, the number of each function's type, the
-- tables, memories and globals, the locals and the result of the function, and the labels from the
-- innermost block outwards
pub record Context : Type 0 where
  pub types : List FuncType
  pub funcs : List ℕ
  pub tables : List Limits
  pub memories : List Limits
  pub globals : List Global
  pub locals : List ValType
  pub result : Types?
  pub labels : List Types?

-- the context inside a block
abbrev pub within : Types? → Context → Context
within label c = record c { labels = label ∷ c.labels }

-- the type of a function
abbrev pub func_type : List FuncType → List ℕ → ℕ → Option FuncType
func_type types funcs f = option_and_then (λ t. slice_get types t) (slice_get funcs f)

-- one thing that an instruction asks; lists of types have the topmost operand first
pub data Ask : Type 0 where
  Take : List ValType → Ask
  Give : List ValType → Ask
  TakeAny : Ask
  Alike : Ask
  Empty : Ask
  Leave : Ask
  Must : Refusal → Bool → Ask

-- the ask leads from these operands to those
abbrev pub Obeys : Ask → List ValType → List ValType → Type 0
Obeys (Take ts) before after = before ≡ ts ++ after
Obeys (Give ts) before after = after ≡ ts ++ before
Obeys TakeAny before after = (t : ValType) × (before ≡ t ∷ after)
-- two operands of one type, of which one stays
Obeys Alike before after = (t : ValType) × (below : List ValType) × (before ≡ t ∷ t ∷ below) × (after ≡ t ∷ below)
Obeys Empty before after = (before ≡ []) × (after ≡ [])
-- what stands behind is never reached: any operands may stand there
Obeys Leave before after = Unit {0}
Obeys (Must kind holds) before after = IsTrue holds × (after ≡ before)

-- how an ask is refused
abbrev pub kind_of : Ask → Refusal
kind_of (Must kind holds) = kind
kind_of (Take ts) = refusal.Types
kind_of (Give ts) = refusal.Types
kind_of TakeAny = refusal.Types
kind_of Alike = refusal.Types
kind_of Empty = refusal.Types
kind_of Leave = refusal.Types

-- what follows from a thing that must be there
abbrev pub named : {X : Type 0} → Refusal → Option X → (X → List Ask) → List Ask
named kind None asks = Must kind false ∷ []
named kind (Some x) asks = asks x

abbrev pub same_type : ValType → ValType → Bool
same_type I32 I32 = true
same_type I32 I64 = false
same_type I64 I32 = false
same_type I64 I64 = true

abbrev pub same_types : Types? → Types? → Bool
same_types None None = true
same_types None (Some t) = false
same_types (Some t) None = false
same_types (Some t) (Some u) = same_type t u

abbrev pub is_label : Types? → Option Types? → Bool
is_label ts None = false
is_label ts (Some us) = same_types ts us

-- each of these labels is there and has this type
abbrev pub are_labels : Types? → List Types? → List ℕ → Bool
are_labels ts labels [] = true
are_labels ts labels (l ∷ ls) = is_label ts (slice_get labels l) && are_labels ts labels ls

abbrev pub rule : Context → Plain → List Ask
rule c op.Unreachable = Leave ∷ []
rule c (op.Br l) = named refusal.Label (slice_get c.labels l) (λ ts. Take (types ts) ∷ Leave ∷ [])
rule c (op.BrIf l) =
    Take (I32 ∷ []) ∷ named refusal.Label (slice_get c.labels l) (λ ts. Take (types ts) ∷ Give (types ts) ∷ [])
rule c (op.BrTable table) =
    Take (I32 ∷ []) ∷ named refusal.Label (slice_get c.labels table.1) (λ ts.
    Take (types ts) ∷ Must refusal.Label (are_labels ts c.labels table.0) ∷ Leave ∷ [])
rule c op.Return = Take (types c.result) ∷ Leave ∷ []
rule c (op.Call f) =
    named refusal.Index (func_type c.types c.funcs f) (λ s. Take (reverse s.params) ∷ Give (types s.result) ∷ [])
rule c op.Drop = TakeAny ∷ []
rule c op.Select = Take (I32 ∷ []) ∷ Alike ∷ []
rule c (op.LocalGet n) = named refusal.Index (slice_get c.locals n) (λ t. Give (t ∷ []) ∷ [])
rule c (op.LocalSet n) = named refusal.Index (slice_get c.locals n) (λ t. Take (t ∷ []) ∷ [])
rule c (op.LocalTee n) = named refusal.Index (slice_get c.locals n) (λ t. Take (t ∷ []) ∷ Give (t ∷ []) ∷ [])
rule c (op.Const32 n) = Give (I32 ∷ []) ∷ []
rule c (op.Const64 n) = Give (I64 ∷ []) ∷ []
rule c (op.IsZero t) = Take (t ∷ []) ∷ Give (I32 ∷ []) ∷ []
rule c (op.Count t how) = Take (t ∷ []) ∷ Give (t ∷ []) ∷ []
rule c (op.Compare t how) = Take (t ∷ t ∷ []) ∷ Give (I32 ∷ []) ∷ []
rule c (op.Arith t how) = Take (t ∷ t ∷ []) ∷ Give (t ∷ []) ∷ []
rule c (op.Convert how) = Take (tables.taken_by_convert how ∷ []) ∷ Give (tables.given_by_convert how ∷ []) ∷ []
rule c op.Nop = []
rule c (op.CallIndirect n) =
    Take (I32 ∷ []) ∷ named refusal.Index (slice_get c.types n) (λ s.
    Take (reverse s.params) ∷ Must refusal.Index (is_some (slice_get c.tables 0)) ∷ Give (types s.result) ∷ [])
rule c (op.GlobalGet n) = named refusal.Index (slice_get c.globals n) (λ g. Give (g.kind ∷ []) ∷ [])
rule c (op.GlobalSet n) =
    named refusal.Index (slice_get c.globals n) (λ g. Take (g.kind ∷ []) ∷ Must refusal.Index g.mutable ∷ [])
rule c (op.Load what align offset) =
    Take (I32 ∷ []) ∷ Must refusal.Index (is_some (slice_get c.memories 0))
    ∷ Must refusal.Limit (nat_le align (tables.align_of_load what)) ∷ Give (tables.given_by_load what ∷ []) ∷ []
rule c (op.Store what align offset) =
    Take (tables.taken_by_store what ∷ I32 ∷ []) ∷ Must refusal.Index (is_some (slice_get c.memories 0))
    ∷ Must refusal.Limit (nat_le align (tables.align_of_store what)) ∷ []
rule c op.MemorySize = Must refusal.Index (is_some (slice_get c.memories 0)) ∷ Give (I32 ∷ []) ∷ []
rule c op.MemoryGrow = Take (I32 ∷ []) ∷ Must refusal.Index (is_some (slice_get c.memories 0)) ∷ Give (I32 ∷ []) ∷ []

-- what the end of a block asks: its result, and nothing else
abbrev pub ending : Types? → List Ask
ending ts = Take (types ts) ∷ Empty ∷ []
