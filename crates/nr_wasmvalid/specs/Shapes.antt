-- WebAssembly Core 1.0, appendix "Validation Algorithm": operands of known and unknown types, above
-- a bottom below which any may stand. What a sequence leaves of them, or its first fault.
use Rattle.std.specs.Prelude.{ℕ, ◌+◌, List, [], ◌∷◌, Option, Some, None, Bool, true, false, Result, Ok, Err}
use Rattle.std.specs.Prelude.{if◌then◌else◌}
use Rattle.nr_wasmtypes.specs.declared.instr.ValType.{ValType}
use Rattle.nr_wasmtypes.specs.declared.instr.ValType.TheVariants.{I32}
pub use Rattle.nr_bytes.specs.Reading.{◌>>=◌}
use Rattle.nr_wasmtypes.specs.Code.{Code, End, Then, Block, Loop, Choice, count_of}
use Rattle.nr_wasmvalid.specs.declared.refusal.Refusal.{Refusal}
use Rattle.nr_wasmvalid.specs.declared.refusal.Refusal.TheVariants as refusal
use Rattle.nr_wasmvalid.specs.declared.refusal.BodyFault.{BodyFault}
use Rattle.nr_wasmvalid.specs.Faults.{fault_at}
use Rattle.nr_wasmvalid.specs.Rules.{Types?, types, Context, within, Ask, Take, Give, TakeAny, Alike, Empty, Leave}
use Rattle.nr_wasmvalid.specs.Rules.{Must, same_type, rule, ending}

-- a type, or none where it isn't known
abbrev pub Operand : Type 0
Operand = Option ValType

-- the operands of a block, the topmost first, and whether any others may stand below
pub record Shape : Type 0 where
  pub known : List Operand
  pub any_below : Bool

abbrev pub fresh : Shape
fresh = record { known = []; any_below = false }

abbrev pub on_top : Operand → Shape → Shape
on_top t s = record { known = t ∷ s.known; any_below = s.any_below }

-- the topmost operand, and the others
abbrev pub top_of : List Operand → Bool → Result (Operand × Shape) Refusal
top_of (t ∷ ts) any_below = Ok (t, record { known = ts; any_below = any_below })
top_of [] true = Ok (None, record { known = []; any_below = true })
top_of [] false = Err refusal.Types

abbrev pub top : Shape → Result (Operand × Shape) Refusal
top s = top_of s.known s.any_below

-- the operand can have this type
abbrev pub can_be : ValType → Operand → Bool
can_be t None = true
can_be t (Some u) = same_type t u

-- the one type of two operands
abbrev pub both : Operand → Operand → Result Operand Refusal
both None u = Ok u
both (Some t) u = if can_be t u then Ok (Some t) else Err refusal.Types

unfoldable pub take_one : ValType → Shape → Result Shape Refusal
take_one t s = do
  one ← top s
  if can_be t one.0 then Ok one.1 else Err refusal.Types

unfoldable pub take_all : List ValType → Shape → Result Shape Refusal
take_all [] s = Ok s
take_all (t ∷ ts) s = do
  one ← take_one t s
  take_all ts one

unfoldable pub give_all : List ValType → Shape → Shape
give_all [] s = s
give_all (t ∷ ts) s = on_top (Some t) (give_all ts s)

unfoldable pub alike : Shape → Result Shape Refusal
alike s = do
  one ← top s
  other ← top one.1
  t ← both one.0 other.0
  Ok (on_top t other.1)

abbrev pub no_more : List Operand → Result Shape Refusal
no_more [] = Ok fresh
no_more (t ∷ ts) = Err refusal.Types

-- what an ask leaves
abbrev pub asked : Ask → Shape → Result Shape Refusal
asked (Take ts) s = take_all ts s
asked (Give ts) s = Ok (give_all ts s)
asked TakeAny s = top s >>= λ one. Ok one.1
asked Alike s = alike s
asked Empty s = no_more s.known
asked Leave s = Ok (record { known = []; any_below = true })
asked (Must kind holds) s = if holds then Ok s else Err kind

unfoldable pub asked_all : List Ask → Shape → Result Shape Refusal
asked_all [] s = Ok s
asked_all (ask ∷ asks) s = do
  one ← asked ask s
  asked_all asks one

-- with the number of the instruction
abbrev pub placed : {X : Type 0} → ℕ → Result X Refusal → Result X BodyFault
placed n (Ok x) = Ok x
placed n (Err kind) = Err (fault_at n kind)

-- the end of a block, with the number of the instruction that comes next
unfoldable pub ended : ℕ → Types? → Result Shape BodyFault → Result Shape BodyFault
ended n ts body = body >>= λ inner. placed n (asked_all (ending ts) inner)

-- what a sequence leaves whose first instruction has the number n
unfoldable pub judged : Context → ℕ → Code → Shape → Result Shape BodyFault
judged c n End s = Ok s
judged c n (Then p rest) s = do
  one ← placed n (asked_all (rule c p) s)
  judged c (n + 1) rest one
judged c n (Block ts body rest) s = do
  end ← ended (n + 1 + count_of body) ts (judged (within ts c) (n + 1) body fresh)
  judged c (n + 1 + count_of body) rest (give_all (types ts) s)
judged c n (Loop ts body rest) s = do
  end ← ended (n + 1 + count_of body) ts (judged (within None c) (n + 1) body fresh)
  judged c (n + 1 + count_of body) rest (give_all (types ts) s)
judged c n (Choice ts one other rest) s = do
  below ← placed n (take_all (I32 ∷ []) s)
  first ← ended (n + 1 + count_of one) ts (judged (within ts c) (n + 1) one fresh)
  second ← ended (n + 1 + count_of one + count_of other) ts (judged (within ts c) (n + 1 + count_of one) other fresh)
  judged c (n + 1 + count_of one + count_of other) rest (give_all (types ts) below)

-- a function's body
unfoldable pub body_judged : Context → Code → Result Shape BodyFault
body_judged c code = ended (count_of code) c.result (judged (within c.result c) 0 code fresh)
