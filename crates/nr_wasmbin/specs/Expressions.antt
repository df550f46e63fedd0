-- WebAssembly Core 1.0, "Binary Format", "Instructions" and "Expressions": a sequence of instructions, read up to its
-- end.
use Rattle.std.specs.Prelude.{◌≡◌, ◌≢◌, ℕ, zero, suc, ◌+◌, ◌≤◌, List, [], ◌∷◌, ◌++◌, Option, Some, None, Bool, true, false}
use Rattle.std.specs.Prelude.{Result, Ok, Err, nat_lt, ◌==◌, if◌then◌else◌, length, min}
use Rattle.std.specs.Global.{Vec}
use Rattle.nr_bytes.specs.Fields.{mapped, pair}
use Rattle.nr_bytes.specs.Reading.{Input, ◌>>=◌}
use Rattle.nr_wasmtypes.specs.declared.instr.ValType.{ValType}
use Rattle.nr_wasmtypes.specs.declared.instr.Load.{Load}
use Rattle.nr_wasmtypes.specs.declared.instr.Store.{Store}
use Rattle.nr_wasmtypes.specs.declared.instr.Plain.{Plain}
use Rattle.nr_wasmtypes.specs.declared.instr.Plain.TheVariants as plain
use Rattle.nr_wasmtypes.specs.declared.instr.Instr.{Instr}
use Rattle.nr_wasmtypes.specs.Code.{Code, End, Then, Block, Loop, Choice, code_of, put}
use Rattle.nr_wasmtypes.specs.Opcodes.{op_of}
use Rattle.nr_wasmtypes.specs.declared.opcode.Op.{Op}
use Rattle.nr_wasmtypes.specs.declared.opcode.Op.TheVariants as op
use Rattle.nr_wasmbin.specs.Fields.{Read, byte_at, u32_at, s32_at, s64_at, list_at}
use Rattle.nr_wasmbin.specs.Parts.{val_type_of, exact_at}
use Rattle.nr_wasmbin.specs.declared.fault.DecodeFault.{DecodeFault}
use Rattle.nr_wasmbin.specs.declared.fault.DecodeFault.TheVariants as fault

-- The power of two of an alignment. From 255 on they are held as 255, which is above the size of each access.
abbrev pub load_of : Load → ℕ × ℕ → Plain
load_of what m = plain.Load what (min m.0 255) m.1

abbrev pub store_of : Store → ℕ × ℕ → Plain
store_of what m = plain.Store what (min m.0 255) m.1

-- a reserved byte 0 behind
abbrev pub call_of : ℕ × ℕ → Plain
call_of c = plain.CallIndirect c.0

-- the instruction of an opcode that stands at this place, with the operands behind the opcode
unfoldable pub plain_at : ℕ → Op → Input → Read Plain
plain_at at op.Unreachable s = Ok (plain.Unreachable, s)
plain_at at op.Nop s = Ok (plain.Nop, s)
plain_at at op.Br s = mapped plain.Br u32_at s
plain_at at op.BrIf s = mapped plain.BrIf u32_at s
plain_at at op.BrTable s = mapped plain.BrTable (pair (list_at u32_at) u32_at) s
plain_at at op.Return s = Ok (plain.Return, s)
plain_at at op.Call s = mapped plain.Call u32_at s
plain_at at op.CallIndirect s = mapped call_of (pair u32_at (exact_at 0x00)) s
plain_at at op.Drop s = Ok (plain.Drop, s)
plain_at at op.Select s = Ok (plain.Select, s)
plain_at at op.LocalGet s = mapped plain.LocalGet u32_at s
plain_at at op.LocalSet s = mapped plain.LocalSet u32_at s
plain_at at op.LocalTee s = mapped plain.LocalTee u32_at s
plain_at at op.GlobalGet s = mapped plain.GlobalGet u32_at s
plain_at at op.GlobalSet s = mapped plain.GlobalSet u32_at s
plain_at at (op.Load what) s = mapped (load_of what) (pair u32_at u32_at) s
plain_at at (op.Store what) s = mapped (store_of what) (pair u32_at u32_at) s
plain_at at op.MemorySize s = mapped (λ z. plain.MemorySize) (exact_at 0x00) s
plain_at at op.MemoryGrow s = mapped (λ z. plain.MemoryGrow) (exact_at 0x00) s
plain_at at op.Const32 s = mapped plain.Const32 s32_at s
plain_at at op.Const64 s = mapped plain.Const64 s64_at s
plain_at at (op.IsZero kind) s = Ok (plain.IsZero kind, s)
plain_at at (op.Compare kind how) s = Ok (plain.Compare kind how, s)
plain_at at (op.Count kind how) s = Ok (plain.Count kind how, s)
plain_at at (op.Arith kind how) s = Ok (plain.Arith kind how, s)
plain_at at (op.Convert how) s = Ok (plain.Convert how, s)
plain_at at op.Float s = Err (fault.Float at)
plain_at at op.Unknown s = Err (fault.Opcode at)
plain_at at op.Block s = Err (fault.Opcode at)
plain_at at op.Loop s = Err (fault.Opcode at)
plain_at at op.If s = Err (fault.Opcode at)
plain_at at op.Else s = Err (fault.Opcode at)
plain_at at op.End s = Err (fault.Opcode at)

-- a block's type: none, or one
abbrev pub block_type_of : ℕ → ℕ × Input → Read (Option ValType)
block_type_of at b = if b.0 == 0x40 then Ok (None, b.1) else (val_type_of at b >>= λ t. Ok (Some t.0, t.1))

abbrev pub block_type_at : Input → Read (Option ValType)
block_type_at s = byte_at s >>= block_type_of s.at

-- at most 256 blocks stand in one another
abbrev pub opened : ℕ → ℕ → Input → Read (Option ValType)
opened depth at s = if nat_lt depth 256 then block_type_at s else Err (fault.TooMany at)

-- A sequence up to its end, which is an `else` or not. Each instruction has a byte, so a number of
-- turns that is no less than that of the bytes left is enough.
abbrev pub Sequence : Type 0
Sequence = Read (Code × Bool)

abbrev pub front : (Code → Code) → Sequence → Sequence
front step rest = rest >>= λ r. Ok ((step r.0.0, r.0.1), r.1)

-- the second side of a choice, where an `else` stands
abbrev pub other_side : (Input → Sequence) → Bool → Input → Sequence
other_side next true s = next s
other_side next false s = Ok ((End, false), s)

-- the instruction behind its opcode at this place, and what follows it
unfoldable pub instr_at : (ℕ → Bool → Input → Sequence) → ℕ → Bool → ℕ → Op → Input → Sequence
instr_at next depth may_else at op.End s = Ok ((End, false), s)
instr_at next depth may_else at op.Else s = if may_else then Ok ((End, true), s) else Err (fault.Opcode at)
instr_at next depth may_else at op.Block s = do
  ty ← opened depth at s
  body ← next (depth + 1) false ty.1
  front (Block ty.0 body.0.0) (next depth may_else body.1)
instr_at next depth may_else at op.Loop s = do
  ty ← opened depth at s
  body ← next (depth + 1) false ty.1
  front (Loop ty.0 body.0.0) (next depth may_else body.1)
instr_at next depth may_else at op.If s = do
  ty ← opened depth at s
  one ← next (depth + 1) true ty.1
  other ← other_side (next (depth + 1) false) one.0.1 one.1
  front (Choice ty.0 one.0.0 other.0.0) (next depth may_else other.1)
instr_at next depth may_else at o s = do
  p ← plain_at at o s
  front (Then p.0) (next depth may_else p.1)

unfoldable pub code_at : ℕ → ℕ → Bool → Input → Sequence
code_at zero depth may_else s = Err (fault.Short s.at)
code_at (suc turns) depth may_else s = do
  b ← byte_at s
  instr_at (code_at turns) depth may_else s.at (op_of b.0) b.1

-- an expression
abbrev pub expression_at : Input → Read Code
expression_at s = code_at (length s.left) 0 false s >>= λ r. Ok (r.0.0, r.1)

-- ---- what calls answer
-- instructions before others
abbrev pub onto : List Instr → Code → Code
onto [] rest = rest
onto (i ∷ is) rest = put i (onto is rest)

-- the opcodes of the instructions that hold others, and those that end a sequence
abbrev pub is_structured : Op → Bool
is_structured op.Block = true
is_structured op.Loop = true
is_structured op.If = true
is_structured op.Else = true
is_structured op.End = true
is_structured o = false

-- A call put a sequence's first instructions behind others, and stands behind the opcode that comes next, at its place,
-- unless memory ran out.
abbrev pub RowGives : Result (ℕ × Op) DecodeFault → Input → List Instr → List Instr → ℕ → Bool → Sequence → Type 0
RowGives (Ok r) new before after depth may_else whole =
    (items : List Instr) × (after ≡ before ++ items) × (more : ℕ) × (length new.left ≤ more)
    × (whole ≡ front (onto items) (instr_at (code_at more) depth may_else r.0 r.1 new))
RowGives (Err e) new before after depth may_else whole = e ≢ fault.Memory → whole ≡ Err e

-- the same of a call that put the whole sequence there
abbrev pub PutsCode : Result Bool DecodeFault → Input → List Instr → List Instr → Sequence → Type 0
PutsCode (Ok is_else) new before after whole =
    (items : List Instr) × (after ≡ before ++ items) × (whole ≡ Ok ((code_of items, is_else), new))
PutsCode (Err e) new before after whole = e ≢ fault.Memory → whole ≡ Err e

-- a call gave a sequence, unless memory ran out
abbrev pub GivesCode : Result (Vec Instr × Bool) DecodeFault → Input → Sequence → Type 0
GivesCode (Ok r) new read = read ≡ Ok ((code_of r.0.items, r.1), new)
GivesCode (Err e) new read = e ≢ fault.Memory → read ≡ Err e

-- a call went on behind an instruction, whatever stands there, unless memory ran out
abbrev pub StepsOn : Result Instr DecodeFault → Input → (Input → Sequence) → Sequence → Type 0
StepsOn (Ok i) new next whole = whole ≡ front (put i) (next new)
StepsOn (Err e) new next whole = e ≢ fault.Memory → whole ≡ Err e

abbrev pub GivesExpression : Result (Vec Instr) DecodeFault → Input → Read Code → Type 0
GivesExpression (Ok v) new read = read ≡ Ok (code_of v.items, new)
GivesExpression (Err e) new read = e ≢ fault.Memory → read ≡ Err e

abbrev pub GivesOther : Result (Vec Instr) DecodeFault → Input → Sequence → Type 0
GivesOther (Ok v) new read = (stands : Bool) × (read ≡ Ok ((code_of v.items, stands), new))
GivesOther (Err e) new read = e ≢ fault.Memory → read ≡ Err e
