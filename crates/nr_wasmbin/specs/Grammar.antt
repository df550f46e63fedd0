-- WebAssembly Core 1.0, "Binary Format": which bytes are a module, and what it is.
use Rattle.std.specs.Prelude.{◌≡◌, ℕ, zero, suc, ◌+◌, ◌<◌, ◌≤◌, ◌⊎◌, List, [], ◌∷◌, ◌++◌, length, min, replicate}
use Rattle.std.specs.Prelude.{Option, Some, None, Bool, true, false}
use Rattle.std.specs.Str.{is_utf8}
use Rattle.nr_wasmtypes.specs.declared.instr.ValType.{ValType}
use Rattle.nr_wasmtypes.specs.declared.instr.ValType.TheVariants.{I32, I64}
use Rattle.nr_wasmtypes.specs.declared.instr.Plain.{Plain}
use Rattle.nr_wasmtypes.specs.declared.instr.Plain.TheVariants as plain
use Rattle.nr_wasmtypes.specs.declared.module.FuncType.{FuncType}
use Rattle.nr_wasmtypes.specs.declared.module.ImportKind.{ImportKind}
use Rattle.nr_wasmtypes.specs.declared.module.ImportKind.TheVariants as imported
use Rattle.nr_wasmtypes.specs.declared.module.Import.{Import}
use Rattle.nr_wasmtypes.specs.declared.module.Limits.{Limits}
use Rattle.nr_wasmtypes.specs.declared.module.ConstExpr.{ConstExpr}
use Rattle.nr_wasmtypes.specs.declared.module.ConstExpr.TheVariants as const
use Rattle.nr_wasmtypes.specs.declared.module.Global.{Global}
use Rattle.nr_wasmtypes.specs.declared.module.ExportKind.{ExportKind}
use Rattle.nr_wasmtypes.specs.declared.module.ExportKind.TheVariants as exported
use Rattle.nr_wasmtypes.specs.declared.module.Export.{Export}
use Rattle.nr_wasmtypes.specs.declared.module.Element.{Element}
use Rattle.nr_wasmtypes.specs.declared.module.Segment.{Segment}
use Rattle.nr_wasmtypes.specs.declared.module.Module.{Module}
use Rattle.nr_wasmtypes.specs.Body.{Body}
use Rattle.nr_wasmtypes.specs.Code.{Code, End, Then, Block, Loop, Choice}
use Rattle.nr_wasmtypes.specs.Opcodes.{op_of}
use Rattle.nr_wasmtypes.specs.declared.opcode.Op.{Op}
use Rattle.nr_wasmtypes.specs.declared.opcode.Op.TheVariants as op
use Rattle.nr_wasmbin.specs.Leb.{IsUnsigned, IsSigned}
use Rattle.nr_wasmbin.specs.Modules.{magic, version}

-- ---- conventions
-- which bytes are a thing
abbrev pub Language : Type 1
Language = List ℕ → Type 0

-- one after the other
infixr 10 ◌▸◌
abbrev pub ◌▸◌ : Language → Language → Language
(P ▸ Q) text = (x y : List ℕ) × (text ≡ x ++ y) × P x × Q y

abbrev pub nothing : Language
nothing text = text ≡ []

abbrev pub exactly : List ℕ → Language
exactly bytes text = text ≡ bytes

abbrev pub byte : ℕ → Language
byte b = exactly (b ∷ [])

-- a byte that is the opcode of this
abbrev pub opcode : Op → Language
opcode o text = (b : ℕ) × (text ≡ b ∷ []) × (op_of b ≡ o)

-- so many in turn
abbrev pub many : Language → ℕ → Language
many P zero = nothing
many P (suc n) = P ▸ many P n

-- ---- values
abbrev pub u32 : ℕ → Language
u32 n text = IsUnsigned 32 text n

abbrev pub s32 : ℕ → Language
s32 n text = IsSigned 32 text n

abbrev pub s64 : ℕ → Language
s64 n text = IsSigned 64 text n

-- vec: at most 50,000 items
abbrev pub items : {X : Type 0} → (X → Language) → List X → Language
items item [] = nothing
items item (x ∷ xs) = item x ▸ items item xs

abbrev pub list : {X : Type 0} → (X → Language) → List X → Language
list item xs text = (length xs ≤ 50000) × (u32 (length xs) ▸ items item xs) text

abbrev pub bytes : List ℕ → Language
bytes b = u32 (length b) ▸ exactly b

abbrev pub name : List ℕ → Language
name n text = (is_utf8 n ≡ true) × bytes n text

-- contents behind their size
abbrev pub sized : Language → Language
sized P text = (size contents : List ℕ) × (text ≡ size ++ contents) × u32 (length contents) size × P contents

-- ---- types
abbrev pub val_type : ValType → Language
val_type I32 = byte 0x7f
val_type I64 = byte 0x7e

abbrev pub block_type : Option ValType → Language
block_type None = byte 0x40
block_type (Some t) = val_type t

-- a list of no result or of one
abbrev pub result : Option ValType → Language
result None = u32 0
result (Some t) = u32 1 ▸ val_type t

abbrev pub func_type : FuncType → Language
func_type f = byte 0x60 ▸ list val_type f.params ▸ result f.result

abbrev pub limits_with : ℕ → Option ℕ → Language
limits_with least None = byte 0x00 ▸ u32 least
limits_with least (Some most) = byte 0x01 ▸ u32 least ▸ u32 most

abbrev pub limits : Limits → Language
limits l = limits_with l.least l.most

abbrev pub table : Limits → Language
table l = byte 0x70 ▸ limits l

abbrev pub mutable : Bool → Language
mutable false = byte 0x00
mutable true = byte 0x01

abbrev pub global_type : ValType → Bool → Language
global_type t m = val_type t ▸ mutable m

-- ---- instructions
-- of an alignment above 254 no more is held than that
abbrev pub access : ℕ → ℕ → Language
access align offset text = (n : ℕ) × (min n 255 ≡ align) × (u32 n ▸ u32 offset) text

-- what stands behind the opcode of an instruction that holds no others
abbrev pub operands : Plain → Language
operands plain.Unreachable = nothing
operands plain.Nop = nothing
operands (plain.Br l) = u32 l
operands (plain.BrIf l) = u32 l
operands (plain.BrTable labels) = list u32 labels.0 ▸ u32 labels.1
operands plain.Return = nothing
operands (plain.Call f) = u32 f
operands (plain.CallIndirect t) = u32 t ▸ byte 0x00
operands plain.Drop = nothing
operands plain.Select = nothing
operands (plain.LocalGet x) = u32 x
operands (plain.LocalSet x) = u32 x
operands (plain.LocalTee x) = u32 x
operands (plain.GlobalGet x) = u32 x
operands (plain.GlobalSet x) = u32 x
operands (plain.Load what align offset) = access align offset
operands (plain.Store what align offset) = access align offset
operands plain.MemorySize = byte 0x00
operands plain.MemoryGrow = byte 0x00
operands (plain.Const32 n) = s32 n
operands (plain.Const64 n) = s64 n
operands (plain.IsZero t) = nothing
operands (plain.Compare t how) = nothing
operands (plain.Count t how) = nothing
operands (plain.Arith t how) = nothing
operands (plain.Convert how) = nothing

abbrev pub plain_op : Plain → Op
plain_op plain.Unreachable = op.Unreachable
plain_op plain.Nop = op.Nop
plain_op (plain.Br l) = op.Br
plain_op (plain.BrIf l) = op.BrIf
plain_op (plain.BrTable labels) = op.BrTable
plain_op plain.Return = op.Return
plain_op (plain.Call f) = op.Call
plain_op (plain.CallIndirect t) = op.CallIndirect
plain_op plain.Drop = op.Drop
plain_op plain.Select = op.Select
plain_op (plain.LocalGet x) = op.LocalGet
plain_op (plain.LocalSet x) = op.LocalSet
plain_op (plain.LocalTee x) = op.LocalTee
plain_op (plain.GlobalGet x) = op.GlobalGet
plain_op (plain.GlobalSet x) = op.GlobalSet
plain_op (plain.Load what align offset) = op.Load what
plain_op (plain.Store what align offset) = op.Store what
plain_op plain.MemorySize = op.MemorySize
plain_op plain.MemoryGrow = op.MemoryGrow
plain_op (plain.Const32 n) = op.Const32
plain_op (plain.Const64 n) = op.Const64
plain_op (plain.IsZero t) = op.IsZero t
plain_op (plain.Compare t how) = op.Compare t how
plain_op (plain.Count t how) = op.Count t how
plain_op (plain.Arith t how) = op.Arith t how
plain_op (plain.Convert how) = op.Convert how

-- the byte that ends a sequence
abbrev pub end_op : Bool → Op
end_op true = op.Else
end_op false = op.End

-- the second side of a choice, where an `else` stands
abbrev pub IsOther : Bool → Language → Code → Language
IsOther true Side other text = Side text
IsOther false Side other text = (text ≡ []) × (other ≡ End)

-- The bytes are the sequence and its end, which is an `else` or not, inside so many blocks. At most 256 stand in one
-- another.
abbrev pub IsSequence : ℕ → List ℕ → Code → Bool → Type 0
IsSequence depth text End stands = (b : ℕ) × (text ≡ b ∷ []) × (op_of b ≡ end_op stands)
IsSequence depth text (Then p rest) stands =
    (b : ℕ) × (x y : List ℕ) × (text ≡ b ∷ (x ++ y)) × ((op_of b ≡ plain_op p) × operands p x)
    × IsSequence depth y rest stands
IsSequence depth text (Block ty body rest) stands =
    (b : ℕ) × (t x y : List ℕ) × (text ≡ b ∷ (t ++ (x ++ y))) × (op_of b ≡ op.Block) × (depth < 256) × block_type ty t
    × IsSequence (depth + 1) x body false × IsSequence depth y rest stands
IsSequence depth text (Loop ty body rest) stands =
    (b : ℕ) × (t x y : List ℕ) × (text ≡ b ∷ (t ++ (x ++ y))) × (op_of b ≡ op.Loop) × (depth < 256) × block_type ty t
    × IsSequence (depth + 1) x body false × IsSequence depth y rest stands
IsSequence depth text (Choice ty one other rest) stands =
    (b : ℕ) × (t x z y : List ℕ) × (text ≡ b ∷ (t ++ (x ++ (z ++ y)))) × (op_of b ≡ op.If) × (depth < 256)
    × block_type ty t × (split : Bool) × IsSequence (depth + 1) x one split
    × IsOther split (λ text. IsSequence (depth + 1) text other false) other z × IsSequence depth y rest stands

abbrev pub expression : Code → Language
expression code text = IsSequence 0 text code false

abbrev pub constant : ConstExpr → Language
constant (const.I32 n) = opcode op.Const32 ▸ s32 n
constant (const.I64 n) = opcode op.Const64 ▸ s64 n
constant (const.Get x) = opcode op.GlobalGet ▸ u32 x

abbrev pub const_expr : ConstExpr → Language
const_expr c = constant c ▸ opcode op.End

-- ---- entries of sections
abbrev pub import_kind : ImportKind → Language
import_kind (imported.Func t) = byte 0x00 ▸ u32 t
import_kind imported.Table = byte 0x01 ▸ λ text. (l : Limits) × table l text
import_kind imported.Memory = byte 0x02 ▸ λ text. (l : Limits) × limits l text
import_kind imported.Global = byte 0x03 ▸ λ text. (g : ValType × Bool) × global_type g.0 g.1 text

abbrev pub import : Import → Language
import i = name i.«module» ▸ name i.name ▸ import_kind i.kind

abbrev pub global : Global → Language
global g = global_type g.kind g.mutable ▸ const_expr g.init

abbrev pub export_kind : ExportKind → Language
export_kind exported.Func = byte 0x00
export_kind exported.Table = byte 0x01
export_kind exported.Memory = byte 0x02
export_kind exported.Global = byte 0x03

abbrev pub export : Export → Language
export e = name e.name ▸ export_kind e.kind ▸ u32 e.index

abbrev pub element : Element → Language
element e = u32 e.table ▸ const_expr e.offset ▸ list u32 e.funcs

abbrev pub segment : Segment → Language
segment d = u32 d.memory ▸ const_expr d.offset ▸ bytes d.bytes

-- groups of locals, at most 50,000 behind so many others
abbrev pub group : ℕ × ValType → Language
group g = u32 g.0 ▸ val_type g.1

abbrev pub groups : ℕ → ℕ → List ValType → Language
groups zero so_far locals text = (text ≡ []) × (locals ≡ [])
groups (suc n) so_far locals text =
    (g : ℕ × ValType) × (others : List ValType) × (locals ≡ replicate g.0 g.1 ++ others) × (so_far + g.0 ≤ 50000)
    × (group g ▸ groups n (so_far + g.0) others) text

abbrev pub locals : List ValType → Language
locals ls text = (n : ℕ) × (n ≤ 50000) × (u32 n ▸ groups n 0 ls) text

abbrev pub body : Body → Language
body b = sized (locals b.locals ▸ expression b.code)

-- ---- modules
abbrev pub anything : Language
anything text = Unit {0}

abbrev pub custom : Language
custom = byte 0 ▸ sized (λ text. (n : List ℕ) × (name n ▸ anything) text)

abbrev pub customs : Language
customs text = (n : ℕ) × many custom n text

-- a section that may be absent, behind custom ones
abbrev pub section : {X : Type 0} → ℕ → (List X → Language) → List X → Language
section id held xs = customs ▸ λ text. ((text ≡ []) × (xs ≡ [])) ⊎ (byte id ▸ sized (held xs)) text

abbrev pub front : Module → Language
front m = section 1 (list func_type) m.types ▸ section 2 (list import) m.imports ▸ section 3 (list u32) m.funcs

abbrev pub middle : Module → Language
middle m =
    section 4 (list table) m.tables ▸ section 5 (list limits) m.memories ▸ section 6 (list global) m.globals ▸ section
    7 (list export) m.exports
    ▸ section 9 (list element) m.elements

abbrev pub back : Module → Language
back m = section 10 (list body) m.bodies ▸ section 11 (list segment) m.segments ▸ customs

-- a module, with as many bodies as functions
abbrev pub IsModule : List ℕ → Module → Type 0
IsModule text m =
    (length m.bodies ≡ length m.funcs) × (exactly magic ▸ exactly version ▸ front m ▸ middle m ▸ back m) text
