-- WebAssembly Core 1.0, "Text Format", "Instructions": the name of each instruction, and the opcode of a name.
use Rattle.std.specs.Prelude.{ℕ, ◌+◌, ◌&&◌, Bool, true, false, cond, List, [], ◌∷◌, ◌++◌, Option, Some, None, codes}
use Rattle.std.specs.Str.{bytes_eq}
use Rattle.nr_wasmtypes.specs.Opcodes.{opcodes}
use Rattle.nr_wasmtypes.specs.declared.instr.ValType.{ValType}
use Rattle.nr_wasmtypes.specs.declared.instr.ValType.TheVariants.{I32, I64}
use Rattle.nr_wasmtypes.specs.declared.instr.Arith.{Arith}
use Rattle.nr_wasmtypes.specs.declared.instr.Arith.TheVariants as arith
use Rattle.nr_wasmtypes.specs.declared.instr.Compare.{Compare}
use Rattle.nr_wasmtypes.specs.declared.instr.Compare.TheVariants as compare
use Rattle.nr_wasmtypes.specs.declared.instr.Count.{Count}
use Rattle.nr_wasmtypes.specs.declared.instr.Count.TheVariants as count
use Rattle.nr_wasmtypes.specs.declared.instr.Convert.{Convert}
use Rattle.nr_wasmtypes.specs.declared.instr.Convert.TheVariants as convert
use Rattle.nr_wasmtypes.specs.declared.instr.Load.{Load}
use Rattle.nr_wasmtypes.specs.declared.instr.Load.TheVariants as load
use Rattle.nr_wasmtypes.specs.declared.instr.Store.{Store}
use Rattle.nr_wasmtypes.specs.declared.instr.Store.TheVariants as store
use Rattle.nr_wasmtypes.specs.declared.opcode.Op.{Op}
use Rattle.nr_wasmtypes.specs.declared.opcode.Op.TheVariants as op

abbrev pub type_name : ValType → List ℕ
type_name I32 = codes "i32"
type_name I64 = codes "i64"

-- ---- memory
abbrev pub load_name : Load → List ℕ
load_name load.Full32 = codes "i32.load"
load_name load.Full64 = codes "i64.load"
load_name load.Signed8To32 = codes "i32.load8_s"
load_name load.Unsigned8To32 = codes "i32.load8_u"
load_name load.Signed16To32 = codes "i32.load16_s"
load_name load.Unsigned16To32 = codes "i32.load16_u"
load_name load.Signed8To64 = codes "i64.load8_s"
load_name load.Unsigned8To64 = codes "i64.load8_u"
load_name load.Signed16To64 = codes "i64.load16_s"
load_name load.Unsigned16To64 = codes "i64.load16_u"
load_name load.Signed32To64 = codes "i64.load32_s"
load_name load.Unsigned32To64 = codes "i64.load32_u"

abbrev pub store_name : Store → List ℕ
store_name store.Full32 = codes "i32.store"
store_name store.Full64 = codes "i64.store"
store_name store.Low8Of32 = codes "i32.store8"
store_name store.Low16Of32 = codes "i32.store16"
store_name store.Low8Of64 = codes "i64.store8"
store_name store.Low16Of64 = codes "i64.store16"
store_name store.Low32Of64 = codes "i64.store32"

-- ---- numbers: what stands behind the type and a dot
abbrev pub compare_word : Compare → List ℕ
compare_word compare.Equal = codes "eq"
compare_word compare.NotEqual = codes "ne"
compare_word compare.LtS = codes "lt_s"
compare_word compare.LtU = codes "lt_u"
compare_word compare.GtS = codes "gt_s"
compare_word compare.GtU = codes "gt_u"
compare_word compare.LeS = codes "le_s"
compare_word compare.LeU = codes "le_u"
compare_word compare.GeS = codes "ge_s"
compare_word compare.GeU = codes "ge_u"

abbrev pub count_word : Count → List ℕ
count_word count.Clz = codes "clz"
count_word count.Ctz = codes "ctz"
count_word count.Popcnt = codes "popcnt"

abbrev pub arith_word : Arith → List ℕ
arith_word arith.Add = codes "add"
arith_word arith.Sub = codes "sub"
arith_word arith.Mul = codes "mul"
arith_word arith.DivS = codes "div_s"
arith_word arith.DivU = codes "div_u"
arith_word arith.RemS = codes "rem_s"
arith_word arith.RemU = codes "rem_u"
arith_word arith.And = codes "and"
arith_word arith.Or = codes "or"
arith_word arith.Xor = codes "xor"
arith_word arith.Shl = codes "shl"
arith_word arith.ShrS = codes "shr_s"
arith_word arith.ShrU = codes "shr_u"
arith_word arith.Rotl = codes "rotl"
arith_word arith.Rotr = codes "rotr"

abbrev pub convert_name : Convert → List ℕ
convert_name convert.Wrap = codes "i32.wrap_i64"
convert_name convert.ExtendS = codes "i64.extend_i32_s"
convert_name convert.ExtendU = codes "i64.extend_i32_u"

abbrev pub typed : ValType → List ℕ → List ℕ
typed t word = type_name t ++ codes "." ++ word

-- ---- names of one part; `else` and `end` are those of their bytes, and what isn't of this profile has none
abbrev pub whole_name : Op → List ℕ
whole_name op.Unreachable = codes "unreachable"
whole_name op.Nop = codes "nop"
whole_name op.Block = codes "block"
whole_name op.Loop = codes "loop"
whole_name op.If = codes "if"
whole_name op.Else = codes "else"
whole_name op.End = codes "end"
whole_name op.Br = codes "br"
whole_name op.BrIf = codes "br_if"
whole_name op.BrTable = codes "br_table"
whole_name op.Return = codes "return"
whole_name op.Call = codes "call"
whole_name op.CallIndirect = codes "call_indirect"
whole_name op.Drop = codes "drop"
whole_name op.Select = codes "select"
whole_name op.LocalGet = codes "local.get"
whole_name op.LocalSet = codes "local.set"
whole_name op.LocalTee = codes "local.tee"
whole_name op.GlobalGet = codes "global.get"
whole_name op.GlobalSet = codes "global.set"
whole_name (op.Load what) = load_name what
whole_name (op.Store what) = store_name what
whole_name op.MemorySize = codes "memory.size"
whole_name op.MemoryGrow = codes "memory.grow"
whole_name op.Const32 = codes "i32.const"
whole_name op.Const64 = codes "i64.const"
whole_name (op.Convert how) = convert_name how
whole_name (op.IsZero t) = []
whole_name (op.Compare t how) = []
whole_name (op.Count t how) = []
whole_name (op.Arith t how) = []
whole_name op.Float = []
whole_name op.Unknown = []

-- all of them
abbrev pub name_of : Op → List ℕ
name_of (op.IsZero t) = typed t (codes "eqz")
name_of (op.Compare t how) = typed t (compare_word how)
name_of (op.Count t how) = typed t (count_word how)
name_of (op.Arith t how) = typed t (arith_word how)
name_of other = whole_name other

abbrev pub has_name : Op → Bool
has_name op.Float = false
has_name op.Unknown = false
has_name other = true

-- ---- back
-- the first of these opcodes that has the name, where this byte is the first's
abbrev pub byte_named : List ℕ → ℕ → List Op → Option ℕ
byte_named name byte [] = None
byte_named name byte (o ∷ os) =
    cond (has_name o && bytes_eq (name_of o) name) (Some byte) (byte_named name (byte + 1) os)

abbrev pub opcode_named : List ℕ → Option ℕ
opcode_named name = byte_named name 0 opcodes
