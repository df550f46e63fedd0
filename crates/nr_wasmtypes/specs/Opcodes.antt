-- WebAssembly Core 1.0, "Binary Format", "Instructions": the opcodes.
use Rattle.std.specs.Prelude.{ℕ, List, [], ◌∷◌, ◌++◌, map, replicate, get_or}
use Rattle.nr_wasmtypes.specs.declared.instr.ValType.TheVariants.{I32, I64}
use Rattle.nr_wasmtypes.specs.declared.instr.Arith.{Arith}
use Rattle.nr_wasmtypes.specs.declared.instr.Arith.TheVariants as arith
use Rattle.nr_wasmtypes.specs.declared.instr.Compare.{Compare}
use Rattle.nr_wasmtypes.specs.declared.instr.Compare.TheVariants as compare
use Rattle.nr_wasmtypes.specs.declared.instr.Count.{Count}
use Rattle.nr_wasmtypes.specs.declared.instr.Count.TheVariants as count
use Rattle.nr_wasmtypes.specs.declared.instr.Convert.TheVariants as convert
use Rattle.nr_wasmtypes.specs.declared.instr.Load.{Load}
use Rattle.nr_wasmtypes.specs.declared.instr.Load.TheVariants as load
use Rattle.nr_wasmtypes.specs.declared.instr.Store.{Store}
use Rattle.nr_wasmtypes.specs.declared.instr.Store.TheVariants as store
use Rattle.nr_wasmtypes.specs.declared.opcode.Op.{Op}
use Rattle.nr_wasmtypes.specs.declared.opcode.Op.TheVariants as op

abbrev pub none : ℕ → List Op
none n = replicate n op.Unknown

-- instructions on floats
abbrev pub floats : ℕ → List Op
floats n = replicate n op.Float

abbrev pub comparisons : List Compare
comparisons =
    compare.Equal ∷ compare.NotEqual ∷ compare.LtS ∷ compare.LtU ∷ compare.GtS ∷ compare.GtU
    ∷ compare.LeS ∷ compare.LeU ∷ compare.GeS ∷ compare.GeU ∷ []

abbrev pub counts : List Count
counts = count.Clz ∷ count.Ctz ∷ count.Popcnt ∷ []

abbrev pub ariths : List Arith
ariths =
    arith.Add ∷ arith.Sub ∷ arith.Mul ∷ arith.DivS ∷ arith.DivU ∷ arith.RemS ∷ arith.RemU
    ∷ arith.And ∷ arith.Or ∷ arith.Xor ∷ arith.Shl ∷ arith.ShrS ∷ arith.ShrU ∷ arith.Rotl ∷ arith.Rotr ∷ []

abbrev pub narrow_loads : List Load
narrow_loads =
    load.Signed8To32 ∷ load.Unsigned8To32 ∷ load.Signed16To32 ∷ load.Unsigned16To32
    ∷ load.Signed8To64 ∷ load.Unsigned8To64 ∷ load.Signed16To64 ∷ load.Unsigned16To64
    ∷ load.Signed32To64 ∷ load.Unsigned32To64 ∷ []

abbrev pub narrow_stores : List Store
narrow_stores = store.Low8Of32 ∷ store.Low16Of32 ∷ store.Low8Of64 ∷ store.Low16Of64 ∷ store.Low32Of64 ∷ []

-- what the bytes 00 to FF stand for, in order; a line begins with the byte that stands behind it
unfoldable pub opcodes : List Op
opcodes =
    -- 00
    (op.Unreachable ∷ op.Nop ∷ op.Block ∷ op.Loop ∷ op.If ∷ op.Else ∷ [])
    -- 06
    ++ none 5
    -- 0B
    ++ (op.End ∷ op.Br ∷ op.BrIf ∷ op.BrTable ∷ op.Return ∷ op.Call ∷ op.CallIndirect ∷ [])
    -- 12
    ++ none 8
    -- 1A
    ++ (op.Drop ∷ op.Select ∷ [])
    -- 1C
    ++ none 4
    -- 20
    ++ (op.LocalGet ∷ op.LocalSet ∷ op.LocalTee ∷ op.GlobalGet ∷ op.GlobalSet ∷ [])
    -- 25
    ++ none 3
    -- 28
    ++ (op.Load load.Full32 ∷ op.Load load.Full64 ∷ [])
    -- 2A
    ++ floats 2
    -- 2C
    ++ map op.Load narrow_loads
    -- 36
    ++ (op.Store store.Full32 ∷ op.Store store.Full64 ∷ [])
    -- 38
    ++ floats 2
    -- 3A
    ++ map op.Store narrow_stores
    -- 3F
    ++ (op.MemorySize ∷ op.MemoryGrow ∷ op.Const32 ∷ op.Const64 ∷ [])
    -- 43
    ++ floats 2
    -- 45
    ++ (op.IsZero I32 ∷ map (op.Compare I32) comparisons)
    -- 50
    ++ (op.IsZero I64 ∷ map (op.Compare I64) comparisons)
    -- 5B
    ++ floats 12
    -- 67
    ++ map (op.Count I32) counts
    -- 6A
    ++ map (op.Arith I32) ariths
    -- 79
    ++ map (op.Count I64) counts
    -- 7C
    ++ map (op.Arith I64) ariths
    -- 8B
    ++ floats 28
    -- A7
    ++ (op.Convert convert.Wrap ∷ [])
    -- A8
    ++ floats 4
    -- AC
    ++ (op.Convert convert.ExtendS ∷ op.Convert convert.ExtendU ∷ [])
    -- AE
    ++ floats 18
    -- C0
    ++ none 64

-- what a byte stands for
unfoldable pub op_of : ℕ → Op
op_of byte = get_or opcodes byte op.Unknown
