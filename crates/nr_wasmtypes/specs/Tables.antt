-- WebAssembly Core 1.0, "Instructions": what the operations take and give.
use Rattle.std.specs.Prelude.{ℕ, List, [], ◌∷◌, Option, Some, None}
use Rattle.nr_wasmtypes.specs.declared.instr.ValType.{ValType}
use Rattle.nr_wasmtypes.specs.declared.instr.ValType.TheVariants.{I32, I64}
use Rattle.nr_wasmtypes.specs.declared.instr.Convert.{Convert}
use Rattle.nr_wasmtypes.specs.declared.instr.Convert.TheVariants as convert
use Rattle.nr_wasmtypes.specs.declared.instr.Load.{Load}
use Rattle.nr_wasmtypes.specs.declared.instr.Load.TheVariants as load
use Rattle.nr_wasmtypes.specs.declared.instr.Store.{Store}
use Rattle.nr_wasmtypes.specs.declared.instr.Store.TheVariants as store

-- no type or one
abbrev pub types : Option ValType → List ValType
types None = []
types (Some t) = t ∷ []

-- how many values a block leaves
abbrev pub arity_of : Option ValType → ℕ
arity_of None = 0
arity_of (Some t) = 1

-- ---- takes and gives; what isn't here takes and gives the type that it states
abbrev pub taken_by_convert : Convert → ValType
taken_by_convert convert.Wrap = I64
taken_by_convert convert.ExtendS = I32
taken_by_convert convert.ExtendU = I32

abbrev pub given_by_convert : Convert → ValType
given_by_convert convert.Wrap = I32
given_by_convert convert.ExtendS = I64
given_by_convert convert.ExtendU = I64

abbrev pub given_by_load : Load → ValType
given_by_load load.Full32 = I32
given_by_load load.Full64 = I64
given_by_load load.Signed8To32 = I32
given_by_load load.Unsigned8To32 = I32
given_by_load load.Signed16To32 = I32
given_by_load load.Unsigned16To32 = I32
given_by_load load.Signed8To64 = I64
given_by_load load.Unsigned8To64 = I64
given_by_load load.Signed16To64 = I64
given_by_load load.Unsigned16To64 = I64
given_by_load load.Signed32To64 = I64
given_by_load load.Unsigned32To64 = I64

abbrev pub taken_by_store : Store → ValType
taken_by_store store.Full32 = I32
taken_by_store store.Full64 = I64
taken_by_store store.Low8Of32 = I32
taken_by_store store.Low16Of32 = I32
taken_by_store store.Low8Of64 = I64
taken_by_store store.Low16Of64 = I64
taken_by_store store.Low32Of64 = I64

-- ---- the natural alignment of an access, as a power of two: so many bytes are read or written
abbrev pub align_of_load : Load → ℕ
align_of_load load.Full32 = 2
align_of_load load.Full64 = 3
align_of_load load.Signed8To32 = 0
align_of_load load.Unsigned8To32 = 0
align_of_load load.Signed16To32 = 1
align_of_load load.Unsigned16To32 = 1
align_of_load load.Signed8To64 = 0
align_of_load load.Unsigned8To64 = 0
align_of_load load.Signed16To64 = 1
align_of_load load.Unsigned16To64 = 1
align_of_load load.Signed32To64 = 2
align_of_load load.Unsigned32To64 = 2

abbrev pub align_of_store : Store → ℕ
align_of_store store.Full32 = 2
align_of_store store.Full64 = 3
align_of_store store.Low8Of32 = 0
align_of_store store.Low16Of32 = 1
align_of_store store.Low8Of64 = 0
align_of_store store.Low16Of64 = 1
align_of_store store.Low32Of64 = 2
