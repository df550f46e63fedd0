-- WebAssembly Core 1.0, "Text Format", "Types" and "Modules": the text of a module, a field in each line, in the order
-- of the sections. Comments have the numbers of fields. The types of imports that no contract has aren't kept in a
-- module: a comment stands in their place.
use Rattle.std.specs.Prelude.{ℕ, ◌+◌, ◌==◌, Bool, true, false, cond, List, [], ◌∷◌, ◌++◌, length, take, count_by}
use Rattle.std.specs.Prelude.{Option, Some, None, slice_get, codes, decimal}
use Rattle.std.specs.List.{flat_map}
use Rattle.nr_wasmtypes.specs.Body.{Body}
use Rattle.nr_wasmtypes.specs.declared.instr.ValType.{ValType}
use Rattle.nr_wasmtypes.specs.declared.module.ConstExpr.{ConstExpr}
use Rattle.nr_wasmtypes.specs.declared.module.ConstExpr.TheVariants as const
use Rattle.nr_wasmtypes.specs.declared.module.Element.{Element}
use Rattle.nr_wasmtypes.specs.declared.module.Export.{Export}
use Rattle.nr_wasmtypes.specs.declared.module.ExportKind.{ExportKind}
use Rattle.nr_wasmtypes.specs.declared.module.ExportKind.TheVariants as exported
use Rattle.nr_wasmtypes.specs.declared.module.FuncType.{FuncType}
use Rattle.nr_wasmtypes.specs.declared.module.Global.{Global}
use Rattle.nr_wasmtypes.specs.declared.module.Import.{Import}
use Rattle.nr_wasmtypes.specs.declared.module.ImportKind.{ImportKind}
use Rattle.nr_wasmtypes.specs.declared.module.ImportKind.TheVariants as imported
use Rattle.nr_wasmtypes.specs.declared.module.Limits.{Limits}
use Rattle.nr_wasmtypes.specs.declared.module.Module.{Module}
use Rattle.nr_wasmtypes.specs.declared.module.Segment.{Segment}
use Rattle.nr_wasmtypes.specs.declared.opcode.Op.TheVariants as op
use Rattle.nr_wat.specs.Names.{name_of, type_name}
use Rattle.nr_wat.specs.Pieces.{numbered, numbers_text, signed_text, spaced, string_text, type_use}
use Rattle.nr_wat.specs.Instructions.{code_text, line, result_text}

-- a field begins with its word and its number
abbrev pub head : List ℕ → ℕ → List ℕ
head word number = line (codes "  ") (codes "(" ++ word ++ codes " (;" ++ decimal number ++ codes ";)")

-- ---- types
abbrev pub type_word : ValType → List ℕ
type_word t = codes " " ++ type_name t

-- no list where there is no type
abbrev pub types_text : List ℕ → List ValType → List ℕ
types_text front ts = cond (length ts == 0) [] (front ++ flat_map type_word ts ++ codes ")")

abbrev pub sig_text : FuncType → List ℕ
sig_text f = types_text (codes " (param") f.params ++ result_text f.result

unfoldable pub type_field : ℕ → FuncType → List ℕ
type_field number f = head (codes "type") number ++ codes " (func" ++ sig_text f ++ codes "))"

-- ---- imports
abbrev pub is_function : ImportKind → Bool
is_function (imported.Func t) = true
is_function imported.Table = false
is_function imported.Memory = false
is_function imported.Global = false

-- how many functions these import
abbrev pub functions_in : List Import → ℕ
functions_in imports = count_by (λ (i : Import). is_function i.kind) imports

-- behind so many functions
abbrev pub import_kind_text : ℕ → ImportKind → List ℕ
import_kind_text before (imported.Func t) =
    codes "(func (;" ++ decimal before ++ codes ";) (type " ++ decimal t ++ codes "))"
import_kind_text before imported.Table = codes "(table (;its type isn't kept;))"
import_kind_text before imported.Memory = codes "(memory (;its type isn't kept;))"
import_kind_text before imported.Global = codes "(global (;its type isn't kept;))"

unfoldable pub import_text : ℕ → Import → List ℕ
import_text before i =
    line (codes "  ") (codes "(import ") ++ string_text i.module ++ codes " " ++ string_text i.name
    ++ codes " " ++ import_kind_text before i.kind ++ codes ")"

abbrev pub import_field : List Import → ℕ → Import → List ℕ
import_field imports number i = import_text (functions_in (take number imports)) i

-- ---- functions
abbrev pub listed_sig : Option FuncType → List ℕ
listed_sig None = []
listed_sig (Some f) = sig_text f

-- a type by its number, and what it is
abbrev pub named_text : List FuncType → ℕ → List ℕ
named_text types t = type_use t ++ listed_sig (slice_get types t)

abbrev pub use_text : List FuncType → Option ℕ → List ℕ
use_text types None = []
use_text types (Some t) = named_text types t

unfoldable pub body_text : Body → List ℕ
body_text b =
    types_text (line (codes "    ") (codes "(local")) b.locals ++ code_text (codes "    ") b.code ++ codes ")"

-- imported functions have the first numbers
unfoldable pub func_field : Module → ℕ → Body → List ℕ
func_field m number b =
    head (codes "func") (functions_in m.imports + number) ++ use_text m.types (slice_get m.funcs number) ++ body_text b

-- ---- tables and memories
abbrev pub most_text : Option ℕ → List ℕ
most_text None = []
most_text (Some most) = spaced most

abbrev pub limits_text : Limits → List ℕ
limits_text l = spaced l.least ++ most_text l.most

unfoldable pub limits_field : List ℕ → List ℕ → ℕ → Limits → List ℕ
limits_field word tail number l = head word number ++ limits_text l ++ tail

-- ---- globals
abbrev pub const_text : ConstExpr → List ℕ
const_text (const.I32 n) = name_of op.Const32 ++ codes " " ++ signed_text 2147483648 n
const_text (const.I64 n) = name_of op.Const64 ++ codes " " ++ signed_text 9223372036854775808 n
const_text (const.Get x) = name_of op.GlobalGet ++ spaced x

abbrev pub global_type : Bool → ValType → List ℕ
global_type false t = type_name t
global_type true t = codes "(mut " ++ type_name t ++ codes ")"

unfoldable pub global_field : ℕ → Global → List ℕ
global_field number g =
    head (codes "global") number ++ codes " " ++ global_type g.mutable g.kind ++ codes " (" ++ const_text g.init
    ++ codes "))"

-- ---- exports
abbrev pub export_word : ExportKind → List ℕ
export_word exported.Func = codes "func"
export_word exported.Table = codes "table"
export_word exported.Memory = codes "memory"
export_word exported.Global = codes "global"

unfoldable pub export_field : Export → List ℕ
export_field e =
    line (codes "  ") (codes "(export ") ++ string_text e.name ++ codes " (" ++ export_word e.kind ++ spaced e.index
    ++ codes "))"

-- ---- elements and data: the number of the table or the memory stands where it isn't 0
abbrev pub index_text : ℕ → List ℕ
index_text index = cond (index == 0) [] (spaced index)

abbrev pub where_text : ℕ → ConstExpr → List ℕ
where_text index offset = index_text index ++ codes " (" ++ const_text offset ++ codes ")"

unfoldable pub element_field : ℕ → Element → List ℕ
element_field number e =
    head (codes "elem") number ++ where_text e.table e.offset ++ numbers_text e.funcs ++ codes ")"

abbrev pub data_text : List ℕ → List ℕ
data_text bytes = codes " " ++ string_text bytes ++ codes ")"

unfoldable pub segment_field : ℕ → Segment → List ℕ
segment_field number d =
    head (codes "data") number ++ where_text d.memory d.offset ++ data_text d.bytes

-- ---- modules
unfoldable pub function_fields : Module → List ℕ
function_fields m =
    numbered type_field m.types ++ numbered (import_field m.imports) m.imports ++ numbered (func_field m) m.bodies

-- what functions work on
unfoldable pub storage_fields : Module → List ℕ
storage_fields m =
    numbered (limits_field (codes "table") (codes " funcref)")) m.tables
    ++ numbered (limits_field (codes "memory") (codes ")")) m.memories ++ numbered global_field m.globals

-- what is offered and what is filled in
unfoldable pub last_fields : Module → List ℕ
last_fields m =
    flat_map export_field m.exports ++ numbered element_field m.elements ++ numbered segment_field m.segments

unfoldable pub module_text : Module → List ℕ
module_text m =
    codes "(module" ++ function_fields m ++ storage_fields m ++ last_fields m ++ codes ")" ++ 10 ∷ []
