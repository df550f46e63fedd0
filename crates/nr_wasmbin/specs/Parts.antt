-- WebAssembly Core 1.0, "Binary Format", "Types" and "Modules":
-- the entries of a module's sections, and constant expressions.
use Rattle.std.specs.Prelude.{ℕ, zero, suc, ◌+◌, List, [], ◌++◌, Bool, true, false, Option, Some, None, Ok, Err, nat_le}
use Rattle.std.specs.Prelude.{◌==◌, if◌then◌else◌, replicate}
use Rattle.nr_bytes.specs.Fields.{mapped, pair}
use Rattle.nr_bytes.specs.Reading.{Input, ◌>>=◌}
use Rattle.nr_wasmtypes.specs.declared.instr.ValType.{ValType}
use Rattle.nr_wasmtypes.specs.declared.instr.ValType.TheVariants.{I32, I64}
use Rattle.nr_wasmtypes.specs.declared.module.FuncType.{FuncType}
use Rattle.nr_wasmtypes.specs.declared.module.ImportKind.{ImportKind}
use Rattle.nr_wasmtypes.specs.declared.module.ImportKind.TheVariants as imported
use Rattle.nr_wasmtypes.specs.declared.module.Import.{Import}
use Rattle.nr_wasmtypes.specs.declared.module.Limits.{Limits}
use Rattle.nr_wasmtypes.specs.declared.module.ConstExpr.{ConstExpr}
use Rattle.nr_wasmtypes.specs.declared.module.ConstExpr.TheVariants as const
use Rattle.nr_wasmtypes.specs.declared.module.Global.{Global}
use Rattle.nr_wasmtypes.specs.declared.module.ExportKind.{ExportKind}
use Rattle.nr_wasmtypes.specs.declared.module.ExportKind.TheVariants as exported
use Rattle.nr_wasmtypes.specs.declared.module.Export.{Export}
use Rattle.nr_wasmtypes.specs.declared.module.Element.{Element}
use Rattle.nr_wasmtypes.specs.declared.module.Segment.{Segment}
use Rattle.nr_wasmtypes.specs.declared.opcode.Op.{Op}
use Rattle.nr_wasmtypes.specs.declared.opcode.Op.TheVariants as op
use Rattle.nr_wasmtypes.specs.Opcodes.{op_of}
use Rattle.nr_wasmbin.specs.Fields.{Read, byte_at, u32_at, s32_at, s64_at, count_at, list_at, bytes_at, name_at}
use Rattle.nr_wasmbin.specs.declared.fault.DecodeFault.TheVariants as fault

-- a value type, with the place of its byte
abbrev pub val_type_of : ℕ → ℕ × Input → Read ValType
val_type_of at b =
    if b.0 == 0x7f then Ok (I32, b.1)
    else (if b.0 == 0x7e then Ok (I64, b.1)
    else (if b.0 == 0x7d then Err (fault.Float at)
    else (if b.0 == 0x7c then Err (fault.Float at)
    else Err (fault.Opcode at))))

abbrev pub val_type_at : Input → Read ValType
val_type_at s = byte_at s >>= val_type_of s.at

-- a byte that must be this one
abbrev pub is_byte : ℕ → ℕ → ℕ × Input → Read ℕ
is_byte byte at b = if b.0 == byte then Ok b else Err (fault.Opcode at)

abbrev pub exact_at : ℕ → Input → Read ℕ
exact_at byte s = byte_at s >>= is_byte byte s.at

-- no result or one; more are a fault at their count
abbrev pub result_of : ℕ → ℕ × Input → Read (Option ValType)
result_of at (zero, s) = Ok (None, s)
result_of at (suc zero, s) = mapped Some val_type_at s
result_of at (suc (suc n), s) = Err (fault.TooMany at)

abbrev pub result_at : Input → Read (Option ValType)
result_at s = u32_at s >>= result_of s.at

abbrev pub func_type_of : ℕ × (List ValType × Option ValType) → FuncType
func_type_of f = record { params = f.1.0; result = f.1.1 }

unfoldable pub func_type_at : Input → Read FuncType
func_type_at = mapped func_type_of (pair (exact_at 0x60) (pair (list_at val_type_at) result_at))

-- limits
abbrev pub limits_of : ℕ → ℕ × Input → Read Limits
limits_of at (zero, s) = mapped (λ n. record { least = n; most = None }) u32_at s
limits_of at (suc zero, s) = mapped (λ n. record { least = n.0; most = Some n.1 }) (pair u32_at u32_at) s
limits_of at (suc (suc n), s) = Err (fault.Opcode at)

abbrev pub limits_at : Input → Read Limits
limits_at s = byte_at s >>= limits_of s.at

-- tables hold functions
abbrev pub table_at : Input → Read Limits
table_at = mapped (λ t. t.1) (pair (exact_at 0x70) limits_at)

-- whether a global may be assigned
abbrev pub mutable_of : ℕ → ℕ × Input → Read Bool
mutable_of at (zero, s) = Ok (false, s)
mutable_of at (suc zero, s) = Ok (true, s)
mutable_of at (suc (suc n), s) = Err (fault.Opcode at)

abbrev pub mutable_at : Input → Read Bool
mutable_at s = byte_at s >>= mutable_of s.at

abbrev pub global_type_at : Input → Read (ValType × Bool)
global_type_at = pair val_type_at mutable_at

-- imports
abbrev pub import_kind_of : ℕ → ℕ × Input → Read ImportKind
import_kind_of at b =
    if b.0 == 0x00 then mapped imported.Func u32_at b.1
    else (if b.0 == 0x01 then mapped (λ t. imported.Table) table_at b.1
    else (if b.0 == 0x02 then mapped (λ m. imported.Memory) limits_at b.1
    else (if b.0 == 0x03 then mapped (λ g. imported.Global) global_type_at b.1
    else Err (fault.Opcode at))))

abbrev pub import_kind_at : Input → Read ImportKind
import_kind_at s = byte_at s >>= import_kind_of s.at

abbrev pub import_of : List ℕ × (List ℕ × ImportKind) → Import
import_of i = record { «module» = i.0; name = i.1.0; kind = i.1.1 }

unfoldable pub import_at : Input → Read Import
import_at = mapped import_of (pair name_at (pair name_at import_kind_at))

-- constant expressions: one constant or global, and the end
abbrev pub wrong_op : {X : Type 0} → ℕ → Op → Read X
wrong_op at op.Float = Err (fault.Float at)
wrong_op at o = Err (fault.Opcode at)

abbrev pub constant_of : ℕ → Op → Input → Read ConstExpr
constant_of at op.Const32 s = mapped const.I32 s32_at s
constant_of at op.Const64 s = mapped const.I64 s64_at s
constant_of at op.GlobalGet s = mapped const.Get u32_at s
constant_of at o s = wrong_op at o

abbrev pub constant_at : Input → Read ConstExpr
constant_at s = byte_at s >>= λ b. constant_of s.at (op_of b.0) b.1

abbrev pub end_of : ℕ → Op → Input → Read (Unit {0})
end_of at op.End s = Ok (tt, s)
end_of at o s = wrong_op at o

abbrev pub end_at : Input → Read (Unit {0})
end_at s = byte_at s >>= λ b. end_of s.at (op_of b.0) b.1

abbrev pub const_expr_at : Input → Read ConstExpr
const_expr_at = mapped (λ c. c.0) (pair constant_at end_at)

-- globals
abbrev pub global_of : (ValType × Bool) × ConstExpr → Global
global_of g = record { kind = g.0.0; mutable = g.0.1; init = g.1 }

unfoldable pub global_at : Input → Read Global
global_at = mapped global_of (pair global_type_at const_expr_at)

-- exports
abbrev pub export_kind_of : ℕ → ℕ × Input → Read ExportKind
export_kind_of at b =
    if b.0 == 0x00 then Ok (exported.Func, b.1)
    else (if b.0 == 0x01 then Ok (exported.Table, b.1)
    else (if b.0 == 0x02 then Ok (exported.Memory, b.1)
    else (if b.0 == 0x03 then Ok (exported.Global, b.1)
    else Err (fault.Opcode at))))

abbrev pub export_kind_at : Input → Read ExportKind
export_kind_at s = byte_at s >>= export_kind_of s.at

abbrev pub export_of : List ℕ × (ExportKind × ℕ) → Export
export_of e = record { name = e.0; kind = e.1.0; index = e.1.1 }

unfoldable pub export_at : Input → Read Export
export_at = mapped export_of (pair name_at (pair export_kind_at u32_at))

-- elements and data, each with the number of its table or memory
abbrev pub element_of : ℕ × (ConstExpr × List ℕ) → Element
element_of e = record { table = e.0; offset = e.1.0; funcs = e.1.1 }

unfoldable pub element_at : Input → Read Element
element_at = mapped element_of (pair u32_at (pair const_expr_at (list_at u32_at)))

abbrev pub segment_of : ℕ × (ConstExpr × List ℕ) → Segment
segment_of d = record { memory = d.0; offset = d.1.0; bytes = d.1.1 }

unfoldable pub segment_at : Input → Read Segment
segment_at = mapped segment_of (pair u32_at (pair const_expr_at bytes_at))

-- locals: groups of a count and a type; at most 50,000 in all, or the count that passes them is at fault
abbrev pub within : ℕ → ℕ → ℕ × Input → Read ℕ
within so_far at n = if nat_le (so_far + n.0) 50000 then Ok n else Err (fault.TooMany at)

abbrev pub group_count_at : ℕ → Input → Read ℕ
group_count_at so_far s = u32_at s >>= within so_far s.at

abbrev pub group_at : ℕ → Input → Read (ℕ × ValType)
group_at so_far = pair (group_count_at so_far) val_type_at

unfoldable pub groups_at : ℕ → ℕ → Input → Read (List ValType)
groups_at zero so_far s = Ok ([], s)
groups_at (suc n) so_far s = do
  group ← group_at so_far s
  others ← groups_at n (so_far + group.0.0) group.1
  Ok (replicate group.0.0 group.0.1 ++ others.0, others.1)

unfoldable pub locals_at : Input → Read (List ValType)
locals_at s = do
  n ← count_at s
  groups_at n.0 0 n.1
