-- WebAssembly Core 1.0, "Validation", "Modules": what the parts of a module ask, apart from its functions' bodies, in
-- the order in which a breach is looked for. The host's functions after the Nomicon, "Bindings Spec".
use Rattle.std.specs.Prelude.{ℕ, ◌+◌, ◌-◌, ◌^◌, min, List, [], ◌∷◌, ◌++◌, length, take, Option, Some, None, is_some}
use Rattle.std.specs.Prelude.{slice_get, nat_le, nat_eq, Bool, true, false, not, ◌&&◌, Result, Ok, Err, if◌then◌else◌}
use Rattle.std.specs.Prelude.{codes}
use Rattle.std.specs.List.{list_all, list_any, filter_map}
use Rattle.std.specs.Str.{bytes_eq}
use Rattle.std.specs.Cmp.Lexicographic.{pointwise}
use Rattle.nr_bytes.specs.Reading.{◌>>=◌}
use Rattle.nr_wasmtypes.specs.declared.instr.ValType.{ValType}
use Rattle.nr_wasmtypes.specs.declared.instr.ValType.TheVariants.{I32, I64}
use Rattle.nr_wasmtypes.specs.declared.module.FuncType.{FuncType}
use Rattle.nr_wasmtypes.specs.declared.module.Import.{Import}
use Rattle.nr_wasmtypes.specs.declared.module.ImportKind.{ImportKind}
use Rattle.nr_wasmtypes.specs.declared.module.ImportKind.TheVariants as imported
use Rattle.nr_wasmtypes.specs.declared.module.Limits.{Limits}
use Rattle.nr_wasmtypes.specs.declared.module.ConstExpr.{ConstExpr}
use Rattle.nr_wasmtypes.specs.declared.module.ConstExpr.TheVariants as constant
use Rattle.nr_wasmtypes.specs.declared.module.Global.{Global}
use Rattle.nr_wasmtypes.specs.declared.module.Export.{Export}
use Rattle.nr_wasmtypes.specs.declared.module.ExportKind.{ExportKind}
use Rattle.nr_wasmtypes.specs.declared.module.ExportKind.TheVariants as exported
use Rattle.nr_wasmtypes.specs.declared.module.Element.{Element}
use Rattle.nr_wasmtypes.specs.declared.module.Segment.{Segment}
use Rattle.nr_wasmtypes.specs.declared.module.Module.{Module}
use Rattle.nr_wasmtypes.specs.declared.host.HostFn.{HostFn}
use Rattle.nr_wasmtypes.specs.Host.{host_named, host_type}
use Rattle.nr_wasmvalid.specs.Rules.{same_type, same_types}
use Rattle.nr_wasmvalid.specs.declared.fault.ValidFault.{ValidFault}
use Rattle.nr_wasmvalid.specs.declared.fault.ValidFault.TheVariants as fault

-- what must hold, and what is answered where it doesn't
pub record Demand : Type 0 where
  pub holds : Bool
  pub otherwise : ValidFault

-- the number that stands for no function
abbrev pub outside : ℕ
outside = 2 ^ 32 - 1

-- demands of the n-th entry of a list
abbrev pub fits : ℕ → Bool → Demand
fits n holds = record { holds = holds; otherwise = fault.Types outside n }

abbrev pub exists : ℕ → Bool → Demand
exists n holds = record { holds = holds; otherwise = fault.Index outside n }

abbrev pub within_limits : ℕ → Bool → Demand
within_limits n holds = record { holds = holds; otherwise = fault.Limit outside n }

abbrev pub is_offered : ℕ → Bool → Demand
is_offered n holds = record { holds = holds; otherwise = fault.Import outside n }

-- nothing, or the first demand that isn't met
abbrev pub outcome : List Demand → Result (Unit {0}) ValidFault
outcome [] = Ok tt
outcome (d ∷ ds) = if d.holds then outcome ds else Err d.otherwise

-- the demands of a list's entries, the first of which is the n-th
abbrev pub each : {X : Type 0} → (ℕ → X → List Demand) → ℕ → List X → List Demand
each asks n [] = []
each asks n (x ∷ xs) = asks n x ++ each asks (n + 1) xs

-- ---- imports: functions of the host alone
abbrev pub same_sig : FuncType → FuncType → Bool
same_sig s t = pointwise same_type s.params t.params && same_types s.result t.result

abbrev pub has_sig : Option HostFn → Option FuncType → Bool
has_sig None s = false
has_sig (Some f) None = false
has_sig (Some f) (Some s) = same_sig s (host_type f)

abbrev pub import_kind : List FuncType → ℕ → Import → ImportKind → List Demand
import_kind types n i (imported.Func t) =
    exists n (is_some (slice_get types t))
    ∷ is_offered n (bytes_eq i.module (codes "env") && has_sig (host_named i.name) (slice_get types t)) ∷ []
import_kind types n i imported.Table = is_offered n false ∷ []
import_kind types n i imported.Memory = is_offered n false ∷ []
import_kind types n i imported.Global = is_offered n false ∷ []

abbrev pub import_asks : List FuncType → ℕ → Import → List Demand
import_asks types n i = import_kind types n i i.kind

-- ---- functions
abbrev pub func_asks : List FuncType → ℕ → ℕ → List Demand
func_asks types n t = exists n (is_some (slice_get types t)) ∷ []

-- ---- tables and memories: one of each, with the greatest size not below the least
abbrev pub at_most : ℕ → Option ℕ → Bool
at_most n None = true
at_most n (Some most) = nat_le n most

abbrev pub up_to : Option ℕ → ℕ → Bool
up_to None n = true
up_to (Some most) n = nat_le most n

abbrev pub table_asks : ℕ → Limits → List Demand
table_asks n l = within_limits n (nat_eq n 0 && at_most l.least l.most && nat_le l.least 100000) ∷ []

abbrev pub memory_asks : ℕ → ℕ → Limits → List Demand
memory_asks pages n l =
    within_limits n (nat_eq n 0 && at_most l.least l.most && nat_le l.least pages && up_to l.most 65536) ∷ []

-- ---- globals: the standard lets imported globals alone stand in a first value, and there are none
abbrev pub init_asks : ℕ → ValType → ConstExpr → List Demand
init_asks n t (constant.I32 x) = fits n (same_type t I32) ∷ []
init_asks n t (constant.I64 x) = fits n (same_type t I64) ∷ []
init_asks n t (constant.Get g) = exists n false ∷ []

abbrev pub global_asks : ℕ → Global → List Demand
global_asks n g = init_asks n g.kind g.init

-- ---- exports
abbrev pub imported_type : ImportKind → Option ℕ
imported_type (imported.Func t) = Some t
imported_type imported.Table = None
imported_type imported.Memory = None
imported_type imported.Global = None

abbrev pub imported_types : List Import → List ℕ
imported_types is = filter_map (λ i. imported_type i.kind) is

-- the number of each function's type, imported functions first
abbrev pub func_indices : Module → List ℕ
func_indices m = imported_types m.imports ++ m.funcs

abbrev pub is_there : Module → List ℕ → ExportKind → ℕ → Bool
is_there m funcs exported.Func k = is_some (slice_get funcs k)
is_there m funcs exported.Table k = is_some (slice_get m.tables k)
is_there m funcs exported.Memory k = is_some (slice_get m.memories k)
is_there m funcs exported.Global k = is_some (slice_get m.globals k)

abbrev pub has_name : List ℕ → Export → Bool
has_name name e = bytes_eq name e.name

-- no export before has the name
abbrev pub export_asks : Module → List ℕ → ℕ → Export → List Demand
export_asks m funcs n e =
    exists n (is_there m funcs e.kind e.index) ∷ exists n (not (list_any (has_name e.name) (take n m.exports))) ∷ []

-- ---- elements and data: an offset is a number of the type i32, or a constant global of that type
abbrev pub constant_i32 : Global → Bool
constant_i32 g = same_type g.kind I32 && not g.mutable

abbrev pub offset_global : ℕ → Option Global → List Demand
offset_global n None = exists n false ∷ []
offset_global n (Some g) = fits n (constant_i32 g) ∷ []

abbrev pub offset_asks : List Global → ℕ → ConstExpr → List Demand
offset_asks gs n (constant.I32 x) = []
offset_asks gs n (constant.I64 x) = fits n false ∷ []
offset_asks gs n (constant.Get g) = offset_global n (slice_get gs g)

abbrev pub element_asks : Module → List ℕ → ℕ → Element → List Demand
element_asks m funcs n e =
    offset_asks m.globals n e.offset
    ++ (exists n (is_some (slice_get m.tables e.table))
    ∷ exists n (list_all (λ f. is_some (slice_get funcs f)) e.funcs) ∷ [])

abbrev pub segment_asks : Module → ℕ → Segment → List Demand
segment_asks m n s = offset_asks m.globals n s.offset ++ (exists n (is_some (slice_get m.memories s.memory)) ∷ [])

-- ---- each function has a body, and each body a function
abbrev pub count_asks : Module → List Demand
count_asks m = exists (min (length m.funcs) (length m.bodies)) (nat_eq (length m.funcs) (length m.bodies)) ∷ []

-- all parts, for a memory of at most so many pages at the start
abbrev pub parts : ℕ → Module → List (List Demand)
parts pages m =
    each (import_asks m.types) 0 m.imports
    ∷ each (func_asks m.types) 0 m.funcs
    ∷ each table_asks 0 m.tables
    ∷ each (memory_asks pages) 0 m.memories
    ∷ each global_asks 0 m.globals
    ∷ each (export_asks m (func_indices m)) 0 m.exports
    ∷ each (element_asks m (func_indices m)) 0 m.elements
    ∷ each (segment_asks m) 0 m.segments
    ∷ count_asks m
    ∷ []

abbrev pub outcomes : List (List Demand) → Result (Unit {0}) ValidFault
outcomes [] = Ok tt
outcomes (ds ∷ others) = outcome ds >>= λ x. outcomes others

unfoldable pub parts_outcome : ℕ → Module → Result (Unit {0}) ValidFault
parts_outcome pages m = outcomes (parts pages m)
