-- The lines that tell of a module: what it imports and whether
-- the host has it, what it exports, the sizes of its tables
-- and memories, and its own. Imports and exports by WebAssembly Core 1.0, "Modules"; the host's functions after the
-- Nomicon, "Bindings Spec"; names with escapes as in WebAssembly's text format; the lines are this project's own.
use Rattle.std.specs.Prelude.{ℕ, ◌-◌, ◌==◌, ◌&&◌, Bool, false, cond, not, nat_le, nat_eq, List, [], ◌∷◌, ◌++◌}
use Rattle.std.specs.Prelude.{length, count_by}
use Rattle.std.specs.Prelude.{Option, Some, None, is_some, option_and_then, slice_get, codes, decimal}
use Rattle.std.specs.List.{flat_map}
use Rattle.std.specs.Str.{bytes_eq}
use Rattle.hex.specs.Hex.{encode_lower}
use Rattle.nr_wasmtypes.specs.Host.{host_named}
use Rattle.nr_wasmtypes.specs.declared.host.HostFn.{HostFn}
use Rattle.nr_wasmtypes.specs.declared.module.Export.{Export}
use Rattle.nr_wasmtypes.specs.declared.module.ExportKind.{ExportKind}
use Rattle.nr_wasmtypes.specs.declared.module.ExportKind.TheVariants as exported
use Rattle.nr_wasmtypes.specs.declared.module.FuncType.{FuncType}
use Rattle.nr_wasmtypes.specs.declared.module.Import.{Import}
use Rattle.nr_wasmtypes.specs.declared.module.ImportKind.{ImportKind}
use Rattle.nr_wasmtypes.specs.declared.module.ImportKind.TheVariants as imported
use Rattle.nr_wasmtypes.specs.declared.module.Limits.{Limits}
use Rattle.nr_wasmtypes.specs.declared.module.Module.{Module}
use Rattle.nr_wasmvalid.specs.Parts.{has_sig}
pub use Rattle.nr_wat.specs.Fields.{is_function}
use Rattle.nr_module.specs.declared.offer.Offer.{Offer}
use Rattle.nr_module.specs.declared.offer.Offer.TheVariants as offer

-- ---- names
-- a visible character of ASCII but a quote and a backslash
abbrev pub is_plain : ℕ → Bool
is_plain b = nat_le 33 b && (nat_le b 126 && (not (b == 34) && not (b == 92)))

-- each other byte is a backslash and two digits of base 16
abbrev pub name_byte : ℕ → List ℕ
name_byte b = cond (is_plain b) (b ∷ []) (92 ∷ encode_lower (b ∷ []))

abbrev pub name_word : List ℕ → List ℕ
name_word name = flat_map name_byte name

-- ---- imports
-- whether the host has a function of this type, where it has one of the name
abbrev pub by_name : Option HostFn → Option FuncType → Offer
by_name None sig = offer.Name
by_name (Some function) sig = cond (has_sig (Some function) sig) offer.Good offer.Type

-- functions of `env` alone are imported
abbrev pub offer_of : List FuncType → Import → ImportKind → Offer
offer_of types i (imported.Func t) =
    cond (bytes_eq i.module (codes "env")) (by_name (host_named i.name) (slice_get types t)) offer.Module
offer_of types i imported.Table = offer.Kind
offer_of types i imported.Memory = offer.Kind
offer_of types i imported.Global = offer.Kind

abbrev pub offer_word : Offer → List ℕ
offer_word offer.Good = codes "ok"
offer_word offer.Kind = codes "kind"
offer_word offer.Module = codes "module"
offer_word offer.Name = codes "name"
offer_word offer.Type = codes "type"

unfoldable pub import_line : List FuncType → Import → List ℕ
import_line types i =
    codes "import" ++ 32 ∷ name_word i.module ++ 32 ∷ name_word i.name ++ 32 ∷ offer_word (offer_of types i i.kind)
    ++ 10 ∷ []

-- ---- exports
-- nothing is taken and nothing left
abbrev pub is_bare : Option FuncType → Bool
is_bare None = false
is_bare (Some sig) = nat_eq (length sig.params) 0 && not (is_some sig.result)

-- how many functions are imported: they have the first numbers
abbrev pub imported_count : Module → ℕ
imported_count m = count_by (λ (i : Import). is_function i.kind) m.imports

-- a method is a function of the module's own that takes and leaves nothing
abbrev pub is_method : Module → ℕ → Bool
is_method m k =
    nat_le (imported_count m) k
    && is_bare (option_and_then (λ t. slice_get m.types t) (slice_get m.funcs (k - imported_count m)))

abbrev pub export_word : Module → ExportKind → ℕ → List ℕ
export_word m exported.Func k = cond (is_method m k) (codes "method") (codes "function")
export_word m exported.Table k = codes "table"
export_word m exported.Memory k = codes "memory"
export_word m exported.Global k = codes "global"

unfoldable pub export_line : Module → Export → List ℕ
export_line m e = codes "export" ++ 32 ∷ export_word m e.kind e.index ++ 32 ∷ name_word e.name ++ 10 ∷ []

-- ---- sizes
abbrev pub most_word : Option ℕ → List ℕ
most_word None = codes "none"
most_word (Some most) = decimal most

-- the least and the greatest, of a table in entries and of a memory in pages
unfoldable pub limits_line : List ℕ → Limits → List ℕ
limits_line word l = word ++ 32 ∷ decimal l.least ++ 32 ∷ most_word l.most ++ 10 ∷ []

-- in bytes
abbrev pub size_line : ℕ → List ℕ
size_line size = codes "size" ++ 32 ∷ decimal size ++ 10 ∷ []

-- ---- all of a module, whose file has so many bytes
unfoldable pub module_text : ℕ → Module → List ℕ
module_text size m =
    flat_map (import_line m.types) m.imports ++ flat_map (export_line m) m.exports
    ++ flat_map (limits_line (codes "table")) m.tables ++ flat_map (limits_line (codes "memory")) m.memories
    ++ size_line size
