-- WebAssembly Core 1.0, "Binary Format", "Modules": sections in order, each filled, with custom sections anywhere
-- between them.
use Rattle.std.specs.Prelude.{ℕ, zero, suc, List, [], ◌∷◌, length, Option, Some, None, Result, Ok, Err, nat_lt, ◌==◌}
use Rattle.std.specs.Prelude.{if◌then◌else◌}
use Rattle.std.specs.Str.{bytes_eq}
use Rattle.nr_bytes.specs.Fields.{mapped, pair, items_at}
use Rattle.nr_bytes.specs.Reading.{Input, past, ◌>>=◌}
use Rattle.nr_wasmtypes.specs.declared.instr.ValType.{ValType}
use Rattle.nr_wasmtypes.specs.declared.module.FuncType.{FuncType}
use Rattle.nr_wasmtypes.specs.declared.module.Import.{Import}
use Rattle.nr_wasmtypes.specs.declared.module.Limits.{Limits}
use Rattle.nr_wasmtypes.specs.declared.module.Global.{Global}
use Rattle.nr_wasmtypes.specs.declared.module.Export.{Export}
use Rattle.nr_wasmtypes.specs.declared.module.Element.{Element}
use Rattle.nr_wasmtypes.specs.declared.module.Module.{Module}
use Rattle.nr_wasmtypes.specs.Body.{Body}
use Rattle.nr_wasmtypes.specs.Code.{Code}
use Rattle.nr_wasmbin.specs.Fields.{Read, begins, u32_at, count_at, list_at, name_at, taken, sized_at, whole}
use Rattle.nr_wasmbin.specs.Parts.{func_type_at, import_at, table_at, limits_at, global_at, export_at, element_at}
use Rattle.nr_wasmbin.specs.Parts.{segment_at, locals_at}
use Rattle.nr_wasmbin.specs.Expressions.{expression_at}
use Rattle.nr_wasmbin.specs.declared.module.Front.{Front}
use Rattle.nr_wasmbin.specs.declared.module.Middle.{Middle}
use Rattle.nr_wasmbin.specs.declared.module.Back.{Back}
use Rattle.nr_wasmbin.specs.declared.fault.DecodeFault.{DecodeFault}
use Rattle.nr_wasmbin.specs.declared.fault.DecodeFault.TheVariants as fault

-- four bytes that must be these
abbrev pub word_of : List ℕ → ℕ → List ℕ × Input → Read (Unit {0})
word_of word at bytes = if bytes_eq word bytes.0 then Ok (tt, bytes.1) else Err (fault.Section at)

abbrev pub word_at : List ℕ → Input → Read (Unit {0})
word_at word s = taken s.at (4, s) >>= word_of word s.at

abbrev pub magic : List ℕ
magic = 0x00 ∷ 0x61 ∷ 0x73 ∷ 0x6d ∷ []

abbrev pub version : List ℕ
version = 0x01 ∷ 0x00 ∷ 0x00 ∷ 0x00 ∷ []

-- a body: locals and an expression, which fill their size
abbrev pub body_of : List ValType × Code → Body
body_of b = record { locals = b.0; code = b.1 }

abbrev pub inner_body_at : Input → Read Body
inner_body_at = mapped body_of (pair locals_at expression_at)

unfoldable pub body_at : Input → Read Body
body_at s = do
  inner ← sized_at s
  body ← whole inner_body_at inner.0
  Ok (body, inner.1)

-- a custom section: its name, and bytes that are passed over
unfoldable pub custom_at : Input → Result Input DecodeFault
custom_at s = do
  inner ← sized_at (past 1 s)
  name ← name_at inner.0
  Ok inner.1

-- the custom sections that stand next; each has a byte, so as many turns as bytes are enough
unfoldable pub customs_at : ℕ → Input → Result Input DecodeFault
customs_at zero s = Ok s
customs_at (suc turns) s = if begins 0 s.left then (custom_at s >>= customs_at turns) else Ok s

abbrev pub skipped : Input → Result Input DecodeFault
skipped s = customs_at (length s.left) s

-- the contents of a section, where it stands behind the custom ones
unfoldable pub entered : ℕ → Input → Read (Option Input)
entered id s = do
  t ← skipped s
  if begins id t.left then mapped Some sized_at (past 1 t) else Ok (None, t)

-- what a section holds, and nothing where it doesn't stand
abbrev pub held : {X : Type 0} → (Input → Read (List X)) → Option Input → Result (List X) DecodeFault
held item None = Ok []
held item (Some inner) = whole item inner

unfoldable pub section_at : {X : Type 0} → ℕ → (Input → Read (List X)) → Input → Read (List X)
section_at id item s = do
  inner ← entered id s
  xs ← held item inner.0
  Ok (xs, inner.1)

-- as many bodies as there are functions; another number is a fault at the section's contents
abbrev pub counted_of : ℕ → ℕ → ℕ × Input → Read ℕ
counted_of functions at n = if n.0 == functions then Ok n else Err (fault.Section at)

unfoldable pub bodies_at : ℕ → Input → Read (List Body)
bodies_at functions s = do
  n ← count_at s
  m ← counted_of functions s.at n
  items_at body_at m.0 m.1

-- The end. Functions without a code section are a fault there.
abbrev pub ended : ℕ → ℕ → Input → Result (Unit {0}) DecodeFault
ended functions bodies s =
    if nat_lt 0 (length s.left) then Err (fault.Section s.at)
    else (if bodies == functions then Ok tt else Err (fault.Section s.at))

-- the sections up to that of functions
abbrev pub front_of : List FuncType × (List Import × List ℕ) → Front
front_of f = record { types = f.0; imports = f.1.0; funcs = f.1.1 }

unfoldable pub front_at : Input → Read Front
front_at =
    mapped front_of (pair (section_at 1 (list_at func_type_at))
    (pair (section_at 2 (list_at import_at)) (section_at 3 (list_at u32_at))))

-- those from there to the code
abbrev pub middle_of : List Limits × (List Limits × (List Global × (List Export × List Element))) → Middle
middle_of m = record { tables = m.0; memories = m.1.0; globals = m.1.1.0; exports = m.1.1.1.0; elements = m.1.1.1.1 }

unfoldable pub middle_at : Input → Read Middle
middle_at =
    mapped middle_of
    (pair (section_at 4 (list_at table_at)) (pair (section_at 5 (list_at limits_at))
    (pair (section_at 6 (list_at global_at))
    (pair (section_at 7 (list_at export_at)) (section_at 9 (list_at element_at))))))

-- the code and the data, and the end
unfoldable pub back_at : ℕ → Input → Result Back DecodeFault
back_at functions s = do
  bodies ← section_at 10 (bodies_at functions) s
  segments ← section_at 11 (list_at segment_at) bodies.1
  rest ← skipped segments.1
  end ← ended functions (length bodies.0) rest
  Ok (record { bodies = bodies.0; segments = segments.0 })

abbrev pub module_of : Front → Middle → Back → Module
module_of f m b = record {
  types = f.types;
  imports = f.imports;
  funcs = f.funcs;
  tables = m.tables;
  memories = m.memories;
  globals = m.globals;
  exports = m.exports;
  elements = m.elements;
  bodies = b.bodies;
  segments = b.segments;
}

unfoldable pub module_at : Input → Result Module DecodeFault
module_at s = do
  one ← word_at magic s
  two ← word_at version one.1
  front ← front_at two.1
  middle ← middle_at front.1
  back ← back_at (length front.0.funcs) middle.1
  Ok (module_of front.0 middle.0 back)

-- the module that the bytes are, which are at most so many, or the first fault
unfoldable pub decoded : ℕ → List ℕ → Result Module DecodeFault
decoded most bytes =
    if nat_lt most (length bytes) then Err (fault.TooMany 0) else module_at (record { left = bytes; at = 0 })
