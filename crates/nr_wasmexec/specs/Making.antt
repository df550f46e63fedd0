-- WebAssembly Core 1.0, "Instantiation" and "Invocation": the guest of a module before its first run, with its
-- elements and segments, and the functions that may be run by name.
use Rattle.std.specs.Prelude.{◌≡◌, ℕ, ◌+◌, ◌≤◌, nat_le, nat_eq, if◌then◌else◌, Bool, false, not, ◌&&◌, List, [], ◌∷◌}
use Rattle.std.specs.Prelude.{length, map, min, replicate, find, Option, Some, None, is_some, option_and_then, Result}
use Rattle.std.specs.Prelude.{Ok, Err, slice_get, slice_set}
use Rattle.std.specs.Str.{bytes_eq}
use Rattle.nr_config.specs.Config.{Config, regular_op_cost, max_pages, max_call_depth, max_stack_values}
use Rattle.nr_wasmtypes.specs.declared.module.ConstExpr.{ConstExpr}
use Rattle.nr_wasmtypes.specs.declared.module.ConstExpr.TheVariants as constant
use Rattle.nr_wasmtypes.specs.declared.module.Global.{Global}
use Rattle.nr_wasmtypes.specs.declared.module.Limits.{Limits as Sizes}
use Rattle.nr_wasmtypes.specs.declared.module.Element.{Element}
use Rattle.nr_wasmtypes.specs.declared.module.Segment.{Segment}
use Rattle.nr_wasmtypes.specs.declared.module.Export.{Export}
use Rattle.nr_wasmtypes.specs.declared.module.ExportKind.{ExportKind}
use Rattle.nr_wasmtypes.specs.declared.module.ExportKind.TheVariants as exported
use Rattle.nr_wasmtypes.specs.declared.module.Module.{Module}
use Rattle.nr_wasmmem.specs.declared.guest.Guest.{Guest}
use Rattle.nr_wasmmem.specs.Bytes.{MemoryView, zeros, put_over}
use Rattle.nr_wasmexec.specs.declared.program.Program.{Program}
use Rattle.nr_wasmexec.specs.declared.program.Limits.{Limits}
use Rattle.nr_wasmexec.specs.declared.making.MakeFault.{MakeFault}
use Rattle.nr_wasmexec.specs.declared.making.MakeFault.TheVariants as fault
use Rattle.nr_wasmexec.specs.Functions.{Func, Hosted, Coded, links, func_at}
use Rattle.nr_wasmexec.specs.Standing.{IsGuest}

-- the number of a constant expression, over the globals that it may name
abbrev pub or_zero : Option ℕ → ℕ
or_zero None = 0
or_zero (Some v) = v

abbrev pub constant_of : List ℕ → ConstExpr → ℕ
constant_of globals (constant.I32 x) = x
constant_of globals (constant.I64 x) = x
constant_of globals (constant.Get g) = or_zero (slice_get globals g)

-- a first value names no global
abbrev pub globals_of : List Global → List ℕ
globals_of gs = map (λ (g : Global). constant_of [] g.init) gs

-- each of some things put into a place, in order, or none where one doesn't fit
abbrev pub all_into : {X Y : Type 0} → (Y → X → Option Y) → Y → List X → Option Y
all_into into y [] = Some y
all_into into y (x ∷ xs) = option_and_then (λ z. all_into into z xs) (into y x)

-- ---- the table
abbrev pub entries_of : List Sizes → ℕ
entries_of [] = 0
entries_of (first ∷ others) = first.least

-- functions at places in a row
abbrev pub placed : List (Option ℕ) → ℕ → List ℕ → List (Option ℕ)
placed table at [] = table
placed table at (f ∷ fs) = placed (slice_set table at (Some f)) (at + 1) fs

abbrev pub put_funcs : List (Option ℕ) → ℕ → List ℕ → Option (List (Option ℕ))
put_funcs table at funcs = if nat_le (at + length funcs) (length table) then Some (placed table at funcs) else None

abbrev pub element_into : List ℕ → List (Option ℕ) → Element → Option (List (Option ℕ))
element_into globals table e = put_funcs table (constant_of globals e.offset) e.funcs

-- ---- the memory
-- it may grow to the smaller of its own bound and the configuration's
abbrev pub most_of : Option ℕ → ℕ → ℕ
most_of None pages = pages
most_of (Some most) pages = min most pages

abbrev pub memory_of : ℕ → List Sizes → MemoryView
memory_of pages [] = record { bytes = []; most = 0 }
memory_of pages (first ∷ others) = record { bytes = zeros first.least; most = most_of first.most pages }

abbrev pub segment_into : List ℕ → List ℕ → Segment → Option (List ℕ)
segment_into globals bytes s = put_over bytes (constant_of globals s.offset) s.bytes

-- ---- the guest
abbrev pub guest_with : List ℕ → ℕ → Option (List (Option ℕ)) → Option (List ℕ) → Option Guest
guest_with globals most None bytes = None
guest_with globals most (Some table) None = None
guest_with globals most (Some table) (Some bytes) =
    Some (record { memory = record { bytes = bytes; most = most }; globals = globals; table = table })

abbrev pub guest_over : List ℕ → MemoryView → Module → Option Guest
guest_over globals memory m =
    guest_with globals memory.most (all_into (element_into globals) (replicate (entries_of m.tables) None) m.elements)
    (all_into (segment_into globals) memory.bytes m.segments)

-- for a configuration that allows so many pages
abbrev pub first_guest : ℕ → Module → Option Guest
first_guest pages m = guest_over (globals_of m.globals) (memory_of pages m.memories) m

abbrev pub guest_answer : Option Guest → Result Guest MakeFault
guest_answer None = Err fault.Segment
guest_answer (Some guest) = Ok guest

-- the first memory's least size is within its greatest
abbrev pub FitsFirst : ℕ → List Sizes → Type 0
FitsFirst pages [] = Unit {0}
FitsFirst pages (first ∷ others) = first.least ≤ most_of first.most pages

-- ---- the machine
pub record MachineView : Type 0 where
  pub program : Program
  pub limits : Limits
  pub guest : Guest

-- the least cost, and what a program and a guest are to hold so that a run never ends where no rule fits
pub record IsMachine (m : MachineView) : Type 0 where
  pub cost : 1 ≤ m.limits.cost
  pub hosts : m.program.hosts ≡ links m.program.code.imports
  pub guest : IsGuest m.program m.guest

abbrev pub program_of : Module → Program
program_of m = record { code = m; hosts = links m.imports }

abbrev pub limits_of : Config → Limits
limits_of c = record { cost = regular_op_cost c; max_frames = max_call_depth c; max_values = max_stack_values c }

abbrev pub machine_with : Config → Module → Option Guest → Result MachineView MakeFault
machine_with c m None = Err fault.Segment
machine_with c m (Some guest) = Ok (record { program = program_of m; limits = limits_of c; guest = guest })

abbrev pub machine_of : Config → Module → Result MachineView MakeFault
machine_of c m = machine_with c m (first_guest (max_pages c) m)

-- ---- methods
-- it has code, and takes and leaves nothing
abbrev pub is_method : Option Func → Bool
is_method None = false
is_method (Some (Hosted sig name)) = false
is_method (Some (Coded sig body)) = nat_eq (length sig.params) 0 && not (is_some sig.result)

abbrev pub method_as : Program → ExportKind → ℕ → Option ℕ
method_as p exported.Func f = if is_method (func_at p f) then Some f else None
method_as p exported.Table f = None
method_as p exported.Memory f = None
method_as p exported.Global f = None

abbrev pub method_in : Program → Option Export → Option ℕ
method_in p None = None
method_in p (Some e) = method_as p e.kind e.index

-- the function that is exported by this name, where it may be run
abbrev pub method_of : Program → List ℕ → Option ℕ
method_of p name = method_in p (find (λ (e : Export). bytes_eq e.name name) p.code.exports)
