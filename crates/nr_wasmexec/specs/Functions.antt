-- WebAssembly Core 1.0, "Function Instances": the functions of a program by number, those of the host first.
use Rattle.std.specs.Prelude.{ℕ, ◌-◌, nat_lt, if◌then◌else◌, List, length, Option, Some, None, option_and_then}
use Rattle.std.specs.Prelude.{slice_get}
use Rattle.std.specs.List.{filter_map}
use Rattle.nr_wasmtypes.specs.declared.host.HostFn.{HostFn}
use Rattle.nr_wasmtypes.specs.declared.module.FuncType.{FuncType}
use Rattle.nr_wasmtypes.specs.declared.module.Import.{Import}
use Rattle.nr_wasmtypes.specs.declared.module.ImportKind.{ImportKind}
use Rattle.nr_wasmtypes.specs.declared.module.ImportKind.TheVariants as imported
use Rattle.nr_wasmtypes.specs.declared.module.Module.{Module}
use Rattle.nr_wasmtypes.specs.Body.{Body}
use Rattle.nr_wasmtypes.specs.Host.{host_named}
use Rattle.nr_wasmexec.specs.declared.program.HostLink.{HostLink}
use Rattle.nr_wasmexec.specs.declared.program.Program.{Program}

-- a function, by its type: the host's, or one with code
pub data Func : Type 0 where
  Hosted : (sig : FuncType) (name : HostFn) → Func
  Coded : (sig : FuncType) (body : Body) → Func

abbrev pub sig_of : Func → FuncType
sig_of (Hosted sig name) = sig
sig_of (Coded sig body) = sig

-- the functions of the host that a module imports
abbrev pub link_as : Option HostFn → ImportKind → Option HostLink
link_as None kind = None
link_as (Some name) (imported.Func t) = Some (record { name = name; kind = t })
link_as (Some name) imported.Table = None
link_as (Some name) imported.Memory = None
link_as (Some name) imported.Global = None

abbrev pub links : List Import → List HostLink
links is = filter_map (λ (i : Import). link_as (host_named i.name) i.kind) is

-- the function of the host with this number
abbrev pub hosted : Option FuncType → HostFn → Option Func
hosted None name = None
hosted (Some sig) name = Some (Hosted sig name)

abbrev pub host_func : List FuncType → Option HostLink → Option Func
host_func types None = None
host_func types (Some link) = hosted (slice_get types link.kind) link.name

-- the module's own function with this number
abbrev pub coded : Option FuncType → Option Body → Option Func
coded None body = None
coded (Some sig) None = None
coded (Some sig) (Some body) = Some (Coded sig body)

abbrev pub own_func : Module → ℕ → Option Func
own_func m k = coded (option_and_then (λ t. slice_get m.types t) (slice_get m.funcs k)) (slice_get m.bodies k)

-- the function with this number
abbrev pub func_at : Program → ℕ → Option Func
func_at p f =
    if nat_lt f (length p.hosts) then host_func p.code.types (slice_get p.hosts f) else own_func p.code
    (f - length p.hosts)
