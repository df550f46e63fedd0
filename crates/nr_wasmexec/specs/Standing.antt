-- Of this project's own: where a run of valid code stands, so that a rule always fits.
use Rattle.std.specs.Prelude.{◌≡◌, ℕ, List, [], ◌∷◌, ◌++◌, length, Some, slice_get, ◌⊎◌}
use Rattle.nr_wasmtypes.specs.declared.instr.ValType.{ValType}
use Rattle.nr_wasmtypes.specs.declared.module.Module.{Module}
use Rattle.nr_wasmtypes.specs.Code.{End}
use Rattle.nr_wasmtypes.specs.Host.{host_type}
use Rattle.nr_wasmvalid.specs.Rules.{types, Context}
use Rattle.nr_wasmvalid.specs.Parts.{func_indices}
use Rattle.nr_wasmvalid.specs.Modules.{func_context}
use Rattle.nr_wasmvalid.specs.Typing.{IsTyped}
use Rattle.nr_wasmvalid.specs.Running.{Open, GoesOn}
use Rattle.nr_wasmmem.specs.declared.guest.Guest.{Guest}
use Rattle.nr_wasmexec.specs.declared.program.Program.{Program}
use Rattle.nr_wasmexec.specs.Functions.{Func, Hosted, Coded, sig_of, func_at}
use Rattle.nr_wasmexec.specs.Place as place
use Rattle.nr_wasmexec.specs.Place.{Place, InLabel, InFrame}

-- a function has the type that it states
abbrev pub FuncFits : Module → Func → Type 0
FuncFits m (Hosted sig name) = sig ≡ host_type name
FuncFits m (Coded sig body) = IsTyped (func_context m sig body) body.code

-- each function that has a number is there, of the type of that number, and fits it
pub record IsSound (p : Program) : Type 0 where
  pub there : (f t : ℕ) → slice_get (func_indices p.code) f ≡ Some t → (func : Func) × (func_at p f ≡ Some func)
      × (slice_get p.code.types t ≡ Some (sig_of func))
  pub fits : (f : ℕ) (func : Func) → func_at p f ≡ Some func → FuncFits p.code func

-- the globals of the module, and a table of functions that are there
pub record IsGuest (p : Program) (g : Guest) : Type 0 where
  pub globals : length g.globals ≡ length p.code.globals
  pub table : (k f : ℕ) → slice_get g.table k ≡ Some (Some f) → (t : ℕ) × (slice_get (func_indices p.code) f ≡ Some t)

-- what a body of a module stands in
pub record IsBody (p : Program) (c : Context) : Type 0 where
  pub sigs : c.types ≡ p.code.types
  pub funcs : c.funcs ≡ func_indices p.code
  pub globals : c.globals ≡ p.code.globals
  pub labels : c.labels ≡ []

-- The open blocks are the labels round a place of this frame, and the frame round it goes on when this one is left.
abbrev pub Round : Program → Context → List Open → List ℕ → List place.Context → Type 0
Round p c bs own [] = ⊥
Round p c [] own (InLabel values n target code ∷ around) = ⊥
Round p c (b ∷ bs) own (InLabel values n target code ∷ around) =
    (n ≡ length (types b.label)) × (target ≡ b.target) × (code ≡ b.after) × (length values ≡ length b.below)
    × Round p c bs own around
Round p c (b ∷ bs) own (InFrame values n outer code ∷ around) = ⊥
Round p c [] own (InFrame values n outer code ∷ around) =
    (n ≡ length (types c.result)) × (length own ≡ length c.locals)
    × (((around ≡ []) × (code ≡ End))
    ⊎ ((d : Context) × (bs : List Open) × (ts : List ValType) × IsBody p d × (length values ≡ length ts)
    × GoesOn d bs code (types c.result ++ ts) × Round p d bs outer around))

-- Where a run of valid code stands: at its end, or where the code goes on with as many operands as there are.
abbrev pub Stands : Program → Place → Type 0
Stands p at =
    ((at.contexts ≡ []) × (at.code ≡ End))
    ⊎ ((c : Context) × (bs : List Open) × (ts : List ValType) × IsBody p c × (length at.values ≡ length ts)
    × GoesOn c bs at.code ts × Round p c bs at.locals at.contexts)
