-- WebAssembly Core 1.0, appendix "Soundness": the typing of instruction sequences that run, with what stands on the
-- operands, in locals and in globals.
use Rattle.std.specs.Prelude.{◌≡◌, ℕ, List, [], ◌∷◌, ◌++◌, map, Some, None, slice_get}
use Rattle.nr_wasmexec.specs.Functions.{Coded, func_at}
use Rattle.nr_wasmexec.specs.Reduction.{Config, Frame, Label, Plain, Seq}
use Rattle.nr_wasmexec.specs.declared.program.Program.{Program}
use Rattle.nr_wasmmem.specs.Bytes.{IsMemory}
use Rattle.nr_wasmmem.specs.declared.guest.Guest.{Guest}
use Rattle.nr_wasmnum.specs.Integers.{IsOf}
use Rattle.nr_wasmtypes.specs.Body.{Body}
use Rattle.nr_wasmtypes.specs.Code.{Code, End, Then, Block, Loop, Choice}
use Rattle.nr_wasmtypes.specs.Tables.{arity_of}
use Rattle.nr_wasmtypes.specs.declared.instr.Plain.{Plain as Op}
use Rattle.nr_wasmtypes.specs.declared.instr.Plain.TheVariants as op
use Rattle.nr_wasmtypes.specs.declared.instr.ValType.{ValType}
use Rattle.nr_wasmtypes.specs.declared.instr.ValType.TheVariants.{I32, I64}
use Rattle.nr_wasmtypes.specs.declared.module.ConstExpr.{ConstExpr}
use Rattle.nr_wasmtypes.specs.declared.module.ConstExpr.TheVariants as constant
use Rattle.nr_wasmtypes.specs.declared.module.FuncType.{FuncType}
use Rattle.nr_wasmtypes.specs.declared.module.Global.{Global}
use Rattle.nr_wasmtypes.specs.declared.module.Module.{Module}
use Rattle.nr_wasmvalid.specs.Modules.{func_context}
use Rattle.nr_wasmvalid.specs.Parts.{func_indices}
use Rattle.nr_wasmvalid.specs.Rules.{Context, Types?, types, within}
use Rattle.nr_wasmvalid.specs.Typing.{Typed, in_body}

-- as many numbers as types, each of its own
abbrev pub AreOf : List ValType → List ℕ → Type 0
AreOf [] [] = Unit {0}
AreOf [] (v ∷ vs) = ⊥
AreOf (t ∷ ts) [] = ⊥
AreOf (t ∷ ts) (v ∷ vs) = IsOf t v × AreOf ts vs

-- ---- constants, which are numbers of their types
abbrev pub IsConstant : Op → Type 0
IsConstant (op.Const32 n) = IsOf I32 n
IsConstant (op.Const64 n) = IsOf I64 n
IsConstant other = Unit {0}

abbrev pub HoldsConstants : Code → Type 0
HoldsConstants End = Unit {0}
HoldsConstants (Then p rest) = IsConstant p × HoldsConstants rest
HoldsConstants (Block ty body rest) = HoldsConstants body × HoldsConstants rest
HoldsConstants (Loop ty body rest) = HoldsConstants body × HoldsConstants rest
HoldsConstants (Choice ty one other rest) = HoldsConstants one × HoldsConstants other × HoldsConstants rest

-- the same of a global's first value
abbrev pub IsFirst : ConstExpr → Type 0
IsFirst (constant.I32 n) = IsOf I32 n
IsFirst (constant.I64 n) = IsOf I64 n
IsFirst (constant.Get g) = Unit {0}

-- those of a module's bodies and of its globals' first values
pub record AreConstants (m : Module) : Type 0 where
  pub bodies : (k : ℕ) (b : Body) → slice_get m.bodies k ≡ Some b → HoldsConstants b.code
  pub globals : (k : ℕ) (g : Global) → slice_get m.globals k ≡ Some g → IsFirst g.init

-- ---- sequences that run
-- the code leads from operands of these types to some of those
abbrev pub IsCode : Context → Code → List ValType → List ValType → Type 0
IsCode c code before after = Typed c code before after × HoldsConstants code

-- The sequence leaves operands of these types. The operands at each place in it are of the types from which the code
-- behind them is typed; a branch to a label goes on with those that it takes; a frame is that of a function of the
-- program, with locals of the types that the function states.
abbrev pub IsSeq : Program → Context → Seq → List ValType → Type 0
IsSeq p c (Plain values code) out = (ts : List ValType) × AreOf ts values × IsCode c code ts out
IsSeq p c (Label values n target inner code) out =
    (label leaves : Types?) × (below : List ValType) × (n ≡ arity_of label) × AreOf below values
    × IsSeq p (within label c) inner (types leaves)
    × IsCode c target (types label ++ below) out × IsCode c code (types leaves ++ below) out
IsSeq p c (Frame values n own inner code) out =
    (f : ℕ) × (sig : FuncType) × (body : Body) × (below : List ValType)
    × (func_at p f ≡ Some (Coded sig body)) × (n ≡ arity_of sig.result)
    × AreOf below values × AreOf (sig.params ++ body.locals) own
    × IsSeq p (in_body (func_context p.code sig body)) inner (types sig.result)
    × IsCode c code (types sig.result ++ below) out

-- ---- configurations
abbrev pub kind_of : Global → ValType
kind_of g = g.kind

-- the globals are of their types, and the memory is one that a guest may have: whole pages, within its bounds
pub record IsTypedGuest (m : Module) (g : Guest) : Type 0 where
  pub globals : AreOf (map kind_of m.globals) g.globals
  pub memory : IsMemory g.memory

-- what stands outside of all frames: no locals, no labels and no result
abbrev pub outside : Module → Context
outside m =
    record {
      types = m.types;
      funcs = func_indices m;
      tables = m.tables;
      memories = m.memories;
      globals = m.globals;
      locals = [];
      result = None;
      labels = [];
    }

-- operands, locals and globals of a run are of their types
pub record IsTypedConfig {S : Type 0} (p : Program) (c : Config S) : Type 0 where
  pub guest : IsTypedGuest p.code c.store.guest
  pub locals : c.locals ≡ []
  pub seq : IsSeq p (outside p.code) c.seq []
