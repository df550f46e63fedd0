-- Of this project's own: what the two stacks of the checker stand for.
use Rattle.std.specs.Prelude.{◌≡◌, ◌≢◌, ℕ, ◌≤◌, List, [], ◌∷◌, map, take, drop, reverse, Result, Ok, Err}
use Rattle.nr_wasmtypes.specs.declared.instr.ValType.{ValType}
use Rattle.nr_wasmtypes.specs.declared.module.Module.{Module}
use Rattle.nr_wasmtypes.specs.Code.{Code}
use Rattle.nr_wasmtypes.specs.declared.instr.Plain.{Plain}
use Rattle.nr_wasmvalid.specs.Rules.{Types?, Context, rule}
use Rattle.nr_wasmvalid.specs.Shapes.{Operand, Shape, fresh, asked_all, judged}
use Rattle.nr_wasmvalid.specs.declared.plain.Scope.{Scope}
use Rattle.nr_wasmvalid.specs.declared.refusal.Refusal.{Refusal}
use Rattle.nr_wasmvalid.specs.declared.refusal.Refusal.TheVariants as refusal
use Rattle.nr_wasmvalid.specs.declared.refusal.BodyFault.{BodyFault}
use Rattle.nr_wasmvalid.specs.declared.refusal.BodyFault.TheVariants as fault
use Rattle.nr_wasmvalid.specs.declared.frame.Frame.{Frame}

-- the operands of the innermost block, the labels from there outwards, and the operands of the
-- blocks around it
pub record Frames : Type 0 where
  pub shape : Shape
  pub labels : List Types?
  pub outer : List Shape

-- the operands of a block from its height on; operands stand in the order in which they came
abbrev pub shape_at : List Operand → Frame → Shape
shape_at operands f = record { known = reverse (drop f.height operands); any_below = f.any_below }

-- the operands below, block by block
abbrev pub shapes : List Operand → List Frame → List Shape
shapes operands [] = []
shapes operands (f ∷ fs) = shape_at operands f ∷ shapes (take f.height operands) fs

-- each block begins where the one around it has operands
abbrev pub IsNested : List Frame → ℕ → Type 0
IsNested [] height = Unit {0}
IsNested (f ∷ fs) height = (f.height ≤ height) × IsNested fs f.height

abbrev pub label_of : Frame → Types?
label_of f = f.label

-- the innermost block comes first
abbrev pub frames_of : List Operand → Frame → List Frame → Frames
frames_of operands f fs =
    record {
      shape = shape_at operands f;
      labels = f.label ∷ map label_of fs;
      outer = shapes (take f.height operands) fs;
    }

-- the blocks around stay, with their operands
pub record SameAround (old new : Frames) : Type 0 where
  pub labels : new.labels ≡ old.labels
  pub outer : new.outer ≡ old.outer

-- A call gave this value and left these operands, unless memory ran out.
abbrev pub Passes : {X : Type 0} → Result X Refusal → Frames → Result (X × Shape) Refusal → Type 0
Passes (Ok x) new answer = answer ≡ Ok (x, new.shape)
Passes (Err e) new answer = e ≢ refusal.Memory → answer ≡ Err e

abbrev pub Leaves : Result (Unit {0}) Refusal → Frames → Result Shape Refusal → Type 0
Leaves (Ok x) new answer = answer ≡ Ok new.shape
Leaves (Err e) new answer = e ≢ refusal.Memory → answer ≡ Err e

-- the context of an instruction, from what the function sees and the open blocks
abbrev pub context : Module → List ℕ → List ValType → Types? → List Types? → Context
context w funcs locals result labels =
    record {
      types = w.types;
      funcs = funcs;
      tables = w.tables;
      memories = w.memories;
      globals = w.globals;
      locals = locals;
      result = result;
      labels = labels;
    }

-- the context of an instruction, where a function stands and these blocks are open
abbrev pub in_scope : Scope → List Types? → Context
in_scope s labels = context s.module.now s.funcs.now s.locals s.result labels

-- what an instruction leaves
abbrev pub left_by : Scope → Frames → Plain → Result Shape Refusal
left_by s before p = asked_all (rule (in_scope s before.labels) p) before.shape

-- one more block, inside
abbrev pub entered : Types? → Frames → Frames
entered label f = record { shape = fresh; labels = label ∷ f.labels; outer = f.shape ∷ f.outer }

-- the same blocks, of which the innermost has no operands
abbrev pub emptied : Frames → Frames
emptied f = record f { shape = fresh }

-- A call gave the sequence's end, or its fault, unless memory ran out.
abbrev pub Judges : {X : Type 0} → Result X BodyFault → Frames → Result Shape BodyFault → Type 0
Judges (Ok x) new answer = answer ≡ Ok new.shape
Judges (Err e) new answer = e ≢ fault.Memory → answer ≡ Err e

-- A call went on behind an instruction, whatever stands there, or gave its fault, unless memory ran out.
abbrev pub StepsOn : Context → Result ℕ BodyFault → Frames → (Code → Result Shape BodyFault) → Type 0
StepsOn c (Ok next) new whole = (rest : Code) → whole rest ≡ judged c next rest new.shape
StepsOn c (Err e) new whole = e ≢ fault.Memory → (rest : Code) → whole rest ≡ Err e

-- A call found the body well typed, or gave its fault, unless memory ran out.
abbrev pub BodyJudges : Result (Unit {0}) BodyFault → Result Shape BodyFault → Type 0
BodyJudges (Ok x) answer = answer ≡ Ok fresh
BodyJudges (Err e) answer = e ≢ fault.Memory → answer ≡ Err e
