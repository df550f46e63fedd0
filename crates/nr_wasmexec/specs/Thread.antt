-- Of this project's own: the place that a thread's vectors stand for.
use Rattle.std.specs.Prelude.{◌≡◌, ℕ, ◌+◌, ◌<◌, ◌≤◌, Bool, true, false, List, [], ◌∷◌, length, take, drop, reverse}
use Rattle.std.specs.Prelude.{Option, Some, None, slice_set}
use Rattle.nr_wasmtypes.specs.Code.{Code, code_of, after}
use Rattle.nr_wasmexec.specs.declared.control.Control.{Control}
use Rattle.nr_wasmexec.specs.declared.control.Control.TheVariants.{Label, Frame}
use Rattle.nr_wasmexec.specs.Place.{Context, InLabel, InFrame, Place}

-- where a branch to a block goes on: at the block itself, or behind it
abbrev pub target_at : Bool → Code → Code
target_at true at = at
target_at false at = after at

-- what stands round a sequence, out of the operands and the locals round it
abbrev pub contexts_of : List ℕ → List ℕ → List Control → List Context
contexts_of operands locals [] = []
contexts_of operands locals (Label height arity again at ∷ cs) =
    InLabel (reverse (drop height operands)) arity (target_at again (code_of at.now)) (after (code_of at.now))
    ∷ contexts_of (take height operands) locals cs
contexts_of operands locals (Frame height base arity at ∷ cs) =
    InFrame (reverse (drop height operands)) arity (drop base locals) (after (code_of at.now))
    ∷ contexts_of (take height operands) (take base locals) cs

abbrev pub place_of : List ℕ → List ℕ → ℕ → ℕ → Code → List Control → Place
place_of operands locals height base code controls =
    record {
      values = reverse (drop height operands);
      code = code;
      locals = drop base locals;
      contexts = contexts_of (take height operands) (take base locals) (reverse controls);
    }

-- heights fall from the inside out, to nothing
abbrev pub AreStacked : ℕ → ℕ → List Control → Type 0
AreStacked height base [] = (height ≡ 0) × (base ≡ 0)
AreStacked height base (Label below arity again at ∷ cs) = (below ≤ height) × AreStacked below base cs
AreStacked height base (Frame below under arity at ∷ cs) = (below ≤ height) × (under ≤ base) × AreStacked below under cs

abbrev pub count_frames : List Control → ℕ
count_frames [] = 0
count_frames (Label below arity again at ∷ cs) = count_frames cs
count_frames (Frame below under arity at ∷ cs) = count_frames cs + 1

pub record IsThread (operands locals : List ℕ) (height base : ℕ) (controls : List Control) (frames : ℕ) : Type 0 where
  pub in_operands : height ≤ length operands
  pub in_locals : base ≤ length locals
  pub stacked : AreStacked height base (reverse controls)
  pub counted : frames ≡ count_frames (reverse controls)

-- ---- what calls answer
abbrev pub Pops : Option ℕ → Place → Place → Type 0
Pops None old new = (old.values ≡ []) × (new ≡ old)
Pops (Some v) old new = (old.values ≡ v ∷ new.values) × (new ≡ record old { values = new.values })

abbrev pub Sets : Bool → ℕ → ℕ → Place → Place → Type 0
Sets false n v old new = (length old.locals ≤ n) × (new ≡ old)
Sets true n v old new = (n < length old.locals) × (new ≡ record old { locals = slice_set old.locals n v })

abbrev pub Reaches : Bool → Place → Option Place → Type 0
Reaches false new place = place ≡ None
Reaches true new place = place ≡ Some new

-- the same, and unchanged where it reaches nothing
abbrev pub ReachesOrStays : Bool → Place → Place → Option Place → Type 0
ReachesOrStays false old new place = (place ≡ None) × (new ≡ old)
ReachesOrStays true old new place = place ≡ Some new

abbrev pub PopsControl : Option Control → List Control → List Control → Type 0
PopsControl None old new = (old ≡ []) × (new ≡ [])
PopsControl (Some c) old new = old ≡ c ∷ new

abbrev pub IsNoLabel : List Control → Type 0
IsNoLabel [] = Unit {0}
IsNoLabel (Label below arity again at ∷ cs) = ⊥
IsNoLabel (Frame below under arity at ∷ cs) = Unit {0}

abbrev pub IsLabelAt : ℕ → List Control → List Control → Type 0
IsLabelAt height [] rest = ⊥
IsLabelAt height (Label below arity again at ∷ cs) rest = (height ≡ below) × (rest ≡ cs)
IsLabelAt height (Frame below under arity at ∷ cs) rest = ⊥

abbrev pub PopsLabel : Option ℕ → List Control → List Control → Type 0
PopsLabel None old new = IsNoLabel old × (new ≡ old)
PopsLabel (Some height) old new = IsLabelAt height old new
