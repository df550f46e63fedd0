-- What typing gives a machine: where it stands, the rest of each open block is typed for the operands that it has.
use Rattle.std.specs.Prelude.{◌≡◌, ℕ, zero, suc, List, [], ◌∷◌, ◌++◌, Some, None, slice_get}
use Rattle.nr_wasmtypes.specs.declared.instr.ValType.{ValType}
use Rattle.nr_wasmtypes.specs.declared.instr.ValType.TheVariants.{I32}
use Rattle.nr_wasmtypes.specs.declared.instr.Plain.{Plain}
use Rattle.nr_wasmtypes.specs.Code.{Code, End, Then, Block, Loop, Choice}
use Rattle.nr_wasmvalid.specs.Rules.{Types?, types, Context, rule}
use Rattle.nr_wasmvalid.specs.Typing.{Obey, Typed}

-- an open block: what it leaves, what a branch to it takes and where that goes on, what stands behind
-- it, and the operands around it
pub record Open : Type 0 where
  pub leaves : Types?
  pub label : Types?
  pub target : Code
  pub after : Code
  pub below : List ValType

-- the labels inside these blocks, the innermost first; the body's own is the last
abbrev pub labels_in : Context → List Open → List Types?
labels_in c [] = c.result ∷ c.labels
labels_in c (b ∷ bs) = b.label ∷ labels_in c bs

abbrev pub inside : Context → List Open → Context
inside c bs = record c { labels = labels_in c bs }

-- The code goes on with these operands, and so do the blocks around it behind it and at a branch.
abbrev pub GoesOn : Context → List Open → Code → List ValType → Type 0
GoesOn c [] code ts = Typed (inside c []) code ts (types c.result)
GoesOn c (b ∷ bs) code ts =
    Typed (inside c (b ∷ bs)) code ts (types b.leaves)
    × GoesOn c bs b.after (types b.leaves ++ b.below) × GoesOn c bs b.target (types b.label ++ b.below)

-- a branch out of so many blocks takes operands of the label, and the machine goes on at its target or returns
abbrev pub Branches : Context → List Open → ℕ → Types? → Type 0
Branches c [] zero label = label ≡ c.result
Branches c [] (suc depth) label = ⊥
Branches c (b ∷ bs) zero label = (label ≡ b.label) × GoesOn c bs b.target (types b.label ++ b.below)
Branches c (b ∷ bs) (suc depth) label = Branches c bs depth label

-- a block, a loop that is about to begin
abbrev pub block : Types? → Code → List ValType → Open
block ts rest below = record { leaves = ts; label = ts; target = rest; after = rest; below = below }

abbrev pub loop : Types? → Code → Code → List ValType → Open
loop ts body rest below = record { leaves = ts; label = None; target = Loop ts body rest; after = rest; below = below }

-- No step of a machine meets a missing operand, one of another type, or a label that isn't there.
pub record NeverStuck (c : Context) (bs : List Open) (ts : List ValType) : Type 0 where
  pub plain : (p : Plain) (rest : Code) → GoesOn c bs (Then p rest) ts
      → (after : List ValType) × Obey (rule (inside c bs) p) ts after × GoesOn c bs rest after
  pub enters : (label : Types?) (body rest : Code) → GoesOn c bs (Block label body rest) ts
      → GoesOn c (block label rest ts ∷ bs) body []
  pub turns : (label : Types?) (body rest : Code) → GoesOn c bs (Loop label body rest) ts
      → GoesOn c (loop label body rest ts ∷ bs) body []
  pub chooses : (label : Types?) (one other rest : Code) → GoesOn c bs (Choice label one other rest) ts
      → (below : List ValType) × (ts ≡ I32 ∷ below)
      × GoesOn c (block label rest below ∷ bs) one [] × GoesOn c (block label rest below ∷ bs) other []
  pub leaves : (b : Open) → GoesOn c (b ∷ bs) End ts → (ts ≡ types b.leaves) × GoesOn c bs b.after (ts ++ b.below)
  pub returns : bs ≡ [] → GoesOn c bs End ts → ts ≡ types c.result
  -- each label that an instruction names is that of an open block, or the body's
  pub branches : (depth : ℕ) (label : Types?) (code : Code) → c.labels ≡ [] → GoesOn c bs code ts
      → slice_get (inside c bs).labels depth ≡ Some label → Branches c bs depth label
