-- Typed code never gets stuck.
use Rattle.std.proofs.Common.{◌≡◌, ℕ, zero, suc, List, [], ◌∷◌, ◌++◌, Option, Some, sym, ap, subst, ◌∙◌}
use Rattle.std.specs.Prelude.{slice_get}
use Rattle.nr_wasmtypes.specs.declared.instr.ValType.{ValType}
use Rattle.nr_wasmtypes.specs.declared.instr.ValType.TheVariants.{I32}
use Rattle.nr_wasmtypes.specs.declared.instr.Plain.{Plain}
use Rattle.nr_wasmtypes.specs.Code.{Code, End, Then, Block, Loop, Choice}
use Rattle.nr_wasmvalid.specs.Rules.{Types?, types, Context, rule}
use Rattle.nr_wasmvalid.specs.Typing.{Obey}
use Rattle.nr_wasmvalid.specs.Running.{Open, inside, GoesOn, Branches, block, loop, NeverStuck}

plain_on : (c : Context) (bs : List Open) (ts : List ValType) (p : Plain) (rest : Code) → GoesOn c bs (Then p rest) ts → (after : List ValType) × Obey (rule (inside c bs) p) ts after × GoesOn c bs rest after
plain_on c [] ts p rest h = (h.0, h.1, h.2)
plain_on c (b ∷ bs) ts p rest h = (h.0.0, h.0.1, (h.0.2, h.1, h.2))

enters_on : (c : Context) (bs : List Open) (ts : List ValType) (label : Types?) (body rest : Code) → GoesOn c bs (Block label body rest) ts → GoesOn c (block label rest ts ∷ bs) body []
enters_on c [] ts label body rest h = (h.0, h.1, h.1)
enters_on c (b ∷ bs) ts label body rest h = (h.0.0, (h.0.1, h.1, h.2), (h.0.1, h.1, h.2))

turns_on : (c : Context) (bs : List Open) (ts : List ValType) (label : Types?) (body rest : Code) → GoesOn c bs (Loop label body rest) ts → GoesOn c (loop label body rest ts ∷ bs) body []
turns_on c [] ts label body rest h = (h.0, h.1, h)
turns_on c (b ∷ bs) ts label body rest h = (h.0.0, (h.0.1, h.1, h.2), h)

chooses_on : (c : Context) (bs : List Open) (ts : List ValType) (label : Types?) (one other rest : Code) → GoesOn c bs (Choice label one other rest) ts
    → (below : List ValType) × (ts ≡ I32 ∷ below) × GoesOn c (block label rest below ∷ bs) one [] × GoesOn c (block label rest below ∷ bs) other []
chooses_on c [] ts label one other rest h = (h.0, h.1, (h.2, h.4, h.4), (h.3, h.4, h.4))
chooses_on c (b ∷ bs) ts label one other rest h =
    (h.0.0, h.0.1, (h.0.2, (h.0.4, h.1, h.2), (h.0.4, h.1, h.2)), (h.0.3, (h.0.4, h.1, h.2), (h.0.4, h.1, h.2)))

leaves_on : (c : Context) (bs : List Open) (ts : List ValType) (b : Open) → GoesOn c (b ∷ bs) End ts → (ts ≡ types b.leaves) × GoesOn c bs b.after (ts ++ b.below)
leaves_on c bs ts b h = (sym h.0, subst (λ (us : List ValType). GoesOn c bs b.after (us ++ b.below)) h.0 h.1)

returns_on : (c : Context) (bs : List Open) (ts : List ValType) → bs ≡ [] → GoesOn c bs End ts → ts ≡ types c.result
returns_on c [] ts e h = sym h
returns_on c (b ∷ bs) ts e h = absurd cc

abbrev there : Types? → Option Types?
there t = Some t

some_is : (t u : Types?) → there t ≡ there u → t ≡ u
some_is t u e = cc

nothing_there : (depth : ℕ) (label : Types?) → slice_get [] depth ≡ there label → ⊥
nothing_there depth label e = absurd cc

-- the label that a branch finds is that of an open block
label_of : (c : Context) (bs : List Open) (code : Code) (ts : List ValType) (depth : ℕ) (label : Types?) → c.labels ≡ [] → GoesOn c bs code ts → slice_get (inside c bs).labels depth ≡ Some label → Branches c bs depth label
label_of c [] code ts zero label none h e = some_is label c.result (sym e)
label_of c [] code ts (suc depth) label none h e = absurd (let x : slice_get [] depth ≡ Some label = ap (λ (ls : List Types?). slice_get ls depth) (sym none) ∙ e in nothing_there depth label x)
label_of c (b ∷ bs) code ts zero label none h e = (some_is label b.label (sym e), h.2)
label_of c (b ∷ bs) code ts (suc depth) label none h e = label_of c bs b.after (types b.leaves ++ b.below) depth label none h.1 e

pub never_stuck : (c : Context) (bs : List Open) (ts : List ValType) → NeverStuck c bs ts
never_stuck c bs ts = record {
  plain = plain_on c bs ts;
  enters = enters_on c bs ts;
  turns = turns_on c bs ts;
  chooses = chooses_on c bs ts;
  leaves = leaves_on c bs ts;
  returns = returns_on c bs ts;
  branches = λ depth label code none h e. label_of c bs code ts depth label none h e;
}
