-- A code of sequences, by which a proof tells them apart: a sequence as a list of its parts, each before what it holds.
use Rattle.std.specs.Prelude.{◌≡◌, ◌⊎◌, List, [], ◌∷◌, Option, refl}
use Rattle.std.specs.Coded.{Coded, code_by, coded_list, coded_option, coded⊎}
use Rattle.std.proofs.Common.{ap, ◌∙◌}
use mathlib.Core.Logic.{inl, inr}
use base.Stored.{coded_unit}
use Rattle.nr_wasmtypes.specs.declared.instr.ValType.{ValType}
use Rattle.nr_wasmtypes.specs.declared.instr.Plain.{Plain}
use Rattle.nr_wasmtypes.specs.Code.{Code, End, Then, Block, Loop, Choice}

pub data Part : Type 0 where
  Ends : Part
  Does : Plain → Part
  Enters : Option ValType → Part
  Turns : Option ValType → Part
  Chooses : Option ValType → Part

-- the parts of a sequence, before others
abbrev pub parts : Code → List Part → List Part
parts End others = Ends ∷ others
parts (Then p rest) others = Does p ∷ parts rest others
parts (Block ty body rest) others = Enters ty ∷ parts body (parts rest others)
parts (Loop ty body rest) others = Turns ty ∷ parts body (parts rest others)
parts (Choice ty one other rest) others = Chooses ty ∷ parts one (parts other (parts rest others))

-- a part with the sequences that come after it
abbrev pub held : Part → List Code → List Code
held Ends cs = End ∷ cs
held (Does p) [] = []
held (Does p) (rest ∷ cs) = Then p rest ∷ cs
held (Enters ty) [] = []
held (Enters ty) (body ∷ []) = []
held (Enters ty) (body ∷ rest ∷ cs) = Block ty body rest ∷ cs
held (Turns ty) [] = []
held (Turns ty) (body ∷ []) = []
held (Turns ty) (body ∷ rest ∷ cs) = Loop ty body rest ∷ cs
held (Chooses ty) [] = []
held (Chooses ty) (one ∷ []) = []
held (Chooses ty) (one ∷ other ∷ []) = []
held (Chooses ty) (one ∷ other ∷ rest ∷ cs) = Choice ty one other rest ∷ cs

abbrev pub sequences : List Part → List Code
sequences [] = []
sequences (part ∷ others) = held part (sequences others)

pub sequences_parts : (code : Code) (others : List Part) → sequences (parts code others) ≡ code ∷ sequences others
sequences_parts End others = refl
sequences_parts (Then p rest) others = ap (held (Does p)) (sequences_parts rest others)
sequences_parts (Block ty body rest) others =
    ap (held (Enters ty)) (sequences_parts body (parts rest others) ∙ ap (λ cs. body ∷ cs)
    (sequences_parts rest others))
sequences_parts (Loop ty body rest) others =
    ap (held (Turns ty)) (sequences_parts body (parts rest others) ∙ ap (λ cs. body ∷ cs) (sequences_parts rest others))
sequences_parts (Choice ty one other rest) others =
    ap (held (Chooses ty))
    (sequences_parts one (parts other (parts rest others))
    ∙ ap (λ cs. one ∷ cs) (sequences_parts other (parts rest others) ∙ ap (λ cs. other ∷ cs)
    (sequences_parts rest others)))

abbrev pub first : List Code → Code
first [] = End
first (code ∷ cs) = code

abbrev pub split : Part → Unit {0} ⊎ (Plain ⊎ (Option ValType ⊎ (Option ValType ⊎ Option ValType)))
split Ends = inl tt
split (Does p) = inr (inl p)
split (Enters ty) = inr (inr (inl ty))
split (Turns ty) = inr (inr (inr (inl ty)))
split (Chooses ty) = inr (inr (inr (inr ty)))

abbrev pub join : Unit {0} ⊎ (Plain ⊎ (Option ValType ⊎ (Option ValType ⊎ Option ValType))) → Part
join (inl u) = Ends
join (inr (inl p)) = Does p
join (inr (inr (inl ty))) = Enters ty
join (inr (inr (inr (inl ty)))) = Turns ty
join (inr (inr (inr (inr ty)))) = Chooses ty

pub join_split : (part : Part) → join (split part) ≡ part
join_split Ends = refl
join_split (Does p) = refl
join_split (Enters ty) = refl
join_split (Turns ty) = refl
join_split (Chooses ty) = refl

abbrev pub coded_part : Coded Plain → Coded ValType → Coded Part
coded_part plain val =
    code_by (Unit {0} ⊎ (Plain ⊎ (Option ValType ⊎ (Option ValType ⊎ Option ValType))))
    (coded⊎ coded_unit (coded⊎ plain (coded⊎ (coded_option val) (coded⊎ (coded_option val) (coded_option val)))))
    split join join_split

abbrev pub coded_code : Coded Plain → Coded ValType → Coded Code
coded_code plain val =
    code_by (List Part) (coded_list (coded_part plain val)) (λ code. parts code []) (λ ps. first (sequences ps))
    (λ code. ap first (sequences_parts code []))
