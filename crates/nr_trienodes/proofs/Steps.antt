-- Two things that are made of a node by recursion, side by side.
use Rattle.std.proofs.Common.{◌≡◌, ◌<◌, ℕ, suc, List, [], ◌∷◌, length, map, Option, Some, None, refl, sym, subst, arith}
use Rattle.std.specs.Prelude.{is_some, count_by}
use Rattle.std.proofs.lemmas.List.{length-map}
use Rattle.std.specs.Option.{option_map}
use Rattle.nr_trienodes.specs.Shape.{Shape, child, shape_at, fold}
use Rattle.nr_trienodes.proofs.Folds.{Back, by_names, fold_at}
use Rattle.nr_trienodes.proofs.Sounds.{count-children}

-- children at the same places, each two as P says
abbrev pub Zipped : {A B : Type 0} → (A → B → Type 0) → List (Option A) → List (Option B) → Type 0
Zipped P [] [] = Unit {0}
Zipped P [] (b ∷ bs) = ⊥
Zipped P (a ∷ xs) [] = ⊥
Zipped P (None ∷ xs) (None ∷ bs) = Zipped P xs bs
Zipped P (None ∷ xs) (Some b ∷ bs) = ⊥
Zipped P (Some a ∷ xs) (None ∷ bs) = ⊥
Zipped P (Some a ∷ xs) (Some b ∷ bs) = P a b × Zipped P xs bs

zipped : {A B : Type 0} (P : A → B → Type 0) (f : ℕ → A) (g : ℕ → B) (cs : List (Option ℕ)) → ((x c : ℕ) → child cs x ≡ Some c → P (f c) (g c)) → Zipped P (map (option_map f) cs) (map (option_map g) cs)
zipped P f g [] h = tt
zipped P f g (None ∷ cs) h = zipped P f g cs (λ x c e. h (suc x) c e)
zipped P f g (Some c ∷ cs) h = (h 0 c refl, zipped P f g cs (λ x c e. h (suc x) c e))

-- an induction on names, for two at once
pub fold_two : {A B : Type 0} (P : A → B → Type 0) (f : Shape → List (Option A) → A) (nf : A) (g : Shape → List (Option B) → B) (ng : B) (nodes : List Shape) → Back nodes
    → ((id : ℕ) → id < length nodes → (xs : List (Option A)) (bs : List (Option B)) → count_by is_some xs ≡ count_by is_some (shape_at nodes id).below → length xs ≡ length (shape_at nodes id).below → Zipped P xs bs → P (f (shape_at nodes id) xs) (g (shape_at nodes id) bs))
    → (id : ℕ) → id < length nodes → P (fold f nf nodes id) (fold g ng nodes id)
fold_two {A} {B} P f nf g ng nodes back step =
    by_names (λ id. id < length nodes → P (fold f nf nodes id) (fold g ng nodes id)) (λ id below lt.
    let s : Shape = shape_at nodes id in
    let xs : List (Option A) = map (option_map (fold f nf nodes)) s.below in
    let bs : List (Option B) = map (option_map (fold g ng nodes)) s.below in
    let less = λ (x c : ℕ) (e : child s.below x ≡ Some c). let small : c < id = back id lt x c e in below c small (omega arith) in
    let here : P (f s xs) (g s bs) = step id lt xs bs (count-children (fold f nf nodes) s.below) (length-map s.below (option_map (fold f nf nodes))) (zipped P (fold f nf nodes) (fold g ng nodes) s.below less) in
    subst (λ a. P a (fold g ng nodes id)) (sym (fold_at f nf nodes id back lt)) (subst (λ b. P (f s xs) b) (sym (fold_at g ng nodes id back lt)) here))
