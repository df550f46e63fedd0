-- Recursion on the nodes below a node: what new nodes leave as it is, and one step of it at any name.
use Rattle.std.proofs.Common.{◌≡◌, ◌≢◌, ◌==◌, ◌<◌, ◌++◌, ℕ, zero, suc, true, false, cond, List, [], ◌∷◌, length, map, Option, Some, None, refl, ap, sym, ◌∙◌, subst, eq-eqb, arith, length-append}
use mathlib.Core.Bool.{false≢true}
use Rattle.std.specs.Option.{option_map}
use Rattle.std.proofs.lemmas.Bool.{ne_eqb, eqb-true}
use Rattle.nr_trienodes.specs.Shape.{Shape, child, shape_at, fold, over}

-- an induction on names
pub by_names : (P : ℕ → Type 0) → ((id : ℕ) → ((c : ℕ) → c < id → P c) → P id) → (id : ℕ) → P id
by_names P step id = below (suc id) id (omega arith)
  where
    below : (n c : ℕ) → c < n → P c
    below zero c lt = absurd (omega arith)
    below (suc n) c lt = step c (λ d less. below n d (omega arith))

pub not_same : (a b : ℕ) → (a == b) ≡ false → a ≡ b → ⊥
not_same a b e same = false≢true (sym e ∙ eq-eqb a b same)

-- children of nodes are older
abbrev pub Back : List Shape → Type 0
Back nodes = (id : ℕ) → id < length nodes → (x c : ℕ) → child (shape_at nodes id).below x ≡ Some c → c < id

pub shape_older : (s : Shape) (nodes : List Shape) (id : ℕ) → id < length nodes → shape_at (s ∷ nodes) id ≡ shape_at nodes id
shape_older s nodes id lt = rw (ne_eqb id (length nodes) (λ same. omega arith))

pub shape_newest : (s : Shape) (nodes : List Shape) → shape_at (s ∷ nodes) (length nodes) ≡ s
shape_newest s nodes = rw (eq-eqb (length nodes) (length nodes) refl)

pub shape_append : (new old : List Shape) (id : ℕ) → id < length old → shape_at (new ++ old) id ≡ shape_at old id
shape_append [] old id lt = refl
shape_append (s ∷ new) old id lt = shape_older s (new ++ old) id (omega (arith, length-append new old)) ∙ shape_append new old id lt

pub back_older : (s : Shape) (nodes : List Shape) → Back (s ∷ nodes) → Back nodes
back_older s nodes back id lt x c e = back id (omega arith) x c (ap (λ (t : Shape). child t.below x) (shape_older s nodes id lt) ∙ e)

pub children_same : {A : Type 0} (f g : ℕ → A) (cs : List (Option ℕ)) → ((x c : ℕ) → child cs x ≡ Some c → f c ≡ g c) → map (option_map f) cs ≡ map (option_map g) cs
children_same f g [] same = refl
children_same {A} f g (None ∷ cs) same = ap (λ (r : List (Option A)). None ∷ r) (children_same f g cs (λ x c e. same (suc x) c e))
children_same {A} f g (Some c ∷ cs) same = (λ i. Some (same 0 c refl i) ∷ children_same f g cs (λ x c e. same (suc x) c e) i)

pub child-map : {A : Type 0} (f : ℕ → A) (cs : List (Option ℕ)) (x : ℕ) → child (map (option_map f) cs) x ≡ option_map f (child cs x)
child-map f [] x = refl
child-map f (c ∷ cs) zero = refl
child-map f (c ∷ cs) (suc x) = child-map f cs x

pub fold_older : {A : Type 0} (f : Shape → List (Option A) → A) (none : A) (s : Shape) (nodes : List Shape) (id : ℕ) → id < length nodes → fold f none (s ∷ nodes) id ≡ fold f none nodes id
unfolding fold
fold_older f none s nodes id lt = rw (ne_eqb id (length nodes) (λ same. omega arith))

pub fold_newest : {A : Type 0} (f : Shape → List (Option A) → A) (none : A) (s : Shape) (nodes : List Shape) → fold f none (s ∷ nodes) (length nodes) ≡ over f none nodes s
unfolding fold
fold_newest f none s nodes = rw (eq-eqb (length nodes) (length nodes) refl)

pub fold_append : {A : Type 0} (f : Shape → List (Option A) → A) (none : A) (new old : List Shape) (id : ℕ) → id < length old → fold f none (new ++ old) id ≡ fold f none old id
fold_append f none [] old id lt = refl
fold_append f none (s ∷ new) old id lt = fold_older f none s (new ++ old) id (omega (arith, length-append new old)) ∙ fold_append f none new old id lt

pub fold_at : {A : Type 0} (f : Shape → List (Option A) → A) (none : A) (nodes : List Shape) (id : ℕ) → Back nodes → id < length nodes → fold f none nodes id ≡ over f none nodes (shape_at nodes id)
unfolding fold
fold_at f none [] id back lt = absurd (omega arith)
fold_at {A} f none (s ∷ older) id back lt =
    elim (id == length older) as (λ b. (id == length older) ≡ b → cond b (over f none older s) (fold f none older id) ≡ over f none (s ∷ older) (cond b s (shape_at older id))) [
      | true ↦ λ e.
          let is : id ≡ length older = eqb-true id (length older) e in
          let here : shape_at (s ∷ older) id ≡ s = ap (shape_at (s ∷ older)) is ∙ shape_newest s older in
          ap (f s) (children_same (fold f none older) (fold f none (s ∷ older)) s.below (λ x c h. sym (fold_older f none s older c (let less : c < id = back id lt x c (ap (λ (t : Shape). child t.below x) here ∙ h) in omega arith))))
      | false ↦ λ e.
          let ne : id ≢ length older = not_same id (length older) e in
          let less : id < length older = omega arith in
          let before : Back older = back_older s older back in
          fold_at f none older id before less
          ∙ ap (f (shape_at older id)) (children_same (fold f none older) (fold f none (s ∷ older)) (shape_at older id).below (λ x c h. sym (fold_older f none s older c (let small : c < id = before id less x c h in omega arith))))
    ] refl

-- the same where f sees no difference between the nodes
pub fold_alike : {A : Type 0} (f : Shape → List (Option A) → A) (none : A) (a b : List Shape) → Back a
    → length a ≡ length b → ((id : ℕ) → id < length a → (shape_at b id).below ≡ (shape_at a id).below)
    → ((id : ℕ) → id < length a → (r : List (Option A)) → f (shape_at b id) r ≡ f (shape_at a id) r) → (id : ℕ)
    → id < length a → fold f none b id ≡ fold f none a id
fold_alike {A} f none a b back len below same =
    by_names (λ id. id < length a → fold f none b id ≡ fold f none a id) (λ id less lt.
    let first : id < length b = subst (λ n. id < n) len lt in
    let back_b : Back b = λ n h x c e. back n (subst (λ m. n < m) (sym len) h) x c (ap (λ (cs : List (Option ℕ)). child cs x) (sym (below n (subst (λ m. n < m) (sym len) h))) ∙ e) in
    fold_at f none b id back_b first
    ∙ same id lt (map (option_map (fold f none b)) (shape_at b id).below)
    ∙ ap (λ (cs : List (Option ℕ)). f (shape_at a id) (map (option_map (fold f none b)) cs)) (below id lt)
    ∙ ap (f (shape_at a id)) (children_same (fold f none b) (fold f none a) (shape_at a id).below (λ x c e. let small : c < id = back id lt x c e in less c small (omega arith)))
    ∙ sym (fold_at f none a id back lt))
