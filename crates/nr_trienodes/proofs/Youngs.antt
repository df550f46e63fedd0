-- How many nodes there are at and below one without the oldest.
use Rattle.std.proofs.Common.{◌≡◌, ◌<◌, ◌≤◌, ◌+◌, ◌==◌, ℕ, zero, suc, ltb, Bool, true, false, cond, List, [], ◌∷◌, length, map, Option, Some, None, refl, ap, sym, ◌∙◌, arith}
use Rattle.std.specs.Prelude.{sum_by}
use Rattle.std.specs.Option.{option_map}
use Rattle.std.proofs.lemmas.Bool.{lt-ltb, le-ltb}
use Rattle.std.proofs.lemmas.List.{length-map}
use Rattle.nr_trienodes.specs.Shape.{Shape, shape_at, child}
use Rattle.nr_trienodes.specs.Tries.{count_at, node_count, or_zero}
use Rattle.nr_trienodes.specs.Roots.{young_child, young_part, young_at, young_count, root_count}
use Rattle.nr_trienodes.specs.declared.nodes.NodeId.{NodeId}
use Rattle.nr_trienodes.proofs.Folds.{Back, fold_at}
use Rattle.nr_trienodes.proofs.Sounds.{sum_by-map, sum_by-same}

-- the oldest count nothing
pub young_old : (nodes : List Shape) (oldest id : ℕ) → id < oldest → young_at nodes oldest id ≡ 0
young_old nodes oldest id lt = ap (λ b. cond b 0 (count_at (map (young_part oldest) nodes) id)) (lt-ltb id oldest lt)

shape_young : (nodes : List Shape) (oldest id : ℕ)
    → shape_at (map (young_part oldest) nodes) id ≡ young_part oldest (shape_at nodes id)
shape_young [] oldest id = refl
shape_young (s ∷ nodes) oldest id =
    ap (λ n. cond (id == n) (young_part oldest s) (shape_at (map (young_part oldest) nodes) id)) (length-map nodes (young_part oldest))
    ∙ ap (λ (t : Shape). cond (id == length nodes) (young_part oldest s) t) (shape_young nodes oldest id)
    ∙ either (id == length nodes) (shape_at nodes id)
  where
    either : (b : Bool) (t : Shape)
        → cond b (young_part oldest s) (young_part oldest t) ≡ young_part oldest (cond b s t)
    either true t = refl
    either false t = refl

old_child : (oldest : ℕ) (cs : List (Option ℕ)) (x c : ℕ) → child (map (young_child oldest) cs) x ≡ Some c
    → child cs x ≡ Some c
old_child oldest [] x c e = e
old_child oldest (None ∷ cs) zero c e = e
old_child oldest (Some d ∷ cs) zero c e = which (ltb d oldest) e
  where
    which : (b : Bool) → cond b None (Some d) ≡ Some c → Some d ≡ Some c
    which true h = absurd cc
    which false h = h
old_child oldest (q ∷ cs) (suc x) c e = old_child oldest cs x c e

back_young : (nodes : List Shape) (oldest : ℕ) → Back nodes → Back (map (young_part oldest) nodes)
back_young nodes oldest back id lt x c e =
    back id (omega (arith, length-map nodes (young_part oldest))) x c
    (old_child oldest (shape_at nodes id).below x c (sym (ap (λ (t : Shape). child t.below x) (shape_young nodes oldest id)) ∙ e))

one_young : (nodes : List Shape) (oldest : ℕ) (q : Option ℕ)
    → or_zero (option_map (count_at (map (young_part oldest) nodes)) (young_child oldest q))
    ≡ or_zero (option_map (young_at nodes oldest) q)
one_young nodes oldest None = refl
one_young nodes oldest (Some c) = which (ltb c oldest)
  where
    which : (b : Bool)
        → or_zero (option_map (count_at (map (young_part oldest) nodes)) (cond b None (Some c)))
        ≡ cond b 0 (count_at (map (young_part oldest) nodes) c)
    which true = refl
    which false = refl

row_young : (nodes : List Shape) (oldest : ℕ) (cs : List (Option ℕ))
    → sum_by or_zero (map (option_map (count_at (map (young_part oldest) nodes))) (map (young_child oldest) cs))
    ≡ sum_by or_zero (map (option_map (young_at nodes oldest)) cs)
row_young nodes oldest cs =
    sum_by-map or_zero (option_map (count_at (map (young_part oldest) nodes))) (map (young_child oldest) cs)
    ∙ sum_by-map (λ (q : Option ℕ). or_zero (option_map (count_at (map (young_part oldest) nodes)) q)) (young_child oldest) cs
    ∙ sum_by-same (λ (q : Option ℕ). or_zero (option_map (count_at (map (young_part oldest) nodes)) (young_child oldest q)))
    (λ (q : Option ℕ). or_zero (option_map (young_at nodes oldest) q))
    cs (one_young nodes oldest)
    ∙ sym (sum_by-map or_zero (option_map (young_at nodes oldest)) cs)

-- a young node counts one, and what its children count
pub young_is : (nodes : List Shape) (oldest id : ℕ) → Back nodes → oldest ≤ id → id < length nodes
    → young_at nodes oldest id ≡ 1 + sum_by or_zero (map (option_map (young_at nodes oldest)) (shape_at nodes id).below)
young_is nodes oldest id back le lt =
    ap (λ b. cond b 0 (count_at (map (young_part oldest) nodes) id)) (le-ltb id oldest le)
    ∙ fold_at node_count 0 (map (young_part oldest) nodes) id (back_young nodes oldest back) (omega (arith, length-map nodes (young_part oldest)))
    ∙ ap (λ (t : Shape). 1 + sum_by or_zero (map (option_map (count_at (map (young_part oldest) nodes))) t.below)) (shape_young nodes oldest id)
    ∙ ap (λ n. 1 + n) (row_young nodes oldest (shape_at nodes id).below)

-- ---- where there are no oldest nodes each one counts
same_all : {A : Type 0} (f : A → A) (xs : List A) → ((x : A) → f x ≡ x) → map f xs ≡ xs
same_all f [] same = refl
same_all f (x ∷ xs) same = (λ i. same x i ∷ same_all f xs same i)

all_child : (q : Option ℕ) → young_child 0 q ≡ q
all_child None = refl
all_child (Some c) = ap (λ b. cond b None (Some c)) (le-ltb c 0 (omega arith))

all_at : (nodes : List Shape) (id : ℕ) → young_at nodes 0 id ≡ count_at nodes id
all_at nodes id =
    ap (λ b. cond b 0 (count_at (map (young_part 0) nodes) id)) (le-ltb id 0 (omega arith))
    ∙ ap (λ (ns : List Shape). count_at ns id) (same_all (young_part 0) nodes whole)
  where
    whole : (s : Shape) → young_part 0 s ≡ s
    whole s =
        ap (λ (cs : List (Option ℕ)). let t : Shape = record s { below = cs } in t)
        (same_all (young_child 0) s.below all_child)

pub all_count : (nodes : List Shape) (roots : List (Option NodeId))
    → sum_by (young_count nodes 0) roots ≡ sum_by (root_count nodes) roots
all_count nodes roots = sum_by-same (young_count nodes 0) (root_count nodes) roots one
  where
    one : (r : Option NodeId) → young_count nodes 0 r ≡ root_count nodes r
    one None = refl
    one (Some id) = all_at nodes id.0
