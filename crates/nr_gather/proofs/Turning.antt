-- One node more of those that are gone over: one that is passed by, or one that is looked at.
use Rattle.std.proofs.Common.{◌≡◌, ℕ, suc, ◌+◌, ◌-◌, ◌<◌, List, ◌∷◌, ◌++◌, length, drop, get_or, sym, subst, ◌∙◌, add-one, drop-cons, arith}
use Rattle.std.specs.List.{AllByRecursion}
use Rattle.nr_triedef.specs.Root.{Paths}
use Rattle.nr_triedef.specs.declared.node.Node.{Node}
use Rattle.nr_walk.specs.declared.searched.Searched.{Searched}
use Rattle.nr_walk.specs.declared.told.Spot.{Spot}
use Rattle.nr_gather.specs.Sweeping.{count_of, paths_behind, swept}

next_node : (nodes : List Node) (i : ℕ) (node : Node) → i < length nodes → node ≡ get_or nodes i node → drop i nodes ≡ node ∷ drop (i + 1) nodes
next_node nodes i node lt is = drop-cons nodes i node lt ∙ (λ j. sym is j ∷ drop (sym (add-one i) j) nodes)

pub passed_by : (s : List Searched) (nodes : List Node) (i : ℕ) (node : Node) (texts total : List (List ℕ)) (passed next : ℕ) (waiting : List Spot) (ps rest : Paths)
    → i < length nodes → node ≡ get_or nodes i node → 0 < passed → next ≡ passed - 1 + count_of node → rest ≡ paths_behind node ps
    → texts ++ swept s passed waiting (drop i nodes) ps ≡ total → texts ++ swept s next waiting (drop (i + 1) nodes) rest ≡ total
passed_by s nodes i node texts total passed next waiting ps rest lt is some n r h =
    let here = next_node nodes i node lt is in
    let k : passed ≡ suc (passed - 1) = omega arith in
    (λ j. texts ++ swept s (n j) waiting (drop (i + 1) nodes) (r j)) ∙ (λ j. texts ++ swept s (sym k j) waiting (sym here j) ps) ∙ h

pub looked_at : (s sought : List Searched) (nodes : List Node) (i : ℕ) (node : Node) (texts more total : List (List ℕ)) (passed next : ℕ) (waiting left now : List Spot) (spot : Spot) (ps rest : Paths)
    → i < length nodes → node ≡ get_or nodes i node → passed ≡ 0 → sought ≡ s → waiting ≡ spot ∷ left → rest ≡ paths_behind node ps
    → ((others : List Node) → more ++ swept sought next now others (paths_behind node ps) ≡ texts ++ swept sought 0 (spot ∷ left) (node ∷ others) ps)
    → texts ++ swept s passed waiting (drop i nodes) ps ≡ total → more ++ swept s next now (drop (i + 1) nodes) rest ≡ total
looked_at s sought nodes i node texts more total passed next waiting left now spot ps rest lt is p e w r v h =
    let here = next_node nodes i node lt is in
    (λ j. more ++ swept (sym e j) next now (drop (i + 1) nodes) (r j))
    ∙ v (drop (i + 1) nodes)
    ∙ (λ j. texts ++ swept (e j) (sym p j) (sym w j) (sym here j) ps)
    ∙ h

pub all_behind : (P : Node → Type 0) (nodes : List Node) (i : ℕ) (node : Node) → i < length nodes → node ≡ get_or nodes i node → AllByRecursion P (drop i nodes) → AllByRecursion P (drop (i + 1) nodes)
all_behind P nodes i node lt is h =
    let all : AllByRecursion P (node ∷ drop (i + 1) nodes) = subst (λ (l : List Node). AllByRecursion P l) (next_node nodes i node lt is) h in
    all.1
