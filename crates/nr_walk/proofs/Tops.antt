-- The top node of some paths is a node, and its summary is that of their trie.
use Rattle.std.proofs.Common.{◌≡◌, ◌≤◌, ◌+◌, ℕ, true, false, List, [], ◌∷◌, length, Some, refl, sym, ap, subst, ◌∙◌, arith}
use Rattle.nr_triedef.specs.Node.{IsNode, IsNibbles, key_part, digest, summary}
use Rattle.nr_triedef.specs.Root.{Paths, front, behind, leaf, with_front, part_usage, value_usage}
use Rattle.nr_triedef.specs.declared.hash.Summary.{Summary}
use Rattle.nr_triedef.proofs.Parts.{leaf_is_node, extension_is_node}
use Rattle.nr_store.specs.Tries.{CanWalk, cut, whole}
use Rattle.nr_store.proofs.Levels.{whole_one, whole_several, links_of_two}
use Rattle.nr_store.proofs.Links.{AllBegin, front_begins, none_shared, length_behind}
use Rattle.nr_store.proofs.Orders.{front_small, behind_none}
use Rattle.nr_walk.specs.Tries.{children, branch_of, top_over, top_of}

over_is : (shared : List ℕ) (rest : Paths) → summary (top_over shared rest) ≡ with_front shared (summary (branch_of rest))
over_is [] rest = refl
over_is (x ∷ xs) rest = refl

pub whole_is : (ps : Paths) → 1 ≤ length ps → CanWalk ps → whole ps ≡ Some (summary (top_of ps))
unfolding top_of
whole_is [] some h = absurd (omega arith)
whole_is (p ∷ []) some h = whole_one (p ∷ []) refl
whole_is (p ∷ q ∷ ps) some h =
    let all = p ∷ q ∷ ps in
    whole_several all (omega arith) h ∙ ap (λ (s : Summary). Some s) (sym (over_is (front all) (cut all)))

over_node : (shared : List ℕ) (ps : Paths) → shared ≡ front ps → 2 ≤ length ps → CanWalk ps → IsNode (top_over shared (cut ps))
over_node [] ps e many h = links_of_two ps (cut ps) (children (cut ps)) many h refl refl
over_node (x ∷ xs) ps e many h =
    let s = summary (branch_of (cut ps)) in
    let small : IsNibbles (x ∷ xs) = subst IsNibbles (sym e) (front_small ps h) in
    extension_is_node (x ∷ xs) s.hash (part_usage (key_part (x ∷ xs) false) + s.usage) small (omega arith)

pub top_node : (ps : Paths) → 1 ≤ length ps → CanWalk ps → IsNode (top_of ps)
unfolding top_of
top_node [] some h = absurd (omega arith)
top_node (p ∷ []) some h = leaf_is_node p.0 (length p.1) (digest p.1) (part_usage (key_part p.0 true) + value_usage (Some p.1)) h.small.0
top_node (p ∷ q ∷ ps) some h = over_node (front (p ∷ q ∷ ps)) (p ∷ q ∷ ps) refl (omega arith) h

pub many_cut : (ps : Paths) → 2 ≤ length ps → 2 ≤ length (cut ps)
many_cut ps many = omega (arith, length_behind (length (front ps)) ps)

-- ---- behind the longest front no front is left
begins_with : (x : ℕ) (xs : List ℕ) (ps : Paths) → AllBegin (x ∷ xs) ps → AllBegin (x ∷ []) ps
begins_with x xs [] h = tt
begins_with x xs (([], v) ∷ ps) h = absurd h.0
begins_with x xs ((y ∷ k, v) ∷ ps) h = ((h.0.0, tt), begins_with x xs ps h.1)

pub front_cut : (ps : Paths) → 1 ≤ length ps → front (cut ps) ≡ []
front_cut ps some =
    elim (front (cut ps)) as (λ (s : List ℕ). front (cut ps) ≡ s → s ≡ []) [
      | [] ↦ λ e. refl
      | x ∷ xs ↦ λ e.
          let all : AllBegin (x ∷ xs) (cut ps) = subst (λ (s : List ℕ). AllBegin s (cut ps)) e (front_begins (cut ps)) in
          absurd (none_shared ps x some (begins_with x xs (cut ps) all))
    ] refl

over_parted : (shared : List ℕ) (ps rest : Paths) → shared ≡ [] → rest ≡ ps → top_over shared rest ≡ branch_of ps
over_parted [] ps rest e f = ap branch_of f
over_parted (x ∷ xs) ps rest e f = absurd cc

-- where paths share no front, the top node is their branch
pub top_parted : (ps : Paths) → 2 ≤ length ps → front ps ≡ [] → top_of ps ≡ branch_of ps
unfolding top_of
top_parted [] many e = absurd (omega arith)
top_parted (p ∷ []) many e = absurd (omega arith)
top_parted (p ∷ q ∷ ps) many e =
    let all = p ∷ q ∷ ps in
    over_parted (front all) all (cut all) e (ap (λ (s : List ℕ). behind (length s) all) e ∙ behind_none all)

pub top_shared : (ps : Paths) (x : ℕ) (xs : List ℕ) → 2 ≤ length ps → front ps ≡ x ∷ xs → top_of ps ≡ top_over (x ∷ xs) (cut ps)
unfolding top_of
top_shared [] x xs many e = absurd (omega arith)
top_shared (p ∷ []) x xs many e = absurd (omega arith)
top_shared (p ∷ q ∷ ps) x xs many e = ap (λ (s : List ℕ). top_over s (cut (p ∷ q ∷ ps))) e

pub top_leaf : (p : List ℕ × List ℕ) → top_of (p ∷ []) ≡ leaf p
unfolding top_of
top_leaf p = refl
