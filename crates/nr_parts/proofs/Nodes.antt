-- The nodes of a map's trie are the top nodes of the keys behind their places: texts that the map agrees with are theirs, and where such a text is held its node is looked at without a fault.
use Rattle.std.proofs.Common.{◌≡◌, ◌<◌, ◌≤◌, ◌+◌, ℕ, zero, suc, false, List, [], ◌∷◌, ◌++◌, length, map, Some, Ok, refl, ap, sym, subst, ◌∙◌, arith, add-one}
use Rattle.std.specs.List.{AllByRecursion, range_with_len}
use Rattle.std.specs.FinMap.{entries, get}
use Rattle.nr_bytes.specs.Numbers.{IsBytes}
use Rattle.nr_ids.specs.declared.key.Hash32.{Hash32}
use Rattle.nr_triedef.specs.Node.{key_part, digest, node_text, summary}
use Rattle.nr_triedef.specs.Reading.{Fits}
use Rattle.nr_triedef.specs.Root.{Contents, Paths, paths, depth, front, value_here, under, branch, extension, sixteen, trie}
use Rattle.nr_triedef.specs.declared.node.Node.{Node}
use Rattle.nr_store.specs.Tries.{CanWalk, cut}
use Rattle.nr_store.proofs.Links.{CanStand, stands_behind, stands_under}
use Rattle.nr_store.proofs.Listed.{walk_whole}
use Rattle.nr_trielist.specs.Forest.{Stood, Forest, bare, tree, fronted, rows, forest, forest_of}
use Rattle.nr_trielist.proofs.Branches.{any_depth}
use Rattle.nr_walk.specs.Told.{spot}
use Rattle.nr_walk.specs.Looking.{looked_at}
use Rattle.nr_walk.specs.Tries.{branch_of, top_of, IsBelow, IsOwn}
use Rattle.nr_walk.specs.Tries.IsBelow.{Top, Behind, Under}
use Rattle.nr_walk.specs.Shown.{behind_all, IsOf}
use Rattle.nr_walk.proofs.Fitting.{fitting}
use Rattle.nr_walk.proofs.Passing.{passes}
use Rattle.nr_walk.proofs.Placing.{exact_cut, exact_under}
use Rattle.nr_walk.proofs.Tops.{many_cut, front_cut, top_leaf, top_parted, top_shared}
use Rattle.nr_parts.proofs.Standing.{map_stands}
use Rattle.nr_parts.proofs.Walks.{IsHeld, AllHeld}

-- the node of some of the keys, those behind its place
pub record IsNodeOf (top : Paths) (s : Stood) : Type 0 where
  pub ps : Paths
  pub below : IsBelow top ps
  pub some : 1 ≤ length ps
  pub exact : behind_all s.place top ≡ ps
  pub is : s.node ≡ top_of ps

abbrev pub AllNodes : Paths → Forest → Type 0
AllNodes top bare = Unit {0}
AllNodes top (tree s below beside) = IsNodeOf top s × AllNodes top below × AllNodes top beside

fronted_nodes : (top : Paths) (place shared : List ℕ) (all : Paths) (s : Stood) (children beside : Forest)
    → front all ≡ shared → IsBelow top all → 2 ≤ length all → behind_all place top ≡ all
    → s.node ≡ branch_of (cut all) → IsNodeOf top s → AllNodes top children → AllNodes top beside
    → AllNodes top (fronted place shared (summary s.node) s children beside)
fronted_nodes top place [] all s children beside e below many exact node here a b = (here, a, b)
fronted_nodes top place (x ∷ xs) all s children beside e below many exact node here a b = (
  record {
    ps = all;
    below = below;
    some = omega (arith, many);
    exact = exact;
    is = ap (λ (n : Node). extension (key_part (x ∷ xs) false) (summary n)) node ∙ sym (top_shared all x xs many e);
  },
  (here, a, tt),
  b,
)

row_nodes : (top : Paths) (f : ℕ → Forest → Forest) → ((n : ℕ) → n < 16 → (others : Forest) → AllNodes top others → AllNodes top (f n others)) → (k n : ℕ) → n + k ≤ 16 → AllNodes top (rows f (range_with_len n k))
row_nodes top f each zero n le = tt
row_nodes top f each (suc k) n le = each n (omega arith) (rows f (range_with_len (n + 1) k)) (row_nodes top f each k (n + 1) (omega arith))

pub forest_nodes : (top : Paths) (depth : ℕ) (place : List ℕ) (ps : Paths) (beside : Forest) → CanStand depth ps → IsBelow top ps → behind_all place top ≡ ps → AllNodes top beside → AllNodes top (forest depth place ps beside)
unfolding forest
forest_nodes top depth place [] beside stands below exact h = h
forest_nodes top depth place (p ∷ []) beside stands below exact h = (record { ps = p ∷ []; below = below; some = omega arith; exact = exact; is = sym (top_leaf p) }, tt, h)
forest_nodes top zero place (p ∷ q ∷ ps) beside stands below exact h = absurd (omega (arith, stands.short.0))
forest_nodes top (suc depth) place (p ∷ q ∷ ps) beside stands below exact h =
    let all = p ∷ q ∷ ps in
    let rest = cut all in
    let here = place ++ front all in
    let stand : CanStand (depth + 1) all = subst (λ n. CanStand n all) (sym (add-one depth)) stands in
    let under_stands : (n : ℕ) → CanStand depth (under n rest) = λ n. stands_under depth n rest (under n rest) refl (stands_behind (depth + 1) all rest (front all) refl refl stand) in
    let many : 2 ≤ length rest = many_cut all (omega arith) in
    let parted : front rest ≡ [] = front_cut all (omega arith) in
    let behind : IsBelow top rest = Behind all below (omega arith) in
    let at : behind_all here top ≡ rest = exact_cut place top all exact in
    let node : branch (value_here rest) (map (λ n. trie depth (under n rest)) sixteen) ≡ branch_of rest = λ i. branch (value_here rest) (map (λ n. any_depth depth (under n rest) (under_stands n) i) sixteen) in
    let each : (n : ℕ) → n < 16 → (others : Forest) → AllNodes top others → AllNodes top (forest depth (here ++ n ∷ []) (under n rest) others) =
    λ n lt others more. forest_nodes top depth (here ++ n ∷ []) (under n rest) others (under_stands n) (Under rest n behind many parted lt) (exact_under here n top rest at) more in
    fronted_nodes top place (front all) all _ _ beside refl below (omega arith) exact node
    (record { ps = rest; below = behind; some = omega (arith, many); exact = at; is = node ∙ sym (top_parted rest many parted) })
    (row_nodes top (λ n others. forest depth (here ++ n ∷ []) (under n rest) others) each 16 0 (omega arith)) h

pub map_nodes : (m : Contents) → AllByRecursion (λ (e : List ℕ × List ℕ). IsBytes e.0) (entries m) → AllNodes (paths (entries m)) (forest_of (entries m))
unfolding forest_of
map_nodes m bytes = forest_nodes (paths (entries m)) (depth (paths (entries m))) [] (paths (entries m)) bare (map_stands m bytes) Top refl tt

-- ---- the texts of a map
walks : (m : Contents) → AllByRecursion (λ (e : List ℕ × List ℕ). IsBytes e.0) (entries m) → CanWalk (paths (entries m))
walks m bytes = walk_whole m (paths (entries m)) refl (map_stands m bytes).small

held_node : (texts : Contents) (root : Hash32) (m : Contents) (s : Stood) → IsOf texts root m → IsNodeOf (paths (entries m)) s → IsHeld texts s
held_node texts root m s given n = record {
  fits = subst Fits (sym n.is) (fitting (entries m) (walks m given.bytes) given.sizes given.few n.ps n.below n.some);
  own = subst (λ (node : Node). IsOwn texts (node_text node)) (sym n.is) (given.agrees.nodes n.ps n.below n.some);
}

pub held_nodes : (texts : Contents) (root : Hash32) (m : Contents) (g : Forest) → IsOf texts root m → AllNodes (paths (entries m)) g → AllHeld texts g
held_nodes texts root m bare given h = tt
held_nodes texts root m (tree s below beside) given h = (held_node texts root m s given h.0, held_nodes texts root m below given h.1, held_nodes texts root m beside given h.2)

pub held_map : (texts : Contents) (root : Hash32) (m : Contents) → IsOf texts root m → AllHeld texts (forest_of (entries m))
held_map texts root m given = held_nodes texts root m (forest_of (entries m)) given (map_nodes m given.bytes)

-- the node's text is held
abbrev pub IsThere : Contents → Stood → Type 0
IsThere texts s = get texts (digest (node_text s.node)).0 ≡ Some (node_text s.node)

pub looked_fine : (texts : Contents) (root : Hash32) (m : Contents) (s : Stood) → IsOf texts root m → IsNodeOf (paths (entries m)) s → IsThere texts s → looked_at texts (spot s.place (digest (node_text s.node))) ≡ Ok s.node
looked_fine texts root m s given n there =
    subst (λ (node : Node). looked_at texts (spot s.place (digest (node_text node))) ≡ Ok node) (sym n.is)
    (passes texts root m s.place n.ps given n.below n.some n.exact (subst (λ (node : Node). get texts (digest (node_text node)).0 ≡ Some (node_text node)) n.is there))
