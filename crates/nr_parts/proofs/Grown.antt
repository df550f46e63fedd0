-- The nodes of a trie as the walk knows them: what stands at the top, that a node's text tells of those below it, and their usage.
use Rattle.std.proofs.Common.{◌≡◌, ◌<◌, ◌≤◌, ◌+◌, ℕ, zero, suc, true, false, List, [], ◌∷◌, ◌++◌, length, map, Option, Some, None, refl, ap, sym, subst, ◌∙◌, arith, append-nil, add-one}
use Rattle.std.specs.Prelude.{sum_by}
use Rattle.std.specs.List.{AllByRecursion, range_with_len}
use Rattle.std.proofs.lemmas.List.Sums.{sum_by-cons}
use Rattle.nr_store.proofs.Orders.{begins_small}
use Rattle.nr_triedef.specs.Node.{IsNibbles, key_part, digest, node_text, usage_of, IsNode, summary, links}
use Rattle.nr_triedef.specs.Root.{Paths, front, behind, under, value_here, value_field, value_usage, part_usage, usage_below, hash_below, leaf, branch, extension, with_front, sixteen, trie}
use Rattle.nr_triedef.specs.declared.node.Node.{Node}
use Rattle.nr_triedef.specs.declared.hash.Summary.{Summary}
use Rattle.nr_triedef.proofs.Parts.{leaf_is_node, extension_is_node}
use Rattle.nr_walk.proofs.Pairs.{part_back}
use Rattle.nr_store.proofs.Links.{front_begins, CanStand, stands_behind, stands_under, two_links}
use Rattle.nr_walk.specs.declared.told.Spot.{Spot}
use Rattle.nr_walk.specs.Told.{ending_of, spots_of, spots_from, spot_at, spot, own_usage}
use Rattle.nr_trielist.specs.Forest.{Stood, Forest, bare, tree, stood, entry_here, fronted, rows, forest}
use Rattle.nr_walk.specs.Walking.{packed}
use Rattle.nr_parts.specs.Offsets.{tops_usage}
use Rattle.nr_parts.specs.Walking.{claim, claim_of}
use Rattle.nr_parts.specs.declared.walking.Claim.{Claim}

-- ---- the nodes at the top
abbrev pub tops : Forest → List Spot
tops bare = []
tops (tree top below beside) = spot top.place (digest (node_text top.node)) ∷ tops beside

abbrev pub top_spots : List ℕ → Option Summary → List Spot
top_spots place None = []
top_spots place (Some s) = spot place s.hash ∷ []

tops_fronted : (place shared : List ℕ) (node : Node) (entry : Option (List ℕ × List ℕ)) (children beside : Forest) → tops (fronted place shared (summary node) (stood (place ++ shared) node entry) children beside) ≡ top_spots place (Some (with_front shared (summary node))) ++ tops beside
tops_fronted place [] node entry children beside = ap (λ (p : List ℕ). spot p (digest (node_text node)) ∷ tops beside) (append-nil place)
tops_fronted place (x ∷ xs) node entry children beside = refl

pub tops_forest : (depth : ℕ) (place : List ℕ) (ps : Paths) (beside : Forest) → tops (forest depth place ps beside) ≡ top_spots place (trie depth ps) ++ tops beside
unfolding forest trie
tops_forest depth place [] beside = refl
tops_forest depth place (p ∷ []) beside = refl
tops_forest zero place (p ∷ q ∷ ps) beside = refl
tops_forest (suc depth) place (p ∷ q ∷ ps) beside = tops_fronted place (front (p ∷ q ∷ ps)) _ _ _ beside

usage_fronted : (place shared : List ℕ) (node : Node) (top : Stood) (children beside : Forest) → top.node ≡ node → tops_usage (fronted place shared (summary node) top children beside) ≡ (with_front shared (summary node)).usage + tops_usage beside
usage_fronted place [] node top children beside is = ap (λ n. usage_of n + tops_usage beside) is
usage_fronted place (x ∷ xs) node top children beside is = refl

pub usage_forest : (depth : ℕ) (place : List ℕ) (ps : Paths) (beside : Forest) → tops_usage (forest depth place ps beside) ≡ usage_below (trie depth ps) + tops_usage beside
unfolding forest trie
usage_forest depth place [] beside = omega arith
usage_forest depth place (p ∷ []) beside = refl
usage_forest zero place (p ∷ q ∷ ps) beside = omega arith
usage_forest (suc depth) place (p ∷ q ∷ ps) beside = usage_fronted place (front (p ∷ q ∷ ps)) _ _ _ beside refl

-- ---- the children of a branch
abbrev pub row_of : ℕ → List ℕ → Paths → ℕ → Forest → Forest
row_of depth here rest n others = forest depth (here ++ n ∷ []) (under n rest) others

spot_top : (here : List ℕ) (n : ℕ) (o : Option Summary) → spot_at here n (hash_below o) ≡ top_spots (here ++ n ∷ []) o
spot_top here n None = refl
spot_top here n (Some s) = refl

tops_rows : (depth : ℕ) (here : List ℕ) (rest : Paths) (k n j : ℕ) → j ≡ n → spots_from here j (map hash_below (map (λ n. trie depth (under n rest)) (range_with_len n k))) ≡ tops (rows (row_of depth here rest) (range_with_len n k))
tops_rows depth here rest zero n j e = refl
tops_rows depth here rest (suc k) n j e =
    let first : spot_at here j (hash_below (trie depth (under n rest))) ≡ top_spots (here ++ n ∷ []) (trie depth (under n rest)) = ap (λ m. spot_at here m (hash_below (trie depth (under n rest)))) e ∙ spot_top here n (trie depth (under n rest)) in
    (λ i. first i ++ tops_rows depth here rest k (n + 1) (suc j) (ap suc e ∙ sym (add-one n)) i)
    ∙ sym (tops_forest depth (here ++ n ∷ []) (under n rest) (rows (row_of depth here rest) (range_with_len (n + 1) k)))

usage_rows : (depth : ℕ) (here : List ℕ) (rest : Paths) (ns : List ℕ) → sum_by usage_below (map (λ n. trie depth (under n rest)) ns) ≡ tops_usage (rows (row_of depth here rest) ns)
usage_rows depth here rest [] = refl
usage_rows depth here rest (n ∷ ns) =
    sum_by-cons usage_below (trie depth (under n rest)) (map (λ n. trie depth (under n rest)) ns)
    ∙ ap (λ u. usage_below (trie depth (under n rest)) + u) (usage_rows depth here rest ns)
    ∙ sym (usage_forest depth (here ++ n ∷ []) (under n rest) (rows (row_of depth here rest) ns))

-- ---- what a node's text tells
abbrev pub claimed : Option (List ℕ × List ℕ) → Option Claim
claimed None = None
claimed (Some e) = Some (claim (packed e.0) (length e.1) (digest e.1))

pub record Fitting (top : Stood) (below : Forest) : Type 0 where
  pub form : IsNode top.node
  pub spots : spots_of top.place top.node ≡ tops below
  pub usage : usage_of top.node ≡ own_usage top.node + tops_usage below
  pub claims : claim_of top.place (ending_of top.node) ≡ claimed top.entry

abbrev pub IsGrown : Forest → Type 0
IsGrown bare = Unit {0}
IsGrown (tree top below beside) = Fitting top below × IsGrown below × IsGrown beside

leaf_fits : (place : List ℕ) (p : List ℕ × List ℕ) → IsNibbles p.0 → Fitting (stood place (leaf p) (Some (place ++ p.0, p.1))) bare
leaf_fits place p small = record {
  form = leaf_is_node p.0 (length p.1) (digest p.1) (part_usage (key_part p.0 true) + value_usage (Some p.1)) small;
  spots = refl;
  usage = omega arith;
  claims = ap (λ (step : List ℕ). Some (claim (packed (place ++ step)) (length p.1) (digest p.1))) (part_back true p.0 small);
}

branch_claims : (here : List ℕ) (value : Option (List ℕ)) (below : List (Option Summary)) → claim_of here (ending_of (branch value below)) ≡ claimed (entry_here here value)
branch_claims here None below = refl
branch_claims here (Some v) below = ap (λ (key : List ℕ). Some (claim (packed key) (length v) (digest v))) (append-nil here)

branch_usage : (value : Option (List ℕ)) (below : List (Option Summary)) (u : ℕ) → sum_by usage_below below ≡ u → usage_of (branch value below) ≡ own_usage (branch value below) + u
branch_usage None below u is = omega (arith, is)
branch_usage (Some v) below u is = omega (arith, is)

abbrev pub branch_at : ℕ → List ℕ → Paths → Stood
branch_at depth here rest = stood here (branch (value_here rest) (map (λ n. trie depth (under n rest)) sixteen)) (entry_here here (value_here rest))

branch_fits : (depth : ℕ) (here : List ℕ) (rest : Paths) → 2 ≤ links (value_field (value_here rest)) (map hash_below (map (λ n. trie depth (under n rest)) sixteen)) → Fitting (branch_at depth here rest) (rows (row_of depth here rest) sixteen)
branch_fits depth here rest linked = record {
  form = linked;
  spots = tops_rows depth here rest 16 0 0 refl;
  usage = branch_usage (value_here rest) (map (λ n. trie depth (under n rest)) sixteen) (tops_usage (rows (row_of depth here rest) sixteen)) (usage_rows depth here rest sixteen);
  claims = branch_claims here (value_here rest) (map (λ n. trie depth (under n rest)) sixteen);
}

extension_fits : (place shared : List ℕ) (top : Stood) (children : Forest) → IsNibbles shared → 0 < length shared → top.place ≡ place ++ shared → Fitting (stood place (extension (key_part shared false) (summary top.node)) None) (tree top children bare)
extension_fits place shared top children small some at = record {
  form = extension_is_node shared (digest (node_text top.node)) (part_usage (key_part shared false) + usage_of top.node) small some;
  spots = ap (λ (key : List ℕ). spot key (digest (node_text top.node)) ∷ []) (ap (λ (step : List ℕ). place ++ step) (part_back false shared small) ∙ sym at);
  usage = omega arith;
  claims = refl;
}

grown_fronted : (place shared : List ℕ) (top : Stood) (children beside : Forest) → IsNibbles shared → top.place ≡ place ++ shared → Fitting top children → IsGrown children → IsGrown beside → IsGrown (fronted place shared (summary top.node) top children beside)
grown_fronted place [] top children beside small at fits below h = (fits, below, h)
grown_fronted place (x ∷ xs) top children beside small at fits below h = (extension_fits place (x ∷ xs) top children small (omega arith) at, (fits, below, tt), h)

grown_rows : (f : ℕ → Forest → Forest) → ((n : ℕ) (others : Forest) → IsGrown others → IsGrown (f n others)) → (ns : List ℕ) → IsGrown (rows f ns)
grown_rows f each [] = tt
grown_rows f each (n ∷ ns) = each n (rows f ns) (grown_rows f each ns)

small_front : (ps : Paths) → AllByRecursion (λ (p : List ℕ × List ℕ). IsNibbles p.0) ps → IsNibbles (front ps)
small_front [] h = λ i. omega arith
small_front (p ∷ ps) h = begins_small (front (p ∷ ps)) p.0 (front_begins (p ∷ ps)).0 h.0

pub grown_forest : (depth : ℕ) (place : List ℕ) (ps : Paths) (beside : Forest) → CanStand depth ps → IsGrown beside → IsGrown (forest depth place ps beside)
unfolding forest
grown_forest depth place [] beside stands h = h
grown_forest depth place (p ∷ []) beside stands h = (leaf_fits place p stands.small.0, tt, h)
grown_forest zero place (p ∷ q ∷ ps) beside stands h = absurd (omega (arith, stands.short.0))
grown_forest (suc depth) place (p ∷ q ∷ ps) beside stands h =
    let all = p ∷ q ∷ ps in
    let rest = behind (length (front all)) all in
    let stand : CanStand (depth + 1) all = subst (λ n. CanStand n all) (sym (add-one depth)) stands in
    let linked = two_links depth all rest (front all) (map (λ n. trie depth (under n rest)) sixteen) (omega arith) refl refl refl stand in
    let each : (n : ℕ) (others : Forest) → IsGrown others → IsGrown (row_of depth (place ++ front all) rest n others) =
    λ n others grown. grown_forest depth ((place ++ front all) ++ n ∷ []) (under n rest) others (stands_under depth n rest (under n rest) refl (stands_behind (depth + 1) all rest (front all) refl refl stand)) grown in
    grown_fronted place (front all) (branch_at depth (place ++ front all) rest) (rows (row_of depth (place ++ front all) rest) sixteen) beside (small_front all stands.small) refl (branch_fits depth (place ++ front all) rest linked) (grown_rows (row_of depth (place ++ front all) rest) each sixteen) h
