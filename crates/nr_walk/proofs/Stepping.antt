-- What looking at one node shows, with the nodes below it that are to be looked at.
use Rattle.std.proofs.Common.{◌≡◌, ◌==◌, ◌<◌, ◌≤◌, ◌+◌, ◌*◌, ◌-◌, ℕ, true, false, cond, List, [], ◌∷◌, ◌++◌, length, map, refl, sym, ap, subst, ◌∙◌, arith}
use Rattle.std.specs.Prelude.{◌⊎◌, ◌&&◌, nat_le, sum_by}
use Rattle.std.specs.List.{AllByRecursion, flat_map}
use Rattle.std.proofs.lemmas.Bool.{le-leb, ne_eqb}
use Rattle.std.proofs.lemmas.List.{append-nil}
use Rattle.nr_ids.specs.declared.key.Hash32.{Hash32}
use Rattle.nr_triedef.specs.Node.{IsNibbles, key_part, node_text, digest, summary, usage_of}
use Rattle.nr_triedef.specs.Root.{Contents, Paths, front, under, leaf, part_usage}
use Rattle.nr_triedef.specs.declared.node.Node.{Node}
use Rattle.nr_store.specs.Tries.{CanWalk, cut}
use Rattle.nr_store.proofs.Orders.{walk_cut, front_small}
use Rattle.nr_walk.specs.declared.searched.Searched.{Searched}
use Rattle.nr_walk.specs.declared.told.Spot.{Spot}
use Rattle.nr_walk.specs.declared.walking.Known.TheVariants.{Value, Trie}
use Rattle.nr_walk.specs.declared.walking.Kept.{Kept}
use Rattle.nr_walk.specs.declared.walking.Gain.TheVariants.{Beside}
use Rattle.nr_walk.specs.declared.walking.Visit.{Visit}
use Rattle.nr_walk.specs.Searched.{looks}
use Rattle.nr_walk.specs.Told.{spot, option_list}
use Rattle.nr_walk.specs.Walking.{kept, stub_of, passed}
use Rattle.nr_walk.specs.Tries.{branch_of, top_over, top_of, IsBelow, IsOwn}
use Rattle.nr_walk.specs.Shown.{placed, behind_all, IsTrie, Adds, Shows}
use Rattle.nr_walk.proofs.Pairs.{part_back}
use Rattle.nr_walk.proofs.Placing.{placed_cut, apart_all, exact_cut}
use Rattle.nr_walk.proofs.Rows.{Path}
use Rattle.nr_walk.proofs.Searches.{not_found, not_looked}
use Rattle.nr_walk.proofs.Showing.{gains_one, beside_value}
use Rattle.nr_walk.proofs.Tops.{whole_is, many_cut, front_cut, top_parted, top_shared, top_leaf}

-- a place, and the paths of the trie there
pub record Job : Type 0 where
  pub place : List ℕ
  pub ps : Paths

abbrev pub spot_of : Job → Spot
spot_of j = spot j.place (digest (node_text (top_of j.ps)))

abbrev pub all_of : Job → Paths
all_of j = placed j.place j.ps

pub record IsJob (texts : Contents) (top : Paths) (j : Job) : Type 0 where
  pub below : IsBelow top j.ps
  pub some : 1 ≤ length j.ps
  pub order : CanWalk j.ps
  pub values : AllByRecursion (λ (p : Path). IsOwn texts p.1) j.ps
  pub exact : behind_all j.place top ≡ j.ps

-- a child of the node at a place
pub record IsUnder (place : List ℕ) (ps : Paths) (j : Job) : Type 0 where
  pub nibble : ℕ
  pub small : nibble < 16
  pub parted : front ps ≡ []
  pub at : j.place ≡ place ++ nibble ∷ []
  pub there : j.ps ≡ under nibble ps

pub record IsBehind (place : List ℕ) (ps : Paths) (j : Job) : Type 0 where
  pub shared : 1 ≤ length (front ps)
  pub at : j.place ≡ place ++ front ps
  pub there : j.ps ≡ cut ps

abbrev pub IsNext : List Searched → List ℕ → Paths → Job → Type 0
IsNext searched place ps j = (looks searched place ≡ true) × (2 ≤ length ps) × (IsBehind place ps j ⊎ IsUnder place ps j)

-- how many nodes there are at and below a node, at most: three for each path, less three for a branch and two for others
abbrev pub spared : Paths → ℕ
spared ps = cond (nat_le 2 (length ps) && (length (front ps) == 0)) 3 2

abbrev pub weight : Paths → ℕ
weight ps = 3 * length ps - spared ps

abbrev pub job_weight : Job → ℕ
job_weight j = weight j.ps

pub spared_most : (ps : Paths) → 1 ≤ length ps → (2 ≤ spared ps) × (spared ps ≤ 3) × (1 ≤ weight ps)
spared_most [] some = absurd (omega arith)
spared_most (p ∷ []) some = (omega arith, omega arith, omega arith)
spared_most (p ∷ q ∷ ps) some =
    elim (nat_le 2 (length (p ∷ q ∷ ps)) && (length (front (p ∷ q ∷ ps)) == 0)) as (λ b. (2 ≤ cond b 3 2) × (cond b 3 2 ≤ 3) × (1 ≤ 3 * length (p ∷ q ∷ ps) - cond b 3 2)) [
      | true ↦ (omega arith, omega arith, omega arith)
      | false ↦ (omega arith, omega arith, omega arith)
    ]

pub spared_parted : (ps : Paths) → 2 ≤ length ps → front ps ≡ [] → spared ps ≡ 3
spared_parted ps many e =
    ap (λ b. cond (b && (length (front ps) == 0)) 3 2) (le-leb 2 (length ps) many) ∙ ap (λ (k : List ℕ). cond (length k == 0) 3 2) e

pub spared_shared : (ps : Paths) → 2 ≤ length ps → 1 ≤ length (front ps) → spared ps ≡ 2
spared_shared ps many some =
    ap (λ b. cond (b && (length (front ps) == 0)) 3 2) (le-leb 2 (length ps) many) ∙ ap (λ b. cond b 3 2) (ne_eqb (length (front ps)) 0 (λ e. omega arith))

-- a node adds the first of its paths, and the others stand at and below the nodes that are looked at next
pub record IsStep (texts : Contents) (searched : List Searched) (top : Paths) (place : List ℕ) (ps : Paths) (visit : Visit) : Type 0 where
  pub own : Paths
  pub jobs : List Job
  pub spots : map spot_of jobs ≡ visit.below
  pub all : AllByRecursion (IsJob texts top) jobs
  pub shows : Shows searched top (option_list visit.gain) own
  pub is : placed place ps ≡ own ++ flat_map all_of jobs
  pub near : AllByRecursion (IsNext searched place ps) jobs
  pub lighter : sum_by job_weight jobs + 1 ≤ weight ps

-- ---- a node beside the way
kept_at : (searched : List Searched) (top : Paths) (k m : Kept) (ps : Paths) → k ≡ m → Adds searched top (Beside m) ps → Adds searched top (Beside k) ps
kept_at searched top k m ps e h = subst (λ (x : Kept). Adds searched top (Beside x) ps) (sym e) h

kept_leaf : (searched : List Searched) (top : Paths) (place : List ℕ) (hash : Hash32) (p : Path) → looks searched place ≡ false → IsNibbles p.0 → Adds searched top (Beside (stub_of (spot place hash) (leaf p))) (placed place (p ∷ []))
kept_leaf searched top place hash p h small =
    kept_at searched top (stub_of (spot place hash) (leaf p)) (kept (place ++ p.0) (Value (length p.1) (digest p.1))) ((place ++ p.0, p.1) ∷ [])
    (ap (λ (k : List ℕ). kept (place ++ k) (Value (length p.1) (digest p.1))) (part_back true p.0 small)) (beside_value searched top (place ++ p.0) p.1 (not_found searched place p.0 h))

is_trie : (ps : Paths) → 2 ≤ length ps → front ps ≡ [] → CanWalk ps → IsTrie (digest (node_text (top_of ps))) (usage_of (top_of ps)) ps
is_trie ps many e h = record { many = many; parted = e; order = h; whole_is = whole_is ps (omega arith) h }

usage_left : (a b : ℕ) → a + b - a ≡ b
usage_left a b = omega arith

kept_over : (searched : List Searched) (top : Paths) (place : List ℕ) (hash : Hash32) (ps : Paths) (x : ℕ) (xs : List ℕ) → looks searched place ≡ false → 2 ≤ length ps → CanWalk ps → behind_all place top ≡ ps → front ps ≡ x ∷ xs
    → Adds searched top (Beside (stub_of (spot place hash) (top_over (x ∷ xs) (cut ps)))) (placed place ps)
kept_over searched top place hash ps x xs h many order exact e =
    let small : IsNibbles (x ∷ xs) = subst IsNibbles e (front_small ps order) in
    let s = summary (branch_of (cut ps)) in
    let above = part_usage (key_part (x ∷ xs) false) in
    let there : IsTrie s.hash s.usage (cut ps) =
    subst (λ (n : Node). IsTrie (digest (node_text n)) (usage_of n) (cut ps)) (top_parted (cut ps) (many_cut ps many) (front_cut ps (omega arith))) (is_trie (cut ps) (many_cut ps many) (front_cut ps (omega arith)) (walk_cut ps order)) in
    kept_at searched top (stub_of (spot place hash) (top_over (x ∷ xs) (cut ps))) (kept (place ++ x ∷ xs) (Trie s.hash s.usage)) (placed place ps)
    (ap (λ (k : List ℕ). kept (place ++ k) (Trie s.hash (above + s.usage - above))) (part_back false (x ∷ xs) small) ∙ ap (λ (u : ℕ). kept (place ++ x ∷ xs) (Trie s.hash u)) (usage_left above s.usage))
    (record { there = cut ps; is = placed_cut place ps ∙ ap (λ (k : List ℕ). placed (place ++ k) (cut ps)) e; known = there; apart = apart_all searched place h ps; shut = λ t. not_looked searched place (x ∷ xs) h; closed = λ t. ap (λ (k : List ℕ). behind_all (place ++ k) top) (sym e) ∙ exact_cut place top ps exact })

kept_branch : (searched : List Searched) (top : Paths) (place : List ℕ) (ps : Paths) → looks searched place ≡ false → 2 ≤ length ps → CanWalk ps → behind_all place top ≡ ps → front ps ≡ [] → (node : Node) → node ≡ branch_of ps
    → Adds searched top (Beside (stub_of (spot place (digest (node_text (top_of ps)))) node)) (placed place ps)
kept_branch searched top place ps h many order exact e node is =
    let same = top_parted ps many e in
    kept_at searched top (stub_of (spot place (digest (node_text (top_of ps)))) node) (kept place (Trie (digest (node_text (top_of ps))) (usage_of (top_of ps)))) (placed place ps)
    (ap (stub_of (spot place (digest (node_text (top_of ps))))) is ∙ ap (λ (n : Node). kept place (Trie (digest (node_text (top_of ps))) (usage_of n))) (sym same))
    (record { there = ps; is = refl; known = is_trie ps many e order; apart = apart_all searched place h ps; shut = λ t. h; closed = λ t. exact })

kept_several : (searched : List Searched) (top : Paths) (place : List ℕ) (ps : Paths) (shared : List ℕ) → looks searched place ≡ false → 2 ≤ length ps → CanWalk ps → behind_all place top ≡ ps → front ps ≡ shared
    → Adds searched top (Beside (stub_of (spot place (digest (node_text (top_of ps)))) (top_of ps))) (placed place ps)
kept_several searched top place ps [] h many order exact e = kept_branch searched top place ps h many order exact e (top_of ps) (top_parted ps many e)
kept_several searched top place ps (x ∷ xs) h many order exact e =
    let hash = digest (node_text (top_of ps)) in
    subst (λ (n : Node). Adds searched top (Beside (stub_of (spot place hash) n)) (placed place ps)) (sym (top_shared ps x xs many e)) (kept_over searched top place hash ps x xs h many order exact e)

kept_top : (searched : List Searched) (top : Paths) (place : List ℕ) (ps : Paths) → looks searched place ≡ false → 1 ≤ length ps → CanWalk ps → behind_all place top ≡ ps
    → Adds searched top (Beside (stub_of (spot place (digest (node_text (top_of ps)))) (top_of ps))) (placed place ps)
kept_top searched top place [] h some order exact = absurd (omega arith)
kept_top searched top place (p ∷ []) h some order exact =
    let hash = digest (node_text (top_of (p ∷ []))) in
    subst (λ (n : Node). Adds searched top (Beside (stub_of (spot place hash) n)) (placed place (p ∷ []))) (sym (top_leaf p)) (kept_leaf searched top place hash p h order.small.0)
kept_top searched top place (p ∷ q ∷ ps) h some order exact = kept_several searched top place (p ∷ q ∷ ps) (front (p ∷ q ∷ ps)) h (omega arith) order exact refl

pub step_beside : (texts : Contents) (searched : List Searched) (top : Paths) (place : List ℕ) (ps : Paths) → looks searched place ≡ false → 1 ≤ length ps → CanWalk ps → behind_all place top ≡ ps
    → IsStep texts searched top place ps (passed (spot place (digest (node_text (top_of ps)))) (top_of ps))
step_beside texts searched top place ps h some order exact =
    record {
      own = placed place ps;
      jobs = [];
      spots = refl;
      all = tt;
      shows = gains_one searched top _ (Beside (stub_of (spot place (digest (node_text (top_of ps)))) (top_of ps))) (placed place ps) refl (kept_top searched top place ps h some order exact);
      is = sym (append-nil (placed place ps));
      near = tt;
      lighter = let w = spared_most ps some in omega (arith, w.2);
    }
