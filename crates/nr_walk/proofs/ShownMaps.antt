-- What a walk without a fault shows of each map that agrees with the texts.
use Rattle.std.proofs.Common.{◌≡◌, ◌==◌, ℕ, zero, suc, true, false, cond, List, [], ◌∷◌, ◌++◌, map, Option, Result, Ok, Err, refl, sym, ap, subst, ◌∙◌, append_assoc, arith}
use Rattle.std.specs.Prelude.{replicate, IfOk}
use Rattle.std.specs.List.{AllByRecursion, flat_map}
use Rattle.std.specs.FinMap.{entries}
use Rattle.std.specs.Cmp.Lexicographic.{pointwise}
use Rattle.std.proofs.lemmas.Bool.{eqb-true}
use Rattle.std.proofs.lemmas.List.{append-nil}
use Rattle.nr_bytes.proofs.Basics.{all_both, left_true, right_true}
use Rattle.nr_bytes.specs.Answers.{Gives}
use Rattle.nr_bytes.specs.Numbers.{IsBytes}
use Rattle.nr_bytes.specs.Reading.{◌>>=◌}
use Rattle.nr_ids.specs.declared.key.Hash32.{Hash32}
use Rattle.nr_triedef.specs.Node.{IsNibbles, node_text, digest}
use Rattle.nr_triedef.specs.Root.{Contents, Paths, paths, no_root, summary_of}
use Rattle.nr_triedef.specs.declared.hash.Summary.{Summary}
use Rattle.nr_triedef.specs.declared.node.Node.{Node}
use Rattle.nr_triedef.proofs.Parts.{nibbles_small}
use Rattle.nr_store.specs.Tries.{CanWalk, whole}
use Rattle.nr_store.proofs.Levels.{root_is, whole_none}
use Rattle.nr_store.proofs.Listed.{walk_whole}
use Rattle.nr_walk.specs.declared.fault.WalkFault.{WalkFault}
use Rattle.nr_walk.specs.declared.searched.Searched.{Searched}
use Rattle.nr_walk.specs.declared.told.Spot.{Spot}
use Rattle.nr_walk.specs.declared.walking.Gain.{Gain}
use Rattle.nr_walk.specs.declared.walking.Visit.{Visit}
use Rattle.nr_walk.specs.Searched.{looks}
use Rattle.nr_walk.specs.Texts.{memory_fault}
use Rattle.nr_walk.specs.Told.{spot, option_list}
use Rattle.nr_walk.specs.Looking.{looked_at}
use Rattle.nr_walk.specs.Walking.{entered, passed, visited, walk_from, most_nodes}
use Rattle.nr_walk.specs.Tries.{top_of, IsOwn, Agrees, AreFitting}
use Rattle.nr_walk.specs.Tries.IsBelow.{Top}
use Rattle.nr_walk.specs.Shown.{placed, Shows, IsOf, is_empty_root, walk_of}
use Rattle.nr_walk.proofs.Placing.{placed_none, map-append, flat-append}
use Rattle.nr_walk.proofs.Rows.{Path}
use Rattle.nr_walk.proofs.Showing.{looked, Shows-append}
use Rattle.nr_walk.proofs.Stepping.{Job, spot_of, all_of, IsJob, IsStep, step_beside}
use Rattle.nr_walk.proofs.Entering.{step_entered}
use Rattle.nr_walk.proofs.Fitting.{fitting}
use Rattle.nr_walk.proofs.Tops.{whole_is, top_node}

-- ---- one node
found_node : (r : Result Node WalkFault) (top : Node) (f : Node → Result Visit WalkFault) (visit : Visit) → ((node : Node) → r ≡ Ok node → node ≡ top) → (r >>= f) ≡ Ok visit → f top ≡ Ok visit
found_node (Ok node) top f visit is h = ap f (sym (is node refl)) ∙ h
found_node (Err fault) top f visit is h = absurd cc

pub stepped : (texts : Contents) (searched : List Searched) (top : Paths) (j : Job) (visit : Visit) → Agrees texts top → AreFitting top → IsJob texts top j → visited texts searched (spot_of j) ≡ Ok visit
    → IsStep texts searched top j.place j.ps visit
unfolding visited
stepped texts searched top j visit agrees fits is h =
    let node = top_of j.ps in
    let own : IsOwn texts (node_text node) = agrees.nodes j.ps is.below is.some in
    let g = found_node (looked_at texts (spot_of j)) node (λ n. cond (looks searched j.place) (entered texts searched j.place n) (Ok (passed (spot_of j) n))) visit
    (λ n e. looked texts j.place node n (top_node j.ps is.some is.order) (fits j.ps is.below is.some) own e) h in
    elim (looks searched j.place) as (λ b. looks searched j.place ≡ b → cond b (entered texts searched j.place node) (Ok (passed (spot_of j) node)) ≡ Ok visit → IsStep texts searched top j.place j.ps visit) [
      | true ↦ λ e w. step_entered texts searched top j.place j.ps visit is.below is.some is.order is.values e is.exact w
      | false ↦ λ e w.
          let same : passed (spot_of j) node ≡ visit = cc in
          subst (λ (v : Visit). IsStep texts searched top j.place j.ps v) same (step_beside texts searched top j.place j.ps e is.some is.order is.exact)
    ] refl g

-- ---- all of them
record IsWalked (texts : Contents) (searched : List Searched) (n : ℕ) (spot : Spot) (spots : List Spot) (gains : List Gain) : Type 0 where
  visit : Visit
  more : List Gain
  first : visited texts searched spot ≡ Ok visit
  others : walk_from texts searched n (visit.below ++ spots) ≡ Ok more
  is : gains ≡ option_list visit.gain ++ more

walked_more : (visit : Visit) (r : Result (List Gain) WalkFault) (gains : List Gain) → (r >>= λ more. Ok (option_list visit.gain ++ more)) ≡ Ok gains → (more : List Gain) × ((r ≡ Ok more) × (gains ≡ option_list visit.gain ++ more))
walked_more visit (Ok more) gains h = (more, (refl, cc))
walked_more visit (Err fault) gains h = absurd cc

walked_first : (texts : Contents) (searched : List Searched) (n : ℕ) (spot : Spot) (spots : List Spot) (gains : List Gain) (r : Result Visit WalkFault) → visited texts searched spot ≡ r
    → (do
      visit ← r
      more ← walk_from texts searched n (visit.below ++ spots)
      Ok (option_list visit.gain ++ more)) ≡ Ok gains → IsWalked texts searched n spot spots gains
walked_first texts searched n spot spots gains (Ok visit) e h =
    let m = walked_more visit (walk_from texts searched n (visit.below ++ spots)) gains h in
    record { visit = visit; more = m.0; first = e; others = m.1.0; is = m.1.1 }
walked_first texts searched n spot spots gains (Err fault) e h = absurd cc

is_walked : (texts : Contents) (searched : List Searched) (n : ℕ) (spot : Spot) (spots : List Spot) (gains : List Gain) → walk_from texts searched (suc n) (spot ∷ spots) ≡ Ok gains → IsWalked texts searched n spot spots gains
unfolding walk_from
is_walked texts searched n spot spots gains h = walked_first texts searched n spot spots gains (visited texts searched spot) refl h

nothing_walked : (texts : Contents) (searched : List Searched) (n : ℕ) (gains : List Gain) → walk_from texts searched n [] ≡ Ok gains → gains ≡ []
unfolding walk_from
nothing_walked texts searched n gains h = cc

none_walked : (texts : Contents) (searched : List Searched) (spot : Spot) (spots : List Spot) (gains : List Gain) → walk_from texts searched 0 (spot ∷ spots) ≡ Ok gains → ⊥
unfolding walk_from
none_walked texts searched spot spots gains h = absurd cc

all_shown : (texts : Contents) (searched : List Searched) (top : Paths) → Agrees texts top → AreFitting top → (n : ℕ) (jobs : List Job) (gains : List Gain) → AllByRecursion (IsJob texts top) jobs
    → walk_from texts searched n (map spot_of jobs) ≡ Ok gains → Shows searched top gains (flat_map all_of jobs)
all_shown texts searched top agrees fits n [] gains all h = subst (λ (gs : List Gain). Shows searched top gs []) (sym (nothing_walked texts searched n gains h)) refl
all_shown texts searched top agrees fits zero (j ∷ jobs) gains all h = absurd (none_walked texts searched (spot_of j) (map spot_of jobs) gains h)
all_shown texts searched top agrees fits (suc n) (j ∷ jobs) gains all h =
    let w = is_walked texts searched n (spot_of j) (map spot_of jobs) gains h in
    let s = stepped texts searched top j w.visit agrees fits all.0 w.first in
    let spots : map spot_of (s.jobs ++ jobs) ≡ w.visit.below ++ map spot_of jobs = map-append spot_of s.jobs jobs ∙ ap (λ (xs : List Spot). xs ++ map spot_of jobs) s.spots in
    let behind : Shows searched top w.more (flat_map all_of (s.jobs ++ jobs)) =
    all_shown texts searched top agrees fits n (s.jobs ++ jobs) w.more (all_both (IsJob texts top) s.jobs jobs s.all all.1) (ap (walk_from texts searched n) spots ∙ w.others) in
    let together = Shows-append searched top (option_list w.visit.gain) w.more s.own (flat_map all_of (s.jobs ++ jobs)) s.shows behind in
    let same : s.own ++ flat_map all_of (s.jobs ++ jobs) ≡ all_of j ++ flat_map all_of jobs =
    ap (λ (xs : Paths). s.own ++ xs) (flat-append all_of s.jobs jobs) ∙ sym (append_assoc s.own (flat_map all_of s.jobs) (flat_map all_of jobs)) ∙ ap (λ (xs : Paths). xs ++ flat_map all_of jobs) (sym s.is) in
    subst (λ (gs : List Gain). Shows searched top gs (all_of j ++ flat_map all_of jobs)) (sym w.is) (subst (λ (ps : Paths). Shows searched top (option_list w.visit.gain ++ w.more) ps) same together)

-- ---- from the root on
pub all_nibbles : (es : List (List ℕ × List ℕ)) → AllByRecursion (λ (e : List ℕ × List ℕ). IsBytes e.0) es → AllByRecursion (λ (p : Path). IsNibbles p.0) (paths es)
all_nibbles [] h = tt
all_nibbles (e ∷ es) h = (nibbles_small e.0 h.0, all_nibbles es h.1)

same_bytes : (xs ys : List ℕ) → pointwise ◌==◌ xs ys ≡ true → xs ≡ ys
same_bytes [] [] h = refl
same_bytes [] (y ∷ ys) h = absurd cc
same_bytes (x ∷ xs) [] h = absurd cc
same_bytes (x ∷ xs) (y ∷ ys) h =
    let first = eqb-true x y (left_true (x == y) (pointwise ◌==◌ xs ys) h) in
    let rest = same_bytes xs ys (right_true (x == y) (pointwise ◌==◌ xs ys) h) in
    λ i. first i ∷ rest i

from_top : (texts : Contents) (searched : List Searched) (root : Hash32) (ps : Paths) (gains : List Gain) → CanWalk ps → Agrees texts ps → AreFitting ps → (summary_of (whole ps)).hash ≡ root → is_empty_root root ≡ false
    → walk_from texts searched most_nodes (spot [] root ∷ []) ≡ Ok gains → Shows searched ps gains ps
from_top texts searched root [] gains order agrees fits is some h =
    let zero_root : no_root ≡ root = ap (λ (o : Option Summary). (summary_of o).hash) (sym (whole_none [] refl)) ∙ is in
    let e : is_empty_root root ≡ true = ap is_empty_root (sym zero_root) in
    absurd cc
from_top texts searched root (p ∷ ps) gains order agrees fits is some h =
    let all = p ∷ ps in
    let there : digest (node_text (top_of all)) ≡ root = ap (λ (o : Option Summary). (summary_of o).hash) (sym (whole_is all (omega arith) order)) ∙ is in
    let job : Job = record { place = []; ps = all } in
    let is_job : IsJob texts all job = record { below = Top; some = omega arith; order = order; values = agrees.values; exact = refl } in
    let shown : Shows searched all gains (flat_map all_of (job ∷ [])) =
    all_shown texts searched all agrees fits most_nodes (job ∷ []) gains (is_job, tt) (ap (λ (x : Hash32). walk_from texts searched most_nodes (spot [] x ∷ [])) there ∙ h) in
    subst (λ (qs : Paths). Shows searched all gains qs) (append-nil (placed [] all) ∙ placed_none all) shown

pub map_shown : (texts : Contents) (searched : List Searched) (root : Hash32) (gains : List Gain) → walk_of texts searched root ≡ Ok gains → (m : Contents) → IsOf texts root m → Shows searched (paths (entries m)) gains (paths (entries m))
unfolding walk_of
map_shown texts searched root gains h m is =
    let order : CanWalk (paths (entries m)) = walk_whole m (paths (entries m)) refl (all_nibbles (entries m) is.bytes) in
    let root_hash : (summary_of (whole (paths (entries m)))).hash ≡ root = ap (λ (s : Summary). s.hash) (root_is m (paths (entries m)) (whole (paths (entries m))) refl refl) ∙ is.root_is in
    elim (is_empty_root root) as (λ b. is_empty_root root ≡ b → cond b (Ok []) (walk_from texts searched most_nodes (spot [] root ∷ [])) ≡ Ok gains → Shows searched (paths (entries m)) gains (paths (entries m))) [
      | true ↦ λ e g.
          let none : gains ≡ [] = cc in
          let zeros : root ≡ no_root = ap (λ (bytes : List ℕ). record { 0 = bytes }) (same_bytes root.0 (replicate 32 0) e) in
          subst (λ (gs : List Gain). Shows searched (paths (entries m)) gs (paths (entries m))) (sym none) (ap paths (is.empty_only zeros))
      | false ↦ λ e g. from_top texts searched root (paths (entries m)) gains order is.agrees (fitting (entries m) order is.sizes is.few) root_hash e g
    ] refl h

pub all_maps : (texts : Contents) (searched : List Searched) (root : Hash32) (r : Result (List Gain) WalkFault) → Gives memory_fault r (walk_of texts searched root)
    → IfOk r (λ gains. (m : Contents) → IsOf texts root m → Shows searched (paths (entries m)) gains (paths (entries m)))
all_maps texts searched root (Ok gains) h = map_shown texts searched root gains h
all_maps texts searched root (Err fault) h = tt
