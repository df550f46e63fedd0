-- A walk over texts that agree with a map, among which are all that it looks at, has no fault.
use Rattle.std.proofs.Common.{◌≡◌, ◌==◌, ◌≤◌, ℕ, zero, suc, Bool, true, false, cond, List, [], ◌∷◌, ◌++◌, length, map, Option, Some, None, Result, Ok, Err, refl, sym, ap, subst, ◌∙◌, arith, inl, inr, eq-eqb}
use Rattle.std.specs.Prelude.{sum_by}
use Rattle.std.specs.List.{AllByRecursion}
use Rattle.std.specs.FinMap.{get, entries}
use Rattle.std.proofs.lemmas.Bool.{eqb-true}
use Rattle.std.proofs.lemmas.List.Sums.{sum_by-cons, sum_by-append}
use Rattle.nr_bytes.proofs.Basics.{all_both}
use Rattle.nr_bytes.specs.Reading.{◌>>=◌}
use Rattle.nr_ids.specs.declared.key.Hash32.{Hash32}
use Rattle.nr_triedef.specs.Node.{digest, node_text, key_part, usage_of}
use Rattle.nr_triedef.specs.Root.{Contents, Paths, paths, front, under, value_here, value_field, hash_below, summary_of, no_root}
use Rattle.nr_triedef.specs.declared.hash.Summary.{Summary}
use Rattle.nr_triedef.specs.declared.node.Node.{Node}
use Rattle.nr_triedef.specs.declared.node.Node.TheVariants.{Branch}
use Rattle.nr_store.specs.Tries.{CanWalk, cut, whole}
use Rattle.nr_store.proofs.Levels.{root_is, whole_none}
use Rattle.nr_store.proofs.Listed.{walk_whole}
use Rattle.nr_walk.specs.declared.fault.WalkFault.{WalkFault}
use Rattle.nr_walk.specs.declared.fault.WalkFault.TheVariants.{BadText}
use Rattle.nr_walk.specs.declared.searched.Searched.{Searched}
use Rattle.nr_walk.specs.declared.told.Spot.{Spot}
use Rattle.nr_walk.specs.declared.walking.Known.TheVariants.{Value}
use Rattle.nr_walk.specs.declared.walking.Gain.{Gain}
use Rattle.nr_walk.specs.declared.walking.Gain.TheVariants.{Found, Beside}
use Rattle.nr_walk.specs.declared.walking.Visit.{Visit}
use Rattle.nr_walk.specs.Searched.{looks, finds}
use Rattle.nr_walk.specs.Texts.{text_at, text_or_missing}
use Rattle.nr_walk.specs.Told.{spot, spots_of, ending_of, ending_with, part_nibbles, option_list}
use Rattle.nr_walk.specs.Looking.{value_text}
use Rattle.nr_walk.specs.Looked.{IsLooked, Holds}
use Rattle.nr_walk.specs.Looked.IsLooked.{First, Next, Child}
use Rattle.nr_walk.specs.Walking.{kept, entry, packed, found_at, ended, entered, passed, visited, walk_from, most_nodes}
use Rattle.nr_walk.specs.Tries.{children, branch_of, top_of}
use Rattle.nr_walk.specs.Tries.IsBelow.{Top}
use Rattle.nr_walk.specs.Shown.{behind_all, IsOf, is_empty_root, walk_of}
use Rattle.nr_walk.proofs.Fitting.{fitting}
use Rattle.nr_walk.proofs.Pairs.{part_back}
use Rattle.nr_walk.proofs.Passing.{passes}
use Rattle.nr_walk.proofs.Placing.{map-append}
use Rattle.nr_walk.proofs.Rows.{Path}
use Rattle.nr_walk.proofs.ShownMaps.{all_nibbles, stepped}
use Rattle.nr_walk.proofs.Stepping.{Job, spot_of, IsJob, IsNext, job_weight, spared_most}
use Rattle.nr_walk.proofs.Tops.{whole_is, top_leaf, top_parted, top_shared}
use Rattle.nr_walk.proofs.Walks.{after, one_more, none_waits}

-- ---- values
pairs_under : (P : List ℕ → List ℕ → Type 0) (n : ℕ) (ps : Paths) → AllByRecursion (λ (p : Path). P p.0 p.1) ps → AllByRecursion (λ (p : Path). P (n ∷ p.0) p.1) (under n ps)
pairs_under P n [] h = tt
pairs_under P n (([], v) ∷ ps) h = pairs_under P n ps h.1
pairs_under P n ((x ∷ k, v) ∷ ps) h =
    elim (x == n) as (λ b. (x == n) ≡ b → AllByRecursion (λ (p : Path). P (n ∷ p.0) p.1) (cond b ((k, v) ∷ under n ps) (under n ps))) [
      | true ↦ λ e. (subst (λ (y : ℕ). P (y ∷ k) v) (eqb-true x n e) h.0, pairs_under P n ps h.1)
      | false ↦ λ e. pairs_under P n ps h.1
    ] refl

pairs_at : (P : List ℕ → List ℕ → Type 0) (place : List ℕ) (ps : Paths) → AllByRecursion (λ (p : Path). P p.0 p.1) ps → AllByRecursion (λ (p : Path). P (place ++ p.0) p.1) (behind_all place ps)
pairs_at P [] ps h = h
pairs_at P (x ∷ place) ps h = pairs_at (λ k v. P (x ∷ k) v) place (under x ps) (pairs_under P x ps h)

abbrev IsHeld : Contents → List Searched → List ℕ → List ℕ → Type 0
IsHeld texts searched path value = finds searched path ≡ true → get texts (digest value).0 ≡ Some value

value_ok : (texts : Contents) (value : List ℕ) → get texts (digest value).0 ≡ Some value → value_text texts (length value) (digest value) ≡ Ok value
unfolding value_text text_at
value_ok texts value h =
    let hash = digest value in
    let f : Option (List ℕ) → Result (List ℕ) WalkFault = λ o. (do
      text ← text_or_missing hash o
      cond (length text == length value) (Ok text) (Err (BadText hash))) in
    ap f h ∙ ap (λ b. cond b (Ok value) (Err (BadText hash))) (eq-eqb (length value) (length value) refl)

ended_ok : (texts : Contents) (searched : List Searched) (place step value : List ℕ) → IsHeld texts searched (place ++ step) value → (gain : Option Gain) × (ended texts searched place (Some (ending_with step (length value) (digest value))) ≡ Ok gain)
ended_ok texts searched place step value h =
    elim (finds searched (place ++ step)) as (λ b. finds searched (place ++ step) ≡ b → (gain : Option Gain) × (cond b (found_at texts (place ++ step) (ending_with step (length value) (digest value))) (Ok (Some (Beside (kept (place ++ step) (Value (length value) (digest value)))))) ≡ Ok gain)) [
      | true ↦ λ e. (Some (Found (entry (packed (place ++ step)) value)), ap (λ (r : Result (List ℕ) WalkFault). r >>= λ text. Ok (Some (Found (entry (packed (place ++ step)) text)))) (value_ok texts value (h e)))
      | false ↦ λ e. (Some (Beside (kept (place ++ step) (Value (length value) (digest value)))), refl)
    ] refl

branch_ok : (texts : Contents) (searched : List Searched) (place : List ℕ) (ps : Paths) (value : Option (List ℕ)) (hashes : List (Option Hash32)) (usage : ℕ) → AllByRecursion (λ (p : Path). IsHeld texts searched (place ++ p.0) p.1) ps → value_here ps ≡ value
    → (gain : Option Gain) × (ended texts searched place (ending_of (Branch (value_field value) hashes usage)) ≡ Ok gain)
branch_ok texts searched place ps None hashes usage h e = (None, refl)
branch_ok texts searched place [] (Some v) hashes usage h e = absurd cc
branch_ok texts searched place (([], w) ∷ ps) (Some v) hashes usage h e = let same : w ≡ v = cc in ended_ok texts searched place [] v (subst (λ (u : List ℕ). IsHeld texts searched (place ++ []) u) same h.0)
branch_ok texts searched place ((x ∷ k, w) ∷ ps) (Some v) hashes usage h e = branch_ok texts searched place ps (Some v) hashes usage h.1 e

several_ok : (texts : Contents) (searched : List Searched) (place : List ℕ) (ps : Paths) (shared : List ℕ) → 2 ≤ length ps → front ps ≡ shared → AllByRecursion (λ (p : Path). IsHeld texts searched (place ++ p.0) p.1) ps
    → (gain : Option Gain) × (ended texts searched place (ending_of (top_of ps)) ≡ Ok gain)
several_ok texts searched place ps [] many e h =
    let b = branch_ok texts searched place ps (value_here ps) (map hash_below (children ps)) (usage_of (branch_of ps)) h refl in
    (b.0, ap (λ (n : Node). ended texts searched place (ending_of n)) (top_parted ps many e) ∙ b.1)
several_ok texts searched place ps (x ∷ xs) many e h = (None, ap (λ (n : Node). ended texts searched place (ending_of n)) (top_shared ps x xs many e))

top_ok : (texts : Contents) (searched : List Searched) (place : List ℕ) (ps : Paths) → 1 ≤ length ps → CanWalk ps → AllByRecursion (λ (p : Path). IsHeld texts searched (place ++ p.0) p.1) ps
    → (gain : Option Gain) × (ended texts searched place (ending_of (top_of ps)) ≡ Ok gain)
top_ok texts searched place [] some order h = absurd (omega arith)
top_ok texts searched place (p ∷ []) some order h =
    let step = part_nibbles (key_part p.0 true) in
    let one = ended_ok texts searched place step p.1 (subst (λ (k : List ℕ). IsHeld texts searched (place ++ k) p.1) (sym (part_back true p.0 order.small.0)) h.0) in
    (one.0, ap (λ (n : Node). ended texts searched place (ending_of n)) (top_leaf p) ∙ one.1)
top_ok texts searched place (p ∷ q ∷ ps) some order h = several_ok texts searched place (p ∷ q ∷ ps) (front (p ∷ q ∷ ps)) (omega arith) refl h

-- ---- one node
record IsLookedJob (texts : Contents) (searched : List Searched) (top : Paths) (j : Job) : Type 0 where
  job : IsJob texts top j
  looked : IsLooked searched top j.place j.ps

moved : (searched : List Searched) (top : Paths) (a b : List ℕ) (ps qs : Paths) → a ≡ b → ps ≡ qs → IsLooked searched top b qs → IsLooked searched top a ps
moved searched top a b ps qs e f h = subst (λ (k : List ℕ). IsLooked searched top k ps) (sym e) (subst (λ (rs : Paths). IsLooked searched top b rs) (sym f) h)

next_looked : (searched : List Searched) (top : Paths) (place : List ℕ) (ps : Paths) (j : Job) → IsLooked searched top place ps → IsNext searched place ps j → IsLooked searched top j.place j.ps
next_looked searched top place ps j l n =
    elim (n.2) [
      | inl b ↦ moved searched top j.place (place ++ front ps) j.ps (cut ps) b.at b.there (Next place ps l n.0 n.1 b.shared)
      | inr u ↦ moved searched top j.place (place ++ u.nibble ∷ []) j.ps (under u.nibble ps) u.at u.there (Child place ps u.nibble l n.0 n.1 u.parted u.small)
    ]

all_next : (texts : Contents) (searched : List Searched) (top : Paths) (place : List ℕ) (ps : Paths) (jobs : List Job) → IsLooked searched top place ps → AllByRecursion (IsJob texts top) jobs → AllByRecursion (IsNext searched place ps) jobs
    → AllByRecursion (IsLookedJob texts searched top) jobs
all_next texts searched top place ps [] l h n = tt
all_next texts searched top place ps (j ∷ jobs) l h n = (record { job = h.0; looked = next_looked searched top place ps j l n.0 }, all_next texts searched top place ps jobs l h.1 n.1)

visit_ok : (texts : Contents) (searched : List Searched) (root : Hash32) (m : Contents) (j : Job) → IsOf texts root m → Holds texts searched (paths (entries m)) → IsLookedJob texts searched (paths (entries m)) j
    → (visit : Visit) × (visited texts searched (spot_of j) ≡ Ok visit)
unfolding visited
visit_ok texts searched root m j is holds l =
    let top = paths (entries m) in
    let node = top_of j.ps in
    let look = passes texts root m j.place j.ps is l.job.below l.job.some l.job.exact (holds.nodes j.place j.ps l.looked l.job.some) in
    let values : AllByRecursion (λ (p : Path). IsHeld texts searched (j.place ++ p.0) p.1) j.ps =
    subst (λ (qs : Paths). AllByRecursion (λ (p : Path). IsHeld texts searched (j.place ++ p.0) p.1) qs) l.job.exact (pairs_at (IsHeld texts searched) j.place top holds.values) in
    let gain = top_ok texts searched j.place j.ps l.job.some l.job.order values in
    let f : Result Node WalkFault → Result Visit WalkFault = λ r. (do
      n ← r
      cond (looks searched j.place) (entered texts searched j.place n) (Ok (passed (spot_of j) n))) in
    let enter : entered texts searched j.place node ≡ Ok (record { gain = gain.0; below = spots_of j.place node }) =
    ap (λ (r : Result (Option Gain) WalkFault). r >>= λ g. Ok (record { gain = g; below = spots_of j.place node })) gain.1 in
    let each : (b : Bool) → (visit : Visit) × (cond b (entered texts searched j.place node) (Ok (passed (spot_of j) node)) ≡ Ok visit) =
    λ b. elim b as (λ c. (visit : Visit) × (cond c (entered texts searched j.place node) (Ok (passed (spot_of j) node)) ≡ Ok visit)) [
      | true ↦ (record { gain = gain.0; below = spots_of j.place node }, enter)
      | false ↦ (passed (spot_of j) node, refl)
    ] in
    let v = each (looks searched j.place) in
    (v.0, ap f look ∙ v.1)

-- ---- all of them
all_pass : (texts : Contents) (searched : List Searched) (root : Hash32) (m : Contents) → IsOf texts root m → Holds texts searched (paths (entries m)) → (n : ℕ) (jobs : List Job) → AllByRecursion (IsLookedJob texts searched (paths (entries m))) jobs
    → sum_by job_weight jobs ≤ n → (gains : List Gain) × (walk_from texts searched n (map spot_of jobs) ≡ Ok gains)
all_pass texts searched root m is holds n [] all few = ([], none_waits texts searched n)
all_pass texts searched root m is holds zero (j ∷ jobs) all few =
    let w = spared_most j.ps all.0.job.some in absurd (omega (arith, w.2, sum_by-cons job_weight j jobs))
all_pass texts searched root m is holds (suc n) (j ∷ jobs) all few =
    let top = paths (entries m) in
    let order : CanWalk top = walk_whole m top refl (all_nibbles (entries m) is.bytes) in
    let v = visit_ok texts searched root m j is holds all.0 in
    let s = stepped texts searched top j v.0 is.agrees (fitting (entries m) order is.sizes is.few) all.0.job v.1 in
    let looked = all_both (IsLookedJob texts searched top) s.jobs jobs (all_next texts searched top j.place j.ps s.jobs all.0.looked s.all s.near) all.1 in
    let lighter : sum_by job_weight (s.jobs ++ jobs) ≤ n = omega (arith, s.lighter, sum_by-append job_weight s.jobs jobs, sum_by-cons job_weight j jobs) in
    let more = all_pass texts searched root m is holds n (s.jobs ++ jobs) looked lighter in
    let spots : map spot_of (s.jobs ++ jobs) ≡ v.0.below ++ map spot_of jobs = map-append spot_of s.jobs jobs ∙ ap (λ (xs : List Spot). xs ++ map spot_of jobs) s.spots in (
      option_list v.0.gain ++ more.0,
      one_more texts searched n (spot_of j) (map spot_of jobs) v.0 v.1 ∙ ap (λ (xs : List Spot). after (option_list v.0.gain) (walk_from texts searched n xs)) (sym spots) ∙ ap (after (option_list v.0.gain)) more.1,
    )

length_paths : (es : List (List ℕ × List ℕ)) → length (paths es) ≡ length es
length_paths [] = refl
length_paths (e ∷ es) = ap suc (length_paths es)

from_top : (texts : Contents) (searched : List Searched) (root : Hash32) (m : Contents) (ps : Paths) → ps ≡ paths (entries m) → IsOf texts root m → Holds texts searched (paths (entries m)) → is_empty_root root ≡ false
    → (gains : List Gain) × (walk_from texts searched most_nodes (spot [] root ∷ []) ≡ Ok gains)
from_top texts searched root m [] e is holds some =
    let hash : (summary_of (whole (paths (entries m)))).hash ≡ root = ap (λ (s : Summary). s.hash) (root_is m (paths (entries m)) (whole (paths (entries m))) refl refl) ∙ is.root_is in
    let zero_root : no_root ≡ root = ap (λ (o : Option Summary). (summary_of o).hash) (sym (whole_none [] refl)) ∙ ap (λ (qs : Paths). (summary_of (whole qs)).hash) e ∙ hash in
    let t : is_empty_root root ≡ true = ap is_empty_root (sym zero_root) in
    absurd cc
from_top texts searched root m (p ∷ ps) e is holds some =
    let top = paths (entries m) in
    let long : 1 ≤ length top = subst (λ (qs : Paths). 1 ≤ length qs) e (omega arith) in
    let order : CanWalk top = walk_whole m top refl (all_nibbles (entries m) is.bytes) in
    let hash : (summary_of (whole top)).hash ≡ root = ap (λ (s : Summary). s.hash) (root_is m top (whole top) refl refl) ∙ is.root_is in
    let there : digest (node_text (top_of top)) ≡ root = ap (λ (o : Option Summary). (summary_of o).hash) (sym (whole_is top long order)) ∙ hash in
    let job : Job = record { place = []; ps = top } in
    let is_job : IsLookedJob texts searched top job = record { job = record { below = Top; some = long; order = order; values = is.agrees.values; exact = refl }; looked = First } in
    let w = spared_most top long in
    let few : sum_by job_weight (job ∷ []) ≤ most_nodes = omega (arith, sum_by-cons job_weight job [], is.few, length_paths (entries m)) in
    let r = all_pass texts searched root m is holds most_nodes (job ∷ []) (is_job, tt) few in
    (r.0, ap (λ (x : Hash32). walk_from texts searched most_nodes (spot [] x ∷ [])) (sym there) ∙ r.1)

pub completes : (texts : Contents) (searched : List Searched) (root : Hash32) (m : Contents) → IsOf texts root m → Holds texts searched (paths (entries m)) → (gains : List Gain) × (walk_of texts searched root ≡ Ok gains)
unfolding walk_of
completes texts searched root m is holds =
    elim (is_empty_root root) as (λ b. is_empty_root root ≡ b → (gains : List Gain) × (cond b (Ok []) (walk_from texts searched most_nodes (spot [] root ∷ [])) ≡ Ok gains)) [
      | true ↦ λ e. ([], refl)
      | false ↦ λ e. from_top texts searched root m (paths (entries m)) refl is holds e
    ] refl
