-- A node that is looked at for itself: its value, and all its children.
use Rattle.std.proofs.Common.{◌≡◌, ◌==◌, ◌<◌, ◌≤◌, ◌+◌, ◌*◌, ℕ, zero, suc, true, false, cond, List, [], ◌∷◌, ◌++◌, length, map, Option, Some, None, Result, Ok, Err, refl, sym, ap, subst, ◌∙◌, arith, inl, inr, length-append}
use Rattle.std.specs.Prelude.{is_some, count_by, sum_by}
use Rattle.std.specs.List.{AllByRecursion, flat_map}
use Rattle.std.proofs.lemmas.List.Sums.{sum_by-cons, sum_by-append}
use Rattle.std.proofs.lemmas.List.{append-nil}
use Rattle.nr_bytes.proofs.Basics.{all_both}
use Rattle.nr_bytes.specs.Reading.{◌>>=◌}
use Rattle.nr_ids.specs.declared.key.Hash32.{Hash32}
use Rattle.nr_triedef.specs.Node.{IsNibbles, key_part, node_text, digest, summary, links}
use Rattle.nr_triedef.specs.Root.{Contents, Paths, front, behind, under, value_here, value_field, leaf, hash_below}
use Rattle.nr_triedef.specs.declared.hash.Summary.{Summary}
use Rattle.nr_triedef.specs.declared.node.Node.{Node}
use Rattle.nr_triedef.specs.declared.node.Node.TheVariants.{Branch}
use Rattle.nr_store.specs.Tries.{CanWalk, cut, whole}
use Rattle.nr_store.proofs.Levels.{whole_none, links_of_two}
use Rattle.nr_store.proofs.Links.{length_behind}
use Rattle.nr_store.proofs.Orders.{walk_cut, walk_under, front_small, behind_none}
use Rattle.nr_walk.specs.declared.fault.WalkFault.{WalkFault}
use Rattle.nr_walk.specs.declared.searched.Searched.{Searched}
use Rattle.nr_walk.specs.declared.told.Spot.{Spot}
use Rattle.nr_walk.specs.declared.walking.Gain.{Gain}
use Rattle.nr_walk.specs.declared.walking.Visit.{Visit}
use Rattle.nr_walk.specs.Searched.{looks}
use Rattle.nr_walk.specs.Told.{spot, spot_at, spots_from, spots_of, ending_of, ending_with, part_nibbles, option_list}
use Rattle.nr_walk.specs.Walking.{ended, entered}
use Rattle.nr_walk.specs.Tries.{children, branch_of, top_over, top_of, IsBelow, IsOwn}
use Rattle.nr_walk.specs.Tries.IsBelow.{Behind, Under}
use Rattle.nr_walk.specs.Shown.{placed, behind_all, Shows}
use Rattle.nr_walk.proofs.Pairs.{part_back}
use Rattle.nr_walk.proofs.Placing.{placed_placed, placed-append, placed_cut, map-append, flat-append, values_behind, exact_cut, exact_under}
use Rattle.nr_walk.proofs.Rows.{Path, rows, own_value, rows_all}
use Rattle.nr_walk.proofs.Showing.{gains_none, value_shown}
use Rattle.nr_walk.proofs.Stepping.{Job, spot_of, all_of, IsJob, IsStep, IsNext, job_weight, weight, spared_most, spared_parted, spared_shared}
use Rattle.nr_walk.proofs.Fitting.{counted_hashes, length_placed}
use Rattle.nr_walk.proofs.Tops.{whole_is, many_cut, front_cut, top_parted, top_shared, top_leaf}

-- ---- the children of a branch
abbrev job_at : List ℕ → ℕ → Paths → List Job
job_at place n [] = []
job_at place n (p ∷ qs) = record { place = place ++ n ∷ []; ps = p ∷ qs } ∷ []

abbrev jobs_from : List ℕ → Paths → ℕ → ℕ → List Job
jobs_from place ps n zero = []
jobs_from place ps n (suc c) = job_at place n (under n ps) ++ jobs_from place ps (suc n) c

abbrev row : Paths → ℕ → ℕ → List (Option Summary)
row ps n zero = []
row ps n (suc c) = whole (under n ps) ∷ row ps (suc n) c

spot_one : (place : List ℕ) (n : ℕ) (qs : Paths) → CanWalk qs → map spot_of (job_at place n qs) ≡ spot_at place n (hash_below (whole qs))
spot_one place n [] h = sym (ap (λ (o : Option Summary). spot_at place n (hash_below o)) (whole_none [] refl))
spot_one place n (p ∷ qs) h = sym (ap (λ (o : Option Summary). spot_at place n (hash_below o)) (whole_is (p ∷ qs) (omega arith) h))

spots_are : (place : List ℕ) (ps : Paths) (n c : ℕ) → CanWalk ps → map spot_of (jobs_from place ps n c) ≡ spots_from place n (map hash_below (row ps n c))
spots_are place ps n zero h = refl
spots_are place ps n (suc c) h =
    map-append spot_of (job_at place n (under n ps)) (jobs_from place ps (suc n) c)
    ∙ ap (λ (xs : List Spot). xs ++ map spot_of (jobs_from place ps (suc n) c)) (spot_one place n (under n ps) (walk_under n ps h))
    ∙ ap (λ (xs : List Spot). spot_at place n (hash_below (whole (under n ps))) ++ xs) (spots_are place ps (suc n) c h)

paths_one : (place : List ℕ) (n : ℕ) (qs : Paths) → flat_map all_of (job_at place n qs) ≡ placed place (placed (n ∷ []) qs)
paths_one place n [] = refl
paths_one place n (p ∷ qs) = append-nil (placed (place ++ n ∷ []) (p ∷ qs)) ∙ sym (placed_placed place (n ∷ []) (p ∷ qs))

paths_are : (place : List ℕ) (ps : Paths) (n c : ℕ) → flat_map all_of (jobs_from place ps n c) ≡ placed place (rows n c ps)
paths_are place ps n zero = refl
paths_are place ps n (suc c) =
    flat-append all_of (job_at place n (under n ps)) (jobs_from place ps (suc n) c)
    ∙ ap (λ (xs : Paths). xs ++ flat_map all_of (jobs_from place ps (suc n) c)) (paths_one place n (under n ps))
    ∙ ap (λ (xs : Paths). placed place (placed (n ∷ []) (under n ps)) ++ xs) (paths_are place ps (suc n) c)
    ∙ sym (placed-append place (placed (n ∷ []) (under n ps)) (rows (suc n) c ps))

job_one : (texts : Contents) (top : Paths) (place : List ℕ) (n : ℕ) (qs : Paths) → IsBelow top qs → CanWalk qs → AllByRecursion (λ (p : Path). IsOwn texts p.1) qs → behind_all (place ++ n ∷ []) top ≡ qs → AllByRecursion (IsJob texts top) (job_at place n qs)
job_one texts top place n [] b h v e = tt
job_one texts top place n (p ∷ qs) b h v e = (record { below = b; some = omega arith; order = h; values = v; exact = e }, tt)

values_under : (V : List ℕ → Type 0) (n : ℕ) (ps : Paths) → AllByRecursion (λ (p : Path). V p.1) ps → AllByRecursion (λ (p : Path). V p.1) (under n ps)
values_under V n [] h = tt
values_under V n (([], v) ∷ ps) h = values_under V n ps h.1
values_under V n ((x ∷ k, v) ∷ ps) h =
    elim (x == n) as (λ b. AllByRecursion (λ (p : Path). V p.1) (cond b ((k, v) ∷ under n ps) (under n ps))) [ true ↦ (h.0, values_under V n ps h.1) | false ↦ values_under V n ps h.1 ]

jobs_are : (texts : Contents) (top : Paths) (place : List ℕ) (ps : Paths) (n c : ℕ) → n + c ≡ 16 → IsBelow top ps → 2 ≤ length ps → front ps ≡ [] → CanWalk ps → AllByRecursion (λ (p : Path). IsOwn texts p.1) ps → behind_all place top ≡ ps
    → AllByRecursion (IsJob texts top) (jobs_from place ps n c)
jobs_are texts top place ps n zero e b many f h v x = tt
jobs_are texts top place ps n (suc c) e b many f h v x =
    all_both (IsJob texts top) (job_at place n (under n ps)) (jobs_from place ps (suc n) c)
    (job_one texts top place n (under n ps) (Under ps n b many f (omega arith)) (walk_under n ps h) (values_under (IsOwn texts) n ps v) (exact_under place n top ps x))
    (jobs_are texts top place ps (suc n) c (omega arith) b many f h v x)

near_one : (searched : List Searched) (place : List ℕ) (ps : Paths) (n : ℕ) (qs : Paths) → qs ≡ under n ps → n < 16 → looks searched place ≡ true → 2 ≤ length ps → front ps ≡ [] → AllByRecursion (IsNext searched place ps) (job_at place n qs)
near_one searched place ps n [] is lt l many e = tt
near_one searched place ps n (p ∷ qs) is lt l many e = ((l, many, inr (record { nibble = n; small = lt; parted = e; at = refl; there = is })), tt)

jobs_near : (searched : List Searched) (place : List ℕ) (ps : Paths) (n c : ℕ) → n + c ≡ 16 → looks searched place ≡ true → 2 ≤ length ps → front ps ≡ [] → AllByRecursion (IsNext searched place ps) (jobs_from place ps n c)
jobs_near searched place ps n zero s l many e = tt
jobs_near searched place ps n (suc c) s l many e =
    all_both (IsNext searched place ps) (job_at place n (under n ps)) (jobs_from place ps (suc n) c) (near_one searched place ps n (under n ps) refl (omega arith) l many e) (jobs_near searched place ps (suc n) c (omega arith) l many e)

light_one : (place : List ℕ) (n : ℕ) (qs : Paths) → CanWalk qs → sum_by job_weight (job_at place n qs) + 2 * cond (is_some (whole qs)) 1 0 ≤ 3 * length qs
light_one place n [] h = subst (λ (o : Option Summary). sum_by job_weight (job_at place n []) + 2 * cond (is_some o) 1 0 ≤ 0) (sym (whole_none [] refl)) (omega arith)
light_one place n (p ∷ qs) h =
    let w = spared_most (p ∷ qs) (omega arith) in
    subst (λ (o : Option Summary). sum_by job_weight (job_at place n (p ∷ qs)) + 2 * cond (is_some o) 1 0 ≤ 3 * length (p ∷ qs)) (sym (whole_is (p ∷ qs) (omega arith) h))
    (omega (arith, w.0, sum_by-cons job_weight (record { place = place ++ n ∷ []; ps = p ∷ qs }) []))

light_row : (place : List ℕ) (ps : Paths) (n c : ℕ) → CanWalk ps → sum_by job_weight (jobs_from place ps n c) + 2 * count_by is_some (row ps n c) ≤ 3 * length (rows n c ps)
light_row place ps n zero h = omega arith
light_row place ps n (suc c) h =
    omega (
      arith,
      light_one place n (under n ps) (walk_under n ps h),
      light_row place ps (suc n) c h,
      sum_by-append job_weight (job_at place n (under n ps)) (jobs_from place ps (suc n) c),
      sum_by-cons (λ (o : Option Summary). cond (is_some o) 1 0) (whole (under n ps)) (row ps (suc n) c),
      length-append (placed (n ∷ []) (under n ps)) (rows (suc n) c ps),
      length_placed (n ∷ []) (under n ps),
    )

value_one : (value : Option (List ℕ)) → length (own_value value) ≡ cond (is_some (value_field value)) 1 0
value_one None = refl
value_one (Some v) = refl

branch_lighter : (place : List ℕ) (ps : Paths) → 2 ≤ length ps → front ps ≡ [] → CanWalk ps → sum_by job_weight (jobs_from place ps 0 16) + 1 ≤ weight ps
branch_lighter place ps many e h =
    let rest : cut ps ≡ ps = ap (λ (s : List ℕ). behind (length s) ps) e ∙ behind_none ps in
    let two : 2 ≤ links (value_field (value_here ps)) (map hash_below (children ps)) = links_of_two ps ps (children ps) many h (sym rest) refl in
    let counts = counted_hashes (children ps) in
    let light = light_row place ps 0 16 h in
    let value = value_one (value_here ps) in
    let sum : length (own_value (value_here ps)) + length (rows 0 16 ps) ≡ length ps = sym (length-append (own_value (value_here ps)) (rows 0 16 ps)) ∙ ap length (rows_all ps h) in
    omega (arith, spared_parted ps many e)

value_own : (V : List ℕ → Type 0) (ps : Paths) (v : List ℕ) → AllByRecursion (λ (p : Path). V p.1) ps → value_here ps ≡ Some v → V v
value_own V [] v h e = absurd cc
value_own V (([], w) ∷ ps) v h e = let same : w ≡ v = cc in subst V same h.0
value_own V ((x ∷ k, w) ∷ ps) v h e = value_own V ps v h.1 e

-- ---- what is gained, and what is next
record IsVisit (r : Result (Option Gain) WalkFault) (below : List Spot) (visit : Visit) : Type 0 where
  gain : Option Gain
  given : r ≡ Ok gain
  is : visit ≡ record { gain = gain; below = below }

is_visit : (r : Result (Option Gain) WalkFault) (below : List Spot) (visit : Visit) → (r >>= λ gain. Ok (record { gain = gain; below = below })) ≡ Ok visit → IsVisit r below visit
is_visit (Ok gain) below visit h = record { gain = gain; given = refl; is = cc }
is_visit (Err fault) below visit h = absurd cc

step_leaf : (texts : Contents) (searched : List Searched) (top : Paths) (place : List ℕ) (p : Path) (visit : Visit) → IsNibbles p.0 → IsOwn texts p.1 → entered texts searched place (leaf p) ≡ Ok visit
    → IsStep texts searched top place (p ∷ []) visit
step_leaf texts searched top place p visit small own h =
    let step = part_nibbles (key_part p.0 true) in
    let v = is_visit (ended texts searched place (Some (ending_with step (length p.1) (digest p.1)))) [] visit h in
    let shown : Shows searched top (option_list v.gain) ((place ++ p.0, p.1) ∷ []) =
    subst (λ (k : List ℕ). Shows searched top (option_list v.gain) ((place ++ k, p.1) ∷ [])) (part_back true p.0 small) (value_shown texts searched top place step p.1 v.gain own v.given) in
    subst (λ (x : Visit). IsStep texts searched top place (p ∷ []) x) (sym v.is) (record { own = placed place (p ∷ []); jobs = []; spots = refl; all = tt; shows = shown; is = refl; near = tt; lighter = omega arith })

step_over : (texts : Contents) (searched : List Searched) (top : Paths) (place : List ℕ) (ps : Paths) (x : ℕ) (xs : List ℕ) (visit : Visit) → IsBelow top ps → 2 ≤ length ps → CanWalk ps
    → AllByRecursion (λ (p : Path). IsOwn texts p.1) ps → looks searched place ≡ true → behind_all place top ≡ ps → front ps ≡ x ∷ xs → entered texts searched place (top_over (x ∷ xs) (cut ps)) ≡ Ok visit → IsStep texts searched top place ps visit
step_over texts searched top place ps x xs visit b many order values looks_here exact e h =
    let small : IsNibbles (x ∷ xs) = subst IsNibbles e (front_small ps order) in
    let step = part_nibbles (key_part (x ∷ xs) false) in
    let s = summary (branch_of (cut ps)) in
    let v = is_visit (Ok None) (spot (place ++ step) s.hash ∷ []) visit h in
    let none : v.gain ≡ None = cc in
    let job : Job = record { place = place ++ x ∷ xs; ps = cut ps } in
    let there : spot_of job ≡ spot (place ++ step) s.hash =
    ap (λ (n : Node). spot (place ++ x ∷ xs) (digest (node_text n))) (top_parted (cut ps) (many_cut ps many) (front_cut ps (omega arith)))
    ∙ ap (λ (k : List ℕ). spot (place ++ k) s.hash) (sym (part_back false (x ∷ xs) small)) in
    let long = many_cut ps many in
    let shared : 1 ≤ length (front ps) = subst (λ (k : List ℕ). 1 ≤ length k) (sym e) (omega arith) in
    let is_job : IsJob texts top job = record { below = Behind ps b many; some = omega arith; order = walk_cut ps order; values = values_behind (IsOwn texts) (length (front ps)) ps values; exact = ap (λ (k : List ℕ). behind_all (place ++ k) top) (sym e) ∙ exact_cut place top ps exact } in
    subst (λ (w : Visit). IsStep texts searched top place ps w) (sym v.is) (record {
      own = [];
      jobs = job ∷ [];
      spots = ap (λ (w : Spot). w ∷ []) there;
      all = (is_job, tt);
      shows = gains_none searched top v.gain none;
      is = placed_cut place ps ∙ ap (λ (k : List ℕ). placed (place ++ k) (cut ps)) e ∙ sym (append-nil (placed (place ++ x ∷ xs) (cut ps)));
      near = ((looks_here, many, inl (record { shared = shared; at = ap (λ (k : List ℕ). place ++ k) (sym e); there = refl })), tt);
      lighter = omega (arith, spared_shared ps many shared, spared_parted (cut ps) long (front_cut ps (omega arith)), length_behind (length (front ps)) ps, sum_by-cons job_weight job []);
    })

branch_gain : (texts : Contents) (searched : List Searched) (top : Paths) (place : List ℕ) (value : Option (List ℕ)) (hashes : List (Option Hash32)) (usage : ℕ) (gain : Option Gain)
    → ((v : List ℕ) → value ≡ Some v → IsOwn texts v) → ended texts searched place (ending_of (Branch (value_field value) hashes usage)) ≡ Ok gain → Shows searched top (option_list gain) (placed place (own_value value))
branch_gain texts searched top place None hashes usage gain own h = let none : gain ≡ None = cc in gains_none searched top gain none
branch_gain texts searched top place (Some v) hashes usage gain own h = value_shown texts searched top place [] v gain (own v refl) h

step_branch : (texts : Contents) (searched : List Searched) (top : Paths) (place : List ℕ) (ps : Paths) (visit : Visit) → IsBelow top ps → 2 ≤ length ps → CanWalk ps
    → AllByRecursion (λ (p : Path). IsOwn texts p.1) ps → looks searched place ≡ true → behind_all place top ≡ ps → front ps ≡ [] → entered texts searched place (branch_of ps) ≡ Ok visit → IsStep texts searched top place ps visit
step_branch texts searched top place ps visit b many order values looks_here exact e h =
    let v = is_visit (ended texts searched place (ending_of (branch_of ps))) (spots_of place (branch_of ps)) visit h in
    subst (λ (w : Visit). IsStep texts searched top place ps w) (sym v.is) (record {
      own = placed place (own_value (value_here ps));
      jobs = jobs_from place ps 0 16;
      spots = spots_are place ps 0 16 order;
      all = jobs_are texts top place ps 0 16 refl b many e order values exact;
      shows = branch_gain texts searched top place (value_here ps) _ _ v.gain (λ w is. value_own (IsOwn texts) ps w values is) v.given;
      is =
          ap (placed place) (sym (rows_all ps order)) ∙ placed-append place (own_value (value_here ps)) (rows 0 16 ps)
          ∙ ap (λ (xs : Paths). placed place (own_value (value_here ps)) ++ xs) (sym (paths_are place ps 0 16));
      near = jobs_near searched place ps 0 16 refl looks_here many e;
      lighter = branch_lighter place ps many e order;
    })

step_several : (texts : Contents) (searched : List Searched) (top : Paths) (place : List ℕ) (ps : Paths) (shared : List ℕ) (visit : Visit) → IsBelow top ps → 2 ≤ length ps → CanWalk ps
    → AllByRecursion (λ (p : Path). IsOwn texts p.1) ps → looks searched place ≡ true → behind_all place top ≡ ps → front ps ≡ shared → entered texts searched place (top_of ps) ≡ Ok visit → IsStep texts searched top place ps visit
step_several texts searched top place ps [] visit b many order values looks_here exact e h =
    step_branch texts searched top place ps visit b many order values looks_here exact e (ap (entered texts searched place) (sym (top_parted ps many e)) ∙ h)
step_several texts searched top place ps (x ∷ xs) visit b many order values looks_here exact e h =
    step_over texts searched top place ps x xs visit b many order values looks_here exact e (ap (entered texts searched place) (sym (top_shared ps x xs many e)) ∙ h)

pub step_entered : (texts : Contents) (searched : List Searched) (top : Paths) (place : List ℕ) (ps : Paths) (visit : Visit) → IsBelow top ps → 1 ≤ length ps → CanWalk ps
    → AllByRecursion (λ (p : Path). IsOwn texts p.1) ps → looks searched place ≡ true → behind_all place top ≡ ps → entered texts searched place (top_of ps) ≡ Ok visit → IsStep texts searched top place ps visit
step_entered texts searched top place [] visit b some order values looks_here exact h = absurd (omega arith)
step_entered texts searched top place (p ∷ []) visit b some order values looks_here exact h =
    step_leaf texts searched top place p visit order.small.0 values.0 (ap (entered texts searched place) (sym (top_leaf p)) ∙ h)
step_entered texts searched top place (p ∷ q ∷ ps) visit b some order values looks_here exact h =
    step_several texts searched top place (p ∷ q ∷ ps) (front (p ∷ q ∷ ps)) visit b (omega arith) order values looks_here exact refl h
