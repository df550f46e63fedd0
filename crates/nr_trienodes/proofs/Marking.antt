-- Nodes that are kept: what is marked, and that there are no more of them than at and below the roots.
use Rattle.std.proofs.Common.{◌≡◌, ◌<◌, ◌≤◌, ◌+◌, ◌-◌, ℕ, zero, suc, Bool, true, false, cond, List, [], ◌∷◌, ◌++◌, length, take, drop, map, get_or, set, Option, Some, None, refl, ap, sym, ◌∙◌, subst, inl, inr, add-one, arith}
use Rattle.std.specs.Prelude.{is_some, count_by, sum_by, ◌⊎◌}
use Rattle.std.specs.Option.{option_map}
use Rattle.std.specs.List.{AllByRecursion}
use Rattle.std.proofs.Math.Nat.{eq-or-lt_of_le}
use Rattle.std.proofs.Math.ListN.{drop_of_length-le}
use Rattle.std.proofs.lemmas.Bool.{cases_eq, cases_lt}
use Rattle.std.proofs.lemmas.List.{length-set, length-take, get_or-set_same, get_or-set_other, take_all}
use Rattle.std.proofs.lemmas.List.Sums.{sum_by-cons, sum_by-take-drop, count_by-le-length}
use Rattle.nr_trienodes.specs.Shape.{Shape, shape_at, child, no_children}
use Rattle.nr_trienodes.specs.Tries.{or_zero}
use Rattle.nr_trienodes.specs.Views.{Sound, IsIn}
use Rattle.nr_trienodes.specs.Roots.{young_at, young_count, IsRoot, name_in}
use Rattle.nr_trienodes.specs.Naming.{Names, new_name, IsKept, HasName, HaveOwn, AreOldest, IsClosed, weight_of, marked, Marks, RowMarked, BelowMarked, RootsMarked}
use Rattle.nr_trienodes.specs.declared.nodes.NodeId.{NodeId}
use Rattle.nr_trienodes.proofs.Youngs.{young_is, young_old}
use Rattle.nr_trienodes.proofs.Sounds.{back_sound}
use Rattle.nr_trienodes.proofs.Rows.{child_get}
use Rattle.nr_trienodes.proofs.Sets.{child-none}

-- ---- one mark
kept_set : (names : Names) (id c v : ℕ) → IsKept names c → IsKept (set names id (Some v)) c
kept_set [] id c v h = h
kept_set (n ∷ names) zero zero v h = refl
kept_set (n ∷ names) zero (suc c) v h = h
kept_set (n ∷ names) (suc id) zero v h = h
kept_set (n ∷ names) (suc id) (suc c) v h = kept_set names id c v h

set_again : (names : Names) (id v : ℕ) → new_name names id ≡ Some v → new_name (set names id (Some v)) id ≡ Some v
set_again [] id v h = h
set_again (n ∷ names) zero v h = refl
set_again (n ∷ names) (suc id) v h = set_again names id v h

own_set : (names : Names) (id c : ℕ) → new_name names c ≡ Some c → new_name (set names id (Some id)) c ≡ Some c
own_set names id c h = elim (cases_eq c id) as (λ _. new_name (set names id (Some id)) c ≡ Some c) [
  | inl e ↦ subst (λ n. new_name (set names n (Some n)) c ≡ Some c) e (set_again names c c h)
  | inr ne ↦ get_or-set_other names id c (Some id) None ne ∙ h
]

pub marks_one : (names : Names) (o : Option ℕ) → Marks names (marked names o)
marks_one names None = record { same = refl; kept = λ c h. h; own = λ c h. h }
marks_one names (Some id) = record { same = length-set names id (Some id); kept = λ c h. kept_set names id c id h; own = own_set names id }

pub marks_all : (a b c : Names) → Marks a b → Marks b c → Marks a c
marks_all a b c h k = record { same = k.same ∙ h.same; kept = λ id s. k.kept id (h.kept id s); own = λ id s. k.own id (h.own id s) }

pub marked_one : (names : Names) (id : ℕ) → id < length names → IsKept (set names id (Some id)) id
marked_one names id lt = ap is_some (get_or-set_same names id (Some id) None lt)

drop_set : (names : Names) (id n v : ℕ) → id < n → drop n (set names id (Some v)) ≡ drop n names
drop_set [] id n v lt = refl
drop_set (x ∷ names) id zero v lt = absurd (omega arith)
drop_set (x ∷ names) zero (suc n) v lt = refl
drop_set (x ∷ names) (suc id) (suc n) v lt = drop_set names id n v (omega arith)

-- a mark adds at most what the node counts
weight_same : (count : ℕ → ℕ) (names : Names) (id n : ℕ) → n ≤ id → weight_of count (set names id (Some id)) n ≡ weight_of count names n
weight_same count names id zero le = refl
weight_same count names id (suc n) le =
    let same : new_name (set names id (Some id)) n ≡ new_name names n = get_or-set_other names id n (Some id) None (λ e. omega arith) in
    (λ i. weight_same count names id n (omega arith) i + cond (is_some (same i)) (count n) 0)

weight_set : (count : ℕ → ℕ) (names : Names) (id n : ℕ) → weight_of count (set names id (Some id)) n ≤ weight_of count names n + count id
weight_set count names id zero = omega arith
weight_set count names id (suc n) =
    elim (cases_eq n id) as (λ _. weight_of count (set names id (Some id)) (suc n) ≤ weight_of count names (suc n) + count id) [
      | inl e ↦
          let before : weight_of count (set names id (Some id)) n ≡ weight_of count names n = weight_same count names id n (omega arith) in
          let here : cond (is_some (new_name (set names id (Some id)) n)) (count n) 0 ≤ count n = at_most (is_some (new_name (set names id (Some id)) n)) (count n) in
          let same : count n ≡ count id = ap count e in
          omega arith
      | inr ne ↦
          let same : cond (is_some (new_name (set names id (Some id)) n)) (count n) 0 ≡ cond (is_some (new_name names n)) (count n) 0 = ap (λ (o : Option ℕ). cond (is_some o) (count n) 0) (get_or-set_other names id n (Some id) None ne) in
          let before : weight_of count (set names id (Some id)) n ≤ weight_of count names n + count id = weight_set count names id n in
          omega arith
    ]
  where
    at_most : (b : Bool) (n : ℕ) → cond b n 0 ≤ n
    at_most true n = omega arith
    at_most false n = omega arith

pub weight_marked : (count : ℕ → ℕ) (names : Names) (o : Option ℕ) (n : ℕ) → weight_of count (marked names o) n ≤ weight_of count names n + or_zero (option_map count o)
weight_marked count names None n = omega arith
weight_marked count names (Some id) n = weight_set count names id n

-- what isn't kept, or counts nothing, weighs nothing
weight_none : (count : ℕ → ℕ) (names : Names) (n : ℕ) → ((id : ℕ) → id < n → (new_name names id ≡ None) ⊎ (count id ≡ 0)) → weight_of count names n ≡ 0
weight_none count names zero none = refl
weight_none count names (suc n) none =
    let here : cond (is_some (new_name names n)) (count n) 0 ≡ 0 =
    elim (none n (omega arith)) as (λ _. cond (is_some (new_name names n)) (count n) 0 ≡ 0) [
      | inl e ↦ ap (λ (o : Option ℕ). cond (is_some o) (count n) 0) e
      | inr e ↦ ap (λ k. cond (is_some (new_name names n)) k 0) e ∙ nothing (is_some (new_name names n))
    ] in
    omega (arith, here, weight_none count names n (λ id lt. none id (omega arith)))
  where
    nothing : (b : Bool) → cond {A = ℕ} b 0 0 ≡ 0
    nothing true = refl
    nothing false = refl

-- ---- a row
pub row_nothing : (row : List (Option ℕ)) (names : Names) (n : ℕ) → row ≡ no_children → RowMarked row names names n
row_nothing row names n e = subst (λ (cs : List (Option ℕ)). RowMarked cs names names n) (sym e) (record {
  marks = record { same = refl; kept = λ c h. h; own = λ c h. h };
  row = λ x c h. absurd (let none : child no_children x ≡ None = child-none 16 x in cc);
  weight = λ count. omega arith;
  rest = refl;
})

pub row_full : (nodes : List Shape) (id n : ℕ) (old new : Names) → Sound nodes → id < length nodes → 16 ≤ n → RowMarked (take n (shape_at nodes id).below) old new id → RowMarked (shape_at nodes id).below old new id
row_full nodes id n old new sound lt le h =
    let few : length (shape_at nodes id).below ≤ n = omega (arith, (sound id lt).sixteen) in
    subst (λ (cs : List (Option ℕ)). RowMarked cs old new id) (take_all n (shape_at nodes id).below few) h

child_take : (row : List (Option ℕ)) (x y c : ℕ) → child (take (suc x) row) y ≡ Some c → (child (take x row) y ≡ Some c) ⊎ ((y ≡ x) × (get_or row x None ≡ Some c))
child_take [] x y c e = absurd cc
child_take (r ∷ row) zero zero c e = inr (refl, e)
child_take (r ∷ row) zero (suc y) c e = absurd cc
child_take (r ∷ row) (suc x) zero c e = inl e
child_take (r ∷ row) (suc x) (suc y) c e =
    elim (child_take row x y c e) as (λ _. (child (take (suc x) (r ∷ row)) (suc y) ≡ Some c) ⊎ ((suc y ≡ suc x) × (get_or (r ∷ row) (suc x) None ≡ Some c))) [
      | inl h ↦ inl h
      | inr h ↦ inr (ap suc h.0, h.1)
    ]

or_zero-map : (count : ℕ → ℕ) (cs : List (Option ℕ)) (x : ℕ) → x < length cs → sum_by or_zero (map (option_map count) (take (suc x) cs)) ≡ sum_by or_zero (map (option_map count) (take x cs)) + or_zero (option_map count (get_or cs x None))
or_zero-map count [] x lt = absurd (omega arith)
or_zero-map count (c ∷ cs) zero lt = omega (arith, sum_by-cons or_zero (option_map count c) [])
or_zero-map count (c ∷ cs) (suc x) lt = omega (arith, sum_by-cons or_zero (option_map count c) (map (option_map count) (take (suc x) cs)), sum_by-cons or_zero (option_map count c) (map (option_map count) (take x cs)), or_zero-map count cs x (omega arith))

pub row_step : (row : List (Option ℕ)) (old mid : Names) (n x : ℕ) → x < length row → ((y c : ℕ) → child row y ≡ Some c → c < n) → n ≤ length mid → RowMarked (take x row) old mid n → RowMarked (take (suc x) row) old (marked mid (get_or row x None)) n
row_step row old mid n x lt back within h =
    record {
      marks = marks_all old mid (marked mid (get_or row x None)) h.marks (marks_one mid (get_or row x None));
      row = λ y c e. elim (child_take row x y c e) as (λ _. IsKept (marked mid (get_or row x None)) c) [
        | inl f ↦ (marks_one mid (get_or row x None)).kept c (h.row y c f)
        | inr f ↦ here c f.1
      ];
      weight = λ count. omega (arith, weight_marked count mid (get_or row x None) n, h.weight count, or_zero-map count row x lt);
      rest = dropped (get_or row x None) refl ∙ h.rest;
    }
  where
    here : (c : ℕ) → get_or row x None ≡ Some c → IsKept (marked mid (get_or row x None)) c
    here c f = subst (λ (q : Option ℕ). IsKept (marked mid q) c) (sym f) (marked_one mid c (let less : c < n = back x c (sym (child_get row x) ∙ f) in omega arith))

    dropped : (q : Option ℕ) → get_or row x None ≡ q → drop n (marked mid q) ≡ drop n mid
    dropped None f = refl
    dropped (Some c) f = drop_set mid c n c (back x c (sym (child_get row x) ∙ f))

pub row_in : (nodes : List Shape) (id : ℕ) (row : List (Option ℕ)) (x : ℕ) (names : Names) → Sound nodes → id < length nodes → row ≡ (shape_at nodes id).below → length names ≡ length nodes → IsIn (length names) (get_or row x None)
row_in nodes id row x names sound lt is len = at (get_or row x None) refl
  where
    at : (o : Option ℕ) → get_or row x None ≡ o → IsIn (length names) o
    at None e = tt
    at (Some c) e = let less : c < id = (sound id lt).back x c (ap (λ (cs : List (Option ℕ)). child cs x) (sym is) ∙ sym (child_get row x) ∙ e) in omega arith

pub row_on : (nodes : List Shape) (id : ℕ) (row : List (Option ℕ)) (x : ℕ) (old mid new : Names) → Sound nodes → id < length nodes → row ≡ (shape_at nodes id).below → length old ≡ length nodes → x < 16 → RowMarked (take x row) old mid id → new ≡ marked mid (get_or row x None) → RowMarked (take (x + 1) row) old new id
row_on nodes id row x old mid new sound lt is len few h e =
    let sixteen : length row ≡ 16 = ap length is ∙ (sound id lt).sixteen in
    subst (λ n. RowMarked (take n row) old new id) (sym (add-one x))
    (subst (λ (t : Names). RowMarked (take (suc x) row) old t id) (sym e)
    (row_step row old mid id x (omega arith) (λ y c f. (sound id lt).back y c (ap (λ (cs : List (Option ℕ)). child cs y) (sym is) ∙ f)) (omega (arith, h.marks.same)) h))

-- ---- all that is needed
drop_at : (names : Names) (n : ℕ) → n < length names → drop n names ≡ get_or names n None ∷ drop (suc n) names
drop_at [] n lt = absurd (omega arith)
drop_at (x ∷ names) zero lt = refl
drop_at (x ∷ names) (suc n) lt = drop_at names n (omega arith)

count_drop : (names : Names) (n : ℕ) → n < length names → count_by is_some (drop n names) ≡ cond (is_some (new_name names n)) 1 0 + count_by is_some (drop (suc n) names)
count_drop names n lt = ap (count_by is_some) (drop_at names n lt) ∙ sum_by-cons (λ (o : Option ℕ). cond {A = ℕ} (is_some o) 1 0) (get_or names n None) (drop (suc n) names)

drop_none : (n : ℕ) (names : Names) → names ≡ [] → drop n names ≡ []
drop_none n names e = let le : length names ≤ n = omega (arith, ap length e) in drop_of_length-le names le

later : (a b : Names) (n id : ℕ) → n ≤ id → drop n a ≡ drop n b → new_name a id ≡ new_name b id
later a b zero id le e = ap (λ (t : Names). new_name t id) e
later a b (suc n) zero le e = absurd (omega arith)
later [] [] (suc n) (suc id) le e = refl
later [] (y ∷ b) (suc n) (suc id) le e = later [] b n id (omega arith) (drop_none n [] refl ∙ e)
later (x ∷ a) [] (suc n) (suc id) le e = later a [] n id (omega arith) (e ∙ sym (drop_none n [] refl))
later (x ∷ a) (y ∷ b) (suc n) (suc id) le e = later a b n id (omega arith) e

pub below_kept : (nodes : List Shape) (oldest n : ℕ) (old mid new : Names) → Sound nodes → oldest ≤ n → n < length nodes → length mid ≡ length nodes → BelowMarked nodes oldest old mid (suc n) → IsKept mid n → RowMarked (shape_at nodes n).below mid new n → BelowMarked nodes oldest old new n
below_kept nodes oldest n old mid new sound young lt len h kept row = record {
  marks = marks_all old mid new h.marks row.marks;
  closed = λ id le less is x c e. elim (eq-or-lt_of_le le) as (λ _. IsKept new c) [
    | inl same ↦ row.row x c (ap (λ i. child (shape_at nodes i).below x) same ∙ e)
    | inr above ↦ row.marks.kept c (h.closed id above less (ap is_some (later mid new n id le (sym row.rest)) ∙ is) x c e)
  ];
  few =
      let one : cond {A = ℕ} (is_some (new_name mid n)) 1 0 ≡ 1 = ap (λ b. cond {A = ℕ} b 1 0) kept in
      let many : cond (is_some (new_name mid n)) (young_at nodes oldest n) 0 ≡ young_at nodes oldest n = ap (λ b. cond b (young_at nodes oldest n) 0) kept in
      omega (arith, ap (count_by is_some) row.rest, count_drop mid n (omega arith), one, many, row.weight (young_at nodes oldest), h.few, young_is nodes oldest n (back_sound nodes sound) young lt);
}

pub below_on : (nodes : List Shape) (oldest left : ℕ) (old mid new : Names) → Sound nodes → oldest < left
    → left ≤ length nodes → length old ≡ length nodes → BelowMarked nodes oldest old mid left
    → is_some (new_name mid (left - 1)) ≡ true → RowMarked (shape_at nodes (left - 1)).below mid new (left - 1)
    → BelowMarked nodes oldest old new (left - 1)
below_on nodes oldest left old mid new sound some le len h kept row =
    let e : left ≡ suc (left - 1) = omega arith in
    below_kept nodes oldest (left - 1) old mid new sound (omega arith) (omega arith) (h.marks.same ∙ len) (subst (BelowMarked nodes oldest old mid) e h) kept row

-- ---- the roots
roots_more : (a b : Names) (roots : List (Option NodeId)) → Marks a b → AllByRecursion (HasName a) roots → AllByRecursion (HasName b) roots
roots_more a b [] m h = tt
roots_more a b (None ∷ roots) m h = (tt, roots_more a b roots m h.1)
roots_more a b (Some id ∷ roots) m h = (m.kept id.0 h.0, roots_more a b roots m h.1)

roots_push : (names : Names) (roots : List (Option NodeId)) (i : ℕ) → i < length roots → AllByRecursion (HasName names) (take i roots) → HasName names (get_or roots i None) → AllByRecursion (HasName names) (take (suc i) roots)
roots_push names [] i lt h k = absurd (omega arith)
roots_push names (r ∷ roots) zero lt h k = (k, tt)
roots_push names (r ∷ roots) (suc i) lt h k = (h.0, roots_push names roots i (omega arith) h.1 k)

root_at : (nodes : List Shape) (roots : List (Option NodeId)) (i : ℕ) → i < length roots → AllByRecursion (IsRoot nodes) roots → IsRoot nodes (get_or roots i None)
root_at nodes [] i lt h = absurd (omega arith)
root_at nodes (r ∷ roots) zero lt h = h.0
root_at nodes (r ∷ roots) (suc i) lt h = root_at nodes roots i (omega arith) h.1

counts_take : (nodes : List Shape) (oldest : ℕ) (roots : List (Option NodeId)) (i : ℕ) → i < length roots → sum_by (young_count nodes oldest) (take (suc i) roots) ≡ sum_by (young_count nodes oldest) (take i roots) + young_count nodes oldest (get_or roots i None)
counts_take nodes oldest [] i lt = absurd (omega arith)
counts_take nodes oldest (r ∷ roots) zero lt = omega (arith, sum_by-cons (young_count nodes oldest) r [])
counts_take nodes oldest (r ∷ roots) (suc i) lt = omega (arith, sum_by-cons (young_count nodes oldest) r (take (suc i) roots), sum_by-cons (young_count nodes oldest) r (take i roots), counts_take nodes oldest roots i (omega arith))

root_marked : (nodes : List Shape) (names : Names) (r : Option NodeId) → length names ≡ length nodes → IsRoot nodes r → HasName (marked names (name_in r)) r
root_marked nodes names None len root = tt
root_marked nodes names (Some id) len root = marked_one names id.0 (let there : id.0 < length nodes = root.0 in omega arith)

root_weight : (nodes : List Shape) (oldest : ℕ) (r : Option NodeId) → or_zero (option_map (young_at nodes oldest) (name_in r)) ≡ young_count nodes oldest r
root_weight nodes oldest None = refl
root_weight nodes oldest (Some id) = refl

pub roots_on : (nodes : List Shape) (roots : List (Option NodeId)) (i : ℕ) (old mid new : Names) → length old ≡ length nodes → i < length roots → AllByRecursion (IsRoot nodes) roots → RootsMarked nodes (take i roots) old mid → new ≡ marked mid (name_in (get_or roots i None)) → RootsMarked nodes (take (i + 1) roots) old new
roots_on nodes roots i old mid new len lt all h e = subst (λ n. RootsMarked nodes (take n roots) old new) (sym (add-one i)) (subst (RootsMarked nodes (take (suc i) roots) old) (sym e) (record {
  marks = marks_all old mid (marked mid (name_in (get_or roots i None))) h.marks (marks_one mid (name_in (get_or roots i None)));
  roots_kept = roots_push (marked mid (name_in (get_or roots i None))) roots i lt (roots_more mid (marked mid (name_in (get_or roots i None))) (take i roots) (marks_one mid (name_in (get_or roots i None))) h.roots_kept) (root_marked nodes mid (get_or roots i None) (h.marks.same ∙ len) (root_at nodes roots i lt all));
  weight = λ oldest. omega (arith, weight_marked (young_at nodes oldest) mid (name_in (get_or roots i None)) (length nodes), root_weight nodes oldest (get_or roots i None), h.weight oldest, counts_take nodes oldest roots i lt);
}))

-- ---- each in a list changed in its place
pub each_on : {A : Type 0} (f : A → A) (xs now : List A) (i : ℕ) (d : A) → now ≡ map f (take i xs) ++ drop i xs → i < length xs → set now i (f (get_or now i d)) ≡ map f (take (i + 1) xs) ++ drop (i + 1) xs
each_on {A} f xs now i d e lt = subst (λ n. set now i (f (get_or now i d)) ≡ map f (take n xs) ++ drop n xs) (sym (add-one i)) (ap (λ (t : List A). set t i (f (get_or t i d))) e ∙ each i xs lt)
  where
    each : (i : ℕ) (xs : List A) → i < length xs → set (map f (take i xs) ++ drop i xs) i (f (get_or (map f (take i xs) ++ drop i xs) i d)) ≡ map f (take (suc i) xs) ++ drop (suc i) xs
    each i [] l = absurd (omega arith)
    each zero (x ∷ xs) l = refl
    each (suc i) (x ∷ xs) l = ap (λ (t : List A). f x ∷ t) (each i xs (omega arith))

pub each_at : {A : Type 0} (f : A → A) (xs now : List A) (i : ℕ) (d : A) → now ≡ map f (take i xs) ++ drop i xs → i < length xs → get_or now i d ≡ get_or xs i d
each_at {A} f xs now i d e lt = ap (λ (t : List A). get_or t i d) e ∙ each i xs lt
  where
    each : (i : ℕ) (xs : List A) → i < length xs → get_or (map f (take i xs) ++ drop i xs) i d ≡ get_or xs i d
    each i [] l = absurd (omega arith)
    each zero (x ∷ xs) l = refl
    each (suc i) (x ∷ xs) l = each i xs (omega arith)

pub each_length : {A : Type 0} (f : A → A) (xs now : List A) (i : ℕ) → now ≡ map f (take i xs) ++ drop i xs → length now ≡ length xs
each_length {A} f xs now i e = ap length e ∙ each i xs
  where
    each : (i : ℕ) (xs : List A) → length (map f (take i xs) ++ drop i xs) ≡ length xs
    each zero xs = refl
    each (suc i) [] = refl
    each (suc i) (x ∷ xs) = ap suc (each i xs)

pub each_all : {A : Type 0} (f : A → A) (xs : List A) (i : ℕ) → length xs ≤ i → map f (take i xs) ++ drop i xs ≡ map f xs
each_all f [] zero le = refl
each_all f [] (suc i) le = refl
each_all f (x ∷ xs) zero le = absurd (omega arith)
each_all {A} f (x ∷ xs) (suc i) le = ap (λ (t : List A). f x ∷ t) (each_all f xs i (omega arith))

pub in_row : (row : List (Option ℕ)) (x n : ℕ) → ((y c : ℕ) → child row y ≡ Some c → c < n) → IsIn n (get_or row x None)
in_row row x n h = at (get_or row x None) refl
  where
    at : (o : Option ℕ) → get_or row x None ≡ o → IsIn n o
    at None e = tt
    at (Some c) e = h x c (sym (child_get row x) ∙ e)

-- ---- a whole trim
pub own_after : (a b c : Names) (oldest : ℕ) → HaveOwn a oldest → Marks a b → Marks b c → HaveOwn c oldest
own_after a b c oldest own h k id lt = k.own id (h.own id (own id lt))

-- no more nodes are kept than the oldest ones and the young ones at and below the roots
pub few_kept : (nodes : List Shape) (roots : List (Option NodeId)) (names tops all : Names) (oldest : ℕ) → AreOldest names oldest (length nodes) → RootsMarked nodes roots names tops → BelowMarked nodes oldest tops all oldest → count_by is_some all ≤ oldest + sum_by (young_count nodes oldest) roots
few_kept nodes roots names tops all oldest start r b =
    let before : weight_of (young_at nodes oldest) names (length nodes) ≡ 0 = weight_none (young_at nodes oldest) names (length nodes) (λ id lt. old_or_none id) in
    let parts : count_by is_some (take oldest all) + count_by is_some (drop oldest all) ≡ count_by is_some all = sum_by-take-drop (λ (o : Option ℕ). cond {A = ℕ} (is_some o) 1 0) all oldest in
    let first : count_by is_some (take oldest all) ≤ length (take oldest all) = count_by-le-length is_some (take oldest all) in
    let short : length (take oldest all) ≤ oldest = omega (arith, length-take oldest all) in
    omega (arith, b.few, r.weight oldest, before, parts, first, short)
  where
    old_or_none : (id : ℕ) → (new_name names id ≡ None) ⊎ (young_at nodes oldest id ≡ 0)
    old_or_none id = elim (cases_lt id oldest) as (λ _. (new_name names id ≡ None) ⊎ (young_at nodes oldest id ≡ 0)) [
      | inl low ↦ inr (young_old nodes oldest id low)
      | inr high ↦ inl (start.others id high)
    ]

-- what is needed from the oldest nodes on is kept; these are kept with their children, which are older
pub closed_all : (nodes : List Shape) (names : Names) (oldest : ℕ) → Sound nodes → HaveOwn names oldest → IsClosed nodes names oldest → IsClosed nodes names 0
closed_all nodes names oldest sound own closed id le lt is x c e = elim (cases_lt id oldest) as (λ _. IsKept names c) [
  | inl low ↦ let less : c < id = (sound id lt).back x c e in ap is_some (own c (omega arith))
  | inr high ↦ closed id high lt is x c e
]

pub roots_stay : (a b : Names) (roots : List (Option NodeId)) → ((id : ℕ) → IsKept a id → IsKept b id) → AllByRecursion (HasName a) roots → AllByRecursion (HasName b) roots
roots_stay a b [] m h = tt
roots_stay a b (None ∷ roots) m h = (tt, roots_stay a b roots m h.1)
roots_stay a b (Some id ∷ roots) m h = (m id.0 h.0, roots_stay a b roots m h.1)
