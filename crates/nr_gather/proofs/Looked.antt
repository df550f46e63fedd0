-- A walk over the texts that are gathered from the trie of a map that agrees with them has no fault.
use Rattle.std.proofs.Common.{◌≡◌, ◌<◌, ◌≤◌, ◌+◌, ℕ, zero, suc, true, false, cond, List, [], ◌∷◌, ◌++◌, length, Some, Ok, refl, sym, ap, subst, ◌∙◌, arith}
use Rattle.std.specs.List.{AllByRecursion, flat_map}
use Rattle.std.specs.FinMap.{empty, get, entries}
use Rattle.nr_triedef.specs.Node.{digest, node_text}
use Rattle.nr_triedef.specs.Root.{Contents, Paths, paths, front, under, depth, root_of}
use Rattle.nr_store.specs.Tries.{CanWalk, cut}
use Rattle.nr_store.proofs.Listed.{walk_whole}
use Rattle.nr_store.proofs.Orders.{walk_cut, walk_under}
use Rattle.nr_walk.specs.declared.searched.Searched.{Searched}
use Rattle.nr_walk.specs.declared.walking.Gain.{Gain}
use Rattle.nr_walk.specs.Searched.{looks, finds}
use Rattle.nr_walk.specs.Looked.{IsLooked, Holds}
use Rattle.nr_walk.specs.Looked.IsLooked.{First, Next, Child}
use Rattle.nr_walk.specs.Tries.{top_of, IsBelow, IsOwn, Agrees}
use Rattle.nr_walk.specs.Tries.IsBelow.{Top, Behind, Under}
use Rattle.nr_walk.specs.Texts.{texts_of}
use Rattle.nr_walk.specs.Shown.{placed, IsOf, walk_of}
use Rattle.nr_walk.proofs.Completing.{completes}
use Rattle.nr_walk.proofs.Placing.{apart_all, placed_none}
use Rattle.nr_walk.proofs.Rows.{Path}
use Rattle.nr_walk.proofs.ShownMaps.{all_nibbles}
use Rattle.std.proofs.Common.{inl, inr}
use Rattle.std.proofs.lemmas.Bool.{cases_lt}
use Rattle.nr_bytes.proofs.Basics.{all_both}
use Rattle.nr_gather.specs.Gathered.{found_text, own_text, tries_behind, tries_below, looked_texts, once, gathered}
use Rattle.nr_gather.proofs.Levels.{from, Trie, found_all, keys_all, level, IsShort, IsSmall, small_below, short_under, short_cut, short_depth}
use Rattle.nr_gather.proofs.Sweeps.{looked_all, looked_some}
use Rattle.nr_gather.proofs.Held.{IsHeld, once_all, is_own}

first_all : {A : Type 0} (P : A → Type 0) (xs ys : List A) → AllByRecursion P (xs ++ ys) → AllByRecursion P xs
first_all P [] ys h = tt
first_all P (x ∷ xs) ys h = (h.0, first_all P xs ys h.1)

second_all : {A : Type 0} (P : A → Type 0) (xs ys : List A) → AllByRecursion P (xs ++ ys) → AllByRecursion P ys
second_all P [] ys h = h
second_all P (x ∷ xs) ys h = second_all P xs ys h.1

-- ---- what holds of the texts at and below a place
abbrev AllText : (List ℕ → Type 0) → List Searched → ℕ → List ℕ → Paths → Type 0
AllText P searched d place ps = AllByRecursion P (looked_texts d searched place ps)

-- of the first node, and where it is looked at for itself of its value and of the tries below it
here : (P : List ℕ → Type 0) (searched : List Searched) (d : ℕ) (place : List ℕ) (ps : Paths) → 1 ≤ length ps → AllText P searched (suc d) place ps → P (node_text (top_of ps))
here P searched d place ps some h =
    let all : AllByRecursion P (node_text (top_of ps) ∷ cond (looks searched place) (own_text searched place ps ++ looked_all d searched (tries_below place ps)) []) = subst (AllByRecursion P) (looked_some d searched place ps some) h in
    all.0

below : (P : List ℕ → Type 0) (searched : List Searched) (d : ℕ) (place : List ℕ) (ps : Paths) → 1 ≤ length ps → looks searched place ≡ true → AllText P searched (suc d) place ps
    → AllByRecursion P (own_text searched place ps ++ looked_all d searched (tries_below place ps))
below P searched d place ps some l h =
    let all : AllByRecursion P (node_text (top_of ps) ∷ cond (looks searched place) (own_text searched place ps ++ looked_all d searched (tries_below place ps)) []) = subst (AllByRecursion P) (looked_some d searched place ps some) h in
    subst (λ b. AllByRecursion P (cond b (own_text searched place ps ++ looked_all d searched (tries_below place ps)) [])) l all.1

below_tries : (P : List ℕ → Type 0) (searched : List Searched) (d : ℕ) (place : List ℕ) (ps : Paths) → 1 ≤ length ps → looks searched place ≡ true → AllText P searched (suc d) place ps → AllByRecursion P (looked_all d searched (tries_below place ps))
below_tries P searched d place ps some l h = second_all P (own_text searched place ps) (looked_all d searched (tries_below place ps)) (below P searched d place ps some l h)

-- ---- nodes
record IsGiven (P : List ℕ → Type 0) (searched : List Searched) (place : List ℕ) (ps : Paths) : Type 0 where
  most : ℕ
  short : IsShort most ps
  order : CanWalk ps
  all : AllText P searched most place ps

tries_several : (place : List ℕ) (ps : Paths) (shared : List ℕ) → 2 ≤ length ps → front ps ≡ shared → tries_below place ps ≡ tries_behind place shared ps
tries_several place [] shared many e = absurd (omega arith)
tries_several place (p ∷ []) shared many e = absurd (omega arith)
tries_several place (p ∷ q ∷ ps) shared many e = ap (λ (f : List ℕ). tries_behind place f (p ∷ q ∷ ps)) e

given_next : (P : List ℕ → Type 0) (searched : List Searched) (d : ℕ) (place : List ℕ) (ps : Paths) (shared : List ℕ) → front ps ≡ shared → looks searched place ≡ true → 2 ≤ length ps → 1 ≤ length shared
    → IsShort (suc d) ps → CanWalk ps → AllText P searched (suc d) place ps → IsGiven P searched (place ++ shared) (cut ps)
given_next P searched d place ps [] e l many some short walk h = absurd (omega arith)
given_next P searched d place ps (x ∷ xs) e l many some short walk h =
    let all : AllByRecursion P (looked_all d searched (tries_behind place (x ∷ xs) ps)) = subst (λ (ts : List Trie). AllByRecursion P (looked_all d searched ts)) (tries_several place ps (x ∷ xs) many e) (below_tries P searched d place ps (omega arith) l h) in
    record {
      most = d;
      short = short_cut d ps (subst (λ (f : List ℕ). 1 ≤ length f) (sym e) some) short;
      order = walk_cut ps walk;
      all = first_all P (looked_texts d searched (place ++ x ∷ xs) (cut ps)) [] all;
    }

-- one of several in turn
one_of : {A : Type 0} (P : A → Type 0) (f : ℕ → List A) (n c m : ℕ) → n ≤ m → m < n + c → AllByRecursion P (flat_map f (from n c)) → AllByRecursion P (f m)
one_of P f n zero m le lt h = absurd (omega arith)
one_of P f n (suc c) m le lt h =
    elim (cases_lt n m) [
      | inl more ↦ one_of P f (suc n) c m (omega arith) (omega arith) (second_all P (f n) (flat_map f (from (suc n) c)) h)
      | inr same ↦ let e : n ≡ m = omega arith in subst (λ (k : ℕ). AllByRecursion P (f k)) e (first_all P (f n) (flat_map f (from (suc n) c)) h)
    ]

given_child : (P : List ℕ → Type 0) (searched : List Searched) (d : ℕ) (place : List ℕ) (ps : Paths) (n : ℕ) → front ps ≡ [] → n < 16 → looks searched place ≡ true → 2 ≤ length ps
    → IsShort (suc d) ps → CanWalk ps → AllText P searched (suc d) place ps → IsGiven P searched (place ++ n ∷ []) (under n ps)
given_child P searched d place ps n e lt l many short walk h =
    let all : AllByRecursion P (looked_all d searched (tries_behind place [] ps)) = subst (λ (ts : List Trie). AllByRecursion P (looked_all d searched ts)) (tries_several place ps [] many e) (below_tries P searched d place ps (omega arith) l h) in
    record {
      most = d;
      short = short_under d n ps short;
      order = walk_under n ps walk;
      all = one_of P (λ m. looked_texts d searched (place ++ m ∷ []) (under m ps)) 0 16 n (omega arith) lt all;
    }

deeper : (d : ℕ) (ps : Paths) → 2 ≤ length ps → IsShort d ps → 1 ≤ d
deeper d [] many short = absurd (omega arith)
deeper d (p ∷ ps) many short = omega (arith, short.0)

next_given : (P : List ℕ → Type 0) (searched : List Searched) (d : ℕ) (place : List ℕ) (ps : Paths) → looks searched place ≡ true → 2 ≤ length ps → 1 ≤ length (front ps)
    → IsShort d ps → CanWalk ps → AllText P searched d place ps → IsGiven P searched (place ++ front ps) (cut ps)
next_given P searched zero place ps l many some short walk h = absurd (omega (arith, deeper 0 ps many short))
next_given P searched (suc d) place ps l many some short walk h = given_next P searched d place ps (front ps) refl l many some short walk h

child_given : (P : List ℕ → Type 0) (searched : List Searched) (d : ℕ) (place : List ℕ) (ps : Paths) (n : ℕ) → front ps ≡ [] → n < 16 → looks searched place ≡ true → 2 ≤ length ps
    → IsShort d ps → CanWalk ps → AllText P searched d place ps → IsGiven P searched (place ++ n ∷ []) (under n ps)
child_given P searched zero place ps n e lt l many short walk h = absurd (omega (arith, deeper 0 ps many short))
child_given P searched (suc d) place ps n e lt l many short walk h = given_child P searched d place ps n e lt l many short walk h

given_at : (P : List ℕ → Type 0) (searched : List Searched) (top : Paths) → IsGiven P searched [] top → (place : List ℕ) (ps : Paths) → IsLooked searched top place ps → IsGiven P searched place ps
given_at P searched top g place ps First = g
given_at P searched top g place ps (Next at qs l looked many some) =
    let r = given_at P searched top g at qs l in
    next_given P searched r.most at qs looked many some r.short r.order r.all
given_at P searched top g place ps (Child at qs n l looked many e lt) =
    let r = given_at P searched top g at qs l in
    child_given P searched r.most at qs n e lt looked many r.short r.order r.all

first_given : (P : List ℕ → Type 0) (searched : List Searched) (d : ℕ) (place : List ℕ) (ps : Paths) → 1 ≤ length ps → IsShort d ps → AllText P searched d place ps → P (node_text (top_of ps))
first_given P searched d place [] some short h = absurd (omega arith)
first_given P searched zero place (p ∷ ps) some short h = absurd (omega (arith, short.0))
first_given P searched (suc d) place (p ∷ ps) some short h = here P searched d place (p ∷ ps) some h

below_top : (searched : List Searched) (top : Paths) (place : List ℕ) (ps : Paths) → IsLooked searched top place ps → IsBelow top ps
below_top searched top place ps First = Top
below_top searched top place ps (Next at qs l looked many some) = Behind qs (below_top searched top at qs l) many
below_top searched top place ps (Child at qs n l looked many e lt) = Under qs n (below_top searched top at qs l) many e lt

-- ---- values
abbrev IsFoundText : (List ℕ → Type 0) → List Searched → Path → Type 0
IsFoundText P searched p = finds searched p.0 ≡ true → P p.1

never : (P : List ℕ → Type 0) (searched : List Searched) (ps : Paths) → AllByRecursion (λ (p : Path). finds searched p.0 ≡ false) ps → AllByRecursion (IsFoundText P searched) ps
never P searched [] h = tt
never P searched (p ∷ ps) h = (λ e. let both : true ≡ false = sym e ∙ h.0 in absurd cc, never P searched ps h.1)

found_one : (P : List ℕ → Type 0) (searched : List Searched) (key value : List ℕ) → AllByRecursion P (found_text searched key (Some value)) → finds searched key ≡ true → P value
found_one P searched key value h e = let all : AllByRecursion P (value ∷ []) = subst (λ b. AllByRecursion P (cond b (value ∷ []) [])) e h in all.0

found_own : (P : List ℕ → Type 0) (searched : List Searched) (own : Paths) → AllByRecursion P (found_all searched own) → AllByRecursion (IsFoundText P searched) own
found_own P searched [] h = tt
found_own P searched (p ∷ own) h =
    let one = found_text searched p.0 (Some p.1) in
    (found_one P searched p.0 p.1 (first_all P one (found_all searched own) h), found_own P searched own (second_all P one (found_all searched own) h))

values_all : (P : List ℕ → Type 0) (searched : List Searched) (d : ℕ) (ts : List Trie) → ((t : Trie) → IsSmall d t → AllText P searched d t.0 t.1 → AllByRecursion (IsFoundText P searched) (placed t.0 t.1)) → AllByRecursion (IsSmall d) ts
    → AllByRecursion P (looked_all d searched ts) → AllByRecursion (IsFoundText P searched) (keys_all ts)
values_all P searched d [] each small h = tt
values_all P searched d (t ∷ ts) each small h =
    let one = looked_texts d searched t.0 t.1 in
    all_both (IsFoundText P searched) (placed t.0 t.1) (keys_all ts) (each t small.0 (first_all P one (looked_all d searched ts) h)) (values_all P searched d ts each small.1 (second_all P one (looked_all d searched ts) h))

values_at : (P : List ℕ → Type 0) (searched : List Searched) (d : ℕ) (t : Trie) → IsSmall d t → AllText P searched d t.0 t.1 → AllByRecursion (IsFoundText P searched) (placed t.0 t.1)
values_at P searched d (place, []) small h = tt
values_at P searched zero (place, p ∷ ps) small h = absurd (omega (arith, small.short.0))
values_at P searched (suc d) (place, p ∷ ps) small h =
    let all = p ∷ ps in
    let ts = tries_below place all in
    let l = level place all (omega arith) small.order in
    elim (looks searched place) as (λ b. looks searched place ≡ b → AllByRecursion (IsFoundText P searched) (placed place all)) [
      | true ↦ λ e.
          let both = below P searched d place all (omega arith) e h in
          let own : AllByRecursion P (found_all searched l.own) = subst (AllByRecursion P) (l.texts searched) (first_all P (own_text searched place all) (looked_all d searched ts) both) in
          let later = values_all P searched d ts (values_at P searched d) (small_below d place all small.short small.order) (second_all P (own_text searched place all) (looked_all d searched ts) both) in
          subst (AllByRecursion (IsFoundText P searched)) (sym l.keys) (all_both (IsFoundText P searched) l.own (keys_all ts) (found_own P searched l.own own) later)
      | false ↦ λ e. never P searched (placed place all) (apart_all searched place e all)
    ] refl

-- ---- where the map agrees with the texts, they are held
values_held : (m : Contents) (searched : List Searched) (ps : Paths) → AllByRecursion (IsFoundText (IsHeld m) searched) ps → AllByRecursion (λ (p : Path). IsOwn m p.1) ps
    → AllByRecursion (λ (p : Path). finds searched p.0 ≡ true → get m (digest p.1).0 ≡ Some p.1) ps
values_held m searched [] h own = tt
values_held m searched (p ∷ ps) h own = (λ e. is_own m p.1 (h.0 e) own.0, values_held m searched ps h.1 own.1)

holds : (m : Contents) (searched : List Searched) (top : Paths) → CanWalk top → Agrees m top → AllText (IsHeld m) searched (depth top) [] top → Holds m searched top
holds m searched top walk agrees all =
    let given : IsGiven (IsHeld m) searched [] top = record { most = depth top; short = short_depth top; order = walk; all = all } in
    let values = values_at (IsHeld m) searched (depth top) ([], top) (record { short = short_depth top; order = walk }) all in
    record {
      nodes = λ place ps l some.
          let r = given_at (IsHeld m) searched top given place ps l in
          is_own m (node_text (top_of ps)) (first_given (IsHeld m) searched r.most place ps some r.short r.all) (agrees.nodes ps (below_top searched top place ps l) some);
      values = values_held m searched top (subst (AllByRecursion (IsFoundText (IsHeld m) searched)) (placed_none top) values) agrees.values;
    }

gathered_is : (searched : List Searched) (ps : Paths) → gathered searched ps ≡ once empty (looked_texts (depth ps) searched [] ps)
unfolding gathered
gathered_is searched ps = refl

-- all that a walk looks at is among what is gathered
pub gathered_holds : (searched : List Searched) (m : Contents) (es : List (List ℕ × List ℕ)) (list : List (List ℕ)) → entries m ≡ es → list ≡ gathered searched (paths es) → IsOf (texts_of list) (root_of m).hash m
    → Holds (texts_of list) searched (paths (entries m))
gathered_holds searched m es list e g is =
    let top = paths (entries m) in
    let texts = looked_texts (depth top) searched [] top in
    let listed : list ≡ once empty texts = g ∙ ap (λ (xs : List (List ℕ × List ℕ)). gathered searched (paths xs)) (sym e) ∙ gathered_is searched top in
    let walk : CanWalk top = walk_whole m top refl (all_nibbles (entries m) is.bytes) in
    let all : AllByRecursion (IsHeld (texts_of list)) texts = subst (λ (l : List (List ℕ)). AllByRecursion (IsHeld (texts_of l)) texts) (sym listed) (once_all texts) in
    holds (texts_of list) searched top walk is.agrees all

-- the walk over what is gathered has no fault
pub gathered_walk : (searched : List Searched) (m : Contents) (es : List (List ℕ × List ℕ)) (list : List (List ℕ)) → entries m ≡ es → list ≡ gathered searched (paths es) → IsOf (texts_of list) (root_of m).hash m
    → (gains : List Gain) × (walk_of (texts_of list) searched (root_of m).hash ≡ Ok gains)
gathered_walk searched m es list e g is = completes (texts_of list) searched (root_of m).hash m is (gathered_holds searched m es list e g is)
