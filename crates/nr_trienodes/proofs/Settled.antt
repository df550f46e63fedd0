-- A node put in place of another: what it stands for, and what its hash costs.
use Rattle.std.proofs.Common.{◌≡◌, ◌≢◌, ◌==◌, ◌&&◌, ◌<◌, ◌≤◌, ◌+◌, ◌++◌, ℕ, zero, suc, Bool, true, false, cond, List, [], ◌∷◌, length, take, get_or, set, map, Option, Some, None, refl, ap, sym, ◌∙◌, subst, eq-eqb, inl, inr, arith}
use Rattle.std.specs.Prelude.{is_some, count_by, sum_by}
use Rattle.std.specs.Option.{option_map}
use Rattle.std.proofs.lemmas.Bool.{eqb-true, cases_lt}
use Rattle.std.proofs.lemmas.List.Sums.{sum_by-cons}
use Rattle.nr_triedef.specs.Node.{IsNibbles}
use Rattle.nr_trienodes.specs.Shape.{Shape, no_children, child, shape_at}
use Rattle.nr_trienodes.specs.Tries.{Answer, nothing, answer, stripped, asked, given, found, found_in, or_zero, node_cost, cost_at, weight, is_leaf, IsLinked}
use Rattle.nr_trienodes.specs.Views.{Sound, IsIn, Adds}
use Rattle.nr_trienodes.specs.Turns.{Extends, Settles, Sprouts, stands_for, costs_below, LinksSo}
use Rattle.nr_trienodes.specs.declared.settling.Links.{Links}
use Rattle.nr_trienodes.specs.declared.settling.Links.TheVariants.{Bare, Single, Several}
use Rattle.nr_trienodes.proofs.Folds.{not_same, fold_newest}
use Rattle.nr_trienodes.proofs.Founds.{found_is}
use Rattle.nr_trienodes.proofs.Rows.{child_get}
use Rattle.nr_trienodes.proofs.Sets.{extends_one, sets_leaf, given_on, child-none}
use Rattle.nr_trienodes.proofs.Climbing.{costs_less}

-- ---- a new node
pub adds_extends : (old new : List Shape) (id : ℕ) (part : List ℕ) (value : Option (List ℕ)) (below : List (Option ℕ)) → Adds old new id part value below → Extends old new
adds_extends old new id part value below adds = extends_one old new _ adds.is

weight_le : (s : Shape) (r : List (Option ℕ)) → weight s r ≤ 2
weight_le s r =
    elim (is_leaf s.value (count_by is_some r)) as (λ b. cond {A = ℕ} b 1 (cond {A = ℕ} (length s.part == 0) 1 2) ≤ 2) [
      | true ↦ omega arith
      | false ↦ elim (length s.part == 0) as (λ b. cond {A = ℕ} b 1 2 ≤ 2) [ true ↦ omega arith | false ↦ omega arith ]
    ]

weight_light : (s : Shape) (r : List (Option ℕ)) → length s.part ≡ 0 → weight s r ≤ 1
weight_light s r e =
    elim (is_leaf s.value (count_by is_some r)) as (λ b. cond {A = ℕ} b 1 (cond {A = ℕ} (length s.part == 0) 1 2) ≤ 1) [
      | true ↦ omega arith
      | false ↦ subst (λ b. cond {A = ℕ} b 1 2 ≤ 1) (sym (eq-eqb (length s.part) 0 e)) (omega arith)
    ]

pub adds_settles : (old new : List Shape) (id : ℕ) (part : List ℕ) (value : Option (List ℕ)) (below : List (Option ℕ)) → Adds old new id part value below → Settles old new part value below (Some id)
adds_settles old new id part value below adds =
    let s : Shape = record { part = part; value = value; below = below; usage = adds.usage; hash = None } in
    let cost : cost_at new id ≡ weight s (map (option_map (cost_at old)) below) + costs_below old below = ap (λ (l : List Shape). cost_at l id) adds.is ∙ ap (cost_at (s ∷ old)) adds.name ∙ fold_newest node_cost 0 s old in
    record {
      there = omega (arith, adds.name, ap length adds.is);
      same = λ q. ap (λ (l : List Shape). found l id q) adds.is ∙ ap (λ n. found (s ∷ old) n q) adds.name ∙ ap (λ (f : Answer). f q) (fold_newest answer nothing s old);
      cost = omega (arith, weight_le s (map (option_map (cost_at old)) below));
      light = λ none some. omega (arith, weight_light s (map (option_map (cost_at old)) below) none);
    }

pub adds_sprouts : (old new : List Shape) (id : ℕ) (key value : List ℕ) → Adds old new id key (Some value) no_children → Sprouts old new id key value
adds_sprouts old new id key value adds =
    let s : Shape = record { part = key; value = Some value; below = no_children; usage = adds.usage; hash = None } in
    let cost : cost_at new id ≡ 1 + 0 = ap (λ (l : List Shape). cost_at l id) adds.is ∙ ap (cost_at (s ∷ old)) adds.name ∙ fold_newest node_cost 0 s old in
    record {
      there = omega (arith, adds.name, ap length adds.is);
      sets = sets_leaf old new id adds.usage key value adds.is adds.name;
      cost = omega arith;
    }

-- ---- which nodes may stand
and_one : (b : Bool) → (b && true) ≡ false → b ≡ false
and_one true e = e
and_one false e = refl

pub some_linked : (value : Option (List ℕ)) (row : List (Option ℕ)) → is_some value ≡ true → IsLinked value row
some_linked None row some e = absurd cc
some_linked (Some value) row some e = let ne : count_by is_some row ≢ 0 = not_same (count_by is_some row) 0 (and_one (count_by is_some row == 0) e) in omega arith

pub leaf_linked : (value : List ℕ) → IsLinked (Some value) no_children
leaf_linked value = some_linked (Some value) no_children refl

pub leaf_back : (n x c : ℕ) → child no_children x ≡ Some c → c < n
leaf_back n x c e = absurd (let none : child no_children x ≡ None = child-none 16 x in cc)

pub back_set : (n : ℕ) (row : List (Option ℕ)) (x : ℕ) (below : Option ℕ) → ((y c : ℕ) → child row y ≡ Some c → c < n) → IsIn n below → (y c : ℕ) → child (set row x below) y ≡ Some c → c < n
back_set n [] x below back is y c e = back y c e
back_set n (d ∷ row) zero below back is zero c e = subst (IsIn n) e is
back_set n (d ∷ row) zero below back is (suc y) c e = back (suc y) c e
back_set n (d ∷ row) (suc x) below back is zero c e = back 0 c e
back_set n (d ∷ row) (suc x) below back is (suc y) c e = back_set n row x below (λ z b f. back (suc z) b f) is y c e

pub take_small : (n : ℕ) (part : List ℕ) → IsNibbles part → IsNibbles (take n part)
take_small zero part h = λ i. omega arith
take_small (suc n) [] h = h
take_small (suc n) (x ∷ part) h = λ i. elim i as (λ j. get_or (x ∷ take n part) j 0 < 16) [ zero ↦ h 0 | suc j ↦ take_small n part (λ k. h (suc k)) j ]

-- ---- how many children
-- the same of the first n
abbrev pub LinksBelow : List (Option ℕ) → ℕ → Links → Type 0
LinksBelow row n Bare = (y : ℕ) → y < n → child row y ≡ None
LinksBelow row n (Single x c) = (x < n) × (child row x ≡ Some c) × ((y : ℕ) → y < n → y ≢ x → child row y ≡ None)
LinksBelow row n Several = ⊥

pub links_more : (row : List (Option ℕ)) (n m : ℕ) (links : Links) → m ≡ n + 1 → LinksBelow row n links → get_or row n None ≡ None → LinksBelow row m links
links_more row n m Bare em h e = λ y lt. at_last y (y == n) refl lt
  where
    at_last : (y : ℕ) (b : Bool) → (y == n) ≡ b → y < m → child row y ≡ None
    at_last y true is lt = ap (child row) (eqb-true y n is) ∙ sym (child_get row n) ∙ e
    at_last y false is lt = let ne : y ≢ n = not_same y n is in h y (omega arith)
links_more row n m (Single x c) em h e = (let lt : x < n = h.0 in omega arith, h.1, λ y lt ne. at_last y (y == n) refl lt ne)
  where
    at_last : (y : ℕ) (b : Bool) → (y == n) ≡ b → y < m → y ≢ x → child row y ≡ None
    at_last y true is lt ne = ap (child row) (eqb-true y n is) ∙ sym (child_get row n) ∙ e
    at_last y false is lt ne = let other : y ≢ n = not_same y n is in h.2 y (omega arith) ne
links_more row n m Several em h e = h

pub links_first : (row : List (Option ℕ)) (n m c : ℕ) → m ≡ n + 1 → ((y : ℕ) → y < n → child row y ≡ None) → get_or row n None ≡ Some c → LinksBelow row m (Single n c)
links_first row n m c em h e = (omega arith, sym (child_get row n) ∙ e, λ y lt ne. h y (omega arith))

count_one : (row : List (Option ℕ)) (x c : ℕ) → child row x ≡ Some c → 1 ≤ count_by is_some row
count_one [] x c e = absurd cc
count_one (d ∷ row) zero c e = omega (arith, sum_by-cons (λ (b : Option ℕ). cond {A = ℕ} (is_some b) 1 0) d row, ap (λ (b : Option ℕ). cond {A = ℕ} (is_some b) 1 0) e)
count_one (d ∷ row) (suc x) c e = omega (arith, sum_by-cons (λ (b : Option ℕ). cond {A = ℕ} (is_some b) 1 0) d row, count_one row x c e)

pub links_second : (row : List (Option ℕ)) (x n b c : ℕ) → x < n → child row x ≡ Some b → get_or row n None ≡ Some c → 2 ≤ count_by is_some row
links_second [] x n b c lt e f = absurd cc
links_second (d ∷ row) x zero b c lt e f = absurd (omega arith)
links_second (d ∷ row) zero (suc n) b c lt e f = omega (arith, sum_by-cons (λ (o : Option ℕ). cond {A = ℕ} (is_some o) 1 0) d row, ap (λ (o : Option ℕ). cond {A = ℕ} (is_some o) 1 0) e, count_one row n c (sym (child_get row n) ∙ f))
links_second (d ∷ row) (suc x) (suc n) b c lt e f = omega (arith, sum_by-cons (λ (o : Option ℕ). cond {A = ℕ} (is_some o) 1 0) d row, links_second row x n b c (omega arith) e f)

child-past : (row : List (Option ℕ)) (y : ℕ) → length row ≤ y → child row y ≡ None
child-past [] y le = refl
child-past (d ∷ row) zero le = absurd (omega arith)
child-past (d ∷ row) (suc y) le = child-past row y (omega arith)

pub links_all : (below : List (Option ℕ)) (links : Links) → length below ≡ 16 → LinksBelow below 16 links → LinksSo below links
links_all below Bare len h = λ y. elim (cases_lt y 16) [ inl lt ↦ h y lt | inr le ↦ child-past below y (omega arith) ]
links_all below (Single x c) len h = (h.0, h.1, λ y ne. elim (cases_lt y 16) [ inl lt ↦ h.2 y lt ne | inr le ↦ child-past below y (omega arith) ])
links_all below Several len h = absurd h

-- ---- none, and the only child
none_given : (nodes : List Shape) (row : List (Option ℕ)) (m : Option (List ℕ)) → ((y : ℕ) → child row y ≡ None) → None ≡ given None (map (option_map (found nodes)) row) m
none_given nodes row None h = refl
none_given nodes row (Some []) h = refl
none_given nodes row (Some (x ∷ q)) h = sym (given_on nodes None row x q ∙ ap (λ c. found_in nodes c q) (h x))

pub settles_none : (nodes : List Shape) (part : List ℕ) (value : Option (List ℕ)) (row : List (Option ℕ)) → is_some value ≡ false → ((y : ℕ) → child row y ≡ None) → Settles nodes nodes part value row None
settles_none nodes part None row e h = record { there = tt; same = λ q. none_given nodes row (stripped part q) h; cost = omega arith; light = λ none some. omega arith }
settles_none nodes part (Some value) row e h = absurd cc

given_single : (nodes : List Shape) (row : List (Option ℕ)) (value : Option (List ℕ)) (below : List (Option ℕ)) (a b : List ℕ) (x c : ℕ) (q : List ℕ) → child row x ≡ Some c → ((y : ℕ) → y ≢ x → child row y ≡ None) → ((r : List ℕ) → found nodes c r ≡ stands_for nodes b value below r)
    → given value (map (option_map (found nodes)) below) (stripped (a ++ x ∷ b) q) ≡ given None (map (option_map (found nodes)) row) (stripped a q)
given_single nodes row value below [] b x c [] e others h = refl
given_single nodes row value below [] b x c (y ∷ q) e others h =
    elim (x == y) as (λ v. (x == y) ≡ v → given value (map (option_map (found nodes)) below) (cond v (stripped b q) None) ≡ asked (child (map (option_map (found nodes)) row) y) q) [
      | true ↦ λ t. sym (given_on nodes None row y q ∙ ap (λ z. found_in nodes (child row z) q) (sym (eqb-true x y t)) ∙ ap (λ o. found_in nodes o q) e ∙ h q)
      | false ↦ λ t. sym (given_on nodes None row y q ∙ ap (λ o. found_in nodes o q) (others y (λ same. not_same x y t (sym same))))
    ] refl
given_single nodes row value below (z ∷ a) b x c [] e others h = refl
given_single nodes row value below (z ∷ a) b x c (y ∷ q) e others h =
    elim (z == y) as (λ v. given value (map (option_map (found nodes)) below) (cond v (stripped (a ++ x ∷ b) q) None) ≡ given None (map (option_map (found nodes)) row) (cond v (stripped a q) None)) [
      | true ↦ given_single nodes row value below a b x c q e others h
      | false ↦ refl
    ]

cost_child : (f : ℕ → ℕ) (row : List (Option ℕ)) (x c : ℕ) → child row x ≡ Some c → f c ≤ sum_by or_zero (map (option_map f) row)
cost_child f [] x c e = absurd cc
cost_child f (d ∷ row) zero c e = omega (arith, sum_by-cons or_zero (option_map f d) (map (option_map f) row), ap (λ (o : Option ℕ). or_zero (option_map f o)) e)
cost_child f (d ∷ row) (suc x) c e = omega (arith, sum_by-cons or_zero (option_map f d) (map (option_map f) row), cost_child f row x c e)

pub settles_single : (old new : List Shape) (part : List ℕ) (value : Option (List ℕ)) (row : List (Option ℕ)) (x c id : ℕ) → Sound old → c < length old → is_some value ≡ false → child row x ≡ Some c → ((y : ℕ) → y ≢ x → child row y ≡ None)
    → Settles old new (part ++ x ∷ (shape_at old c).part) (shape_at old c).value (shape_at old c).below (Some id) → Settles old new part value row (Some id)
settles_single old new part (Some value) row x c id sound lt e down others s = absurd cc
settles_single old new part None row x c id sound lt e down others s =
    record {
      there = s.there;
      same = λ q. s.same q ∙ given_single old row (shape_at old c).value (shape_at old c).below part (shape_at old c).part x c q down others (λ r. found_is old c r sound lt);
      cost = omega (arith, s.cost, costs_less old c sound lt, cost_child (cost_at old) row x c down);
      light = λ none some. absurd cc;
    }

pub row_back : (nodes : List Shape) (node : ℕ) (row : List (Option ℕ)) → Sound nodes → node < length nodes → row ≡ (shape_at nodes node).below → (y d : ℕ) → child row y ≡ Some d → d < length nodes
row_back nodes node row sound lt e y d h = let less : d < node = (sound node lt).back y d (ap (λ (r : List (Option ℕ)). child r y) (sym e) ∙ h) in omega arith

pub fork_back : (n x c : ℕ) (row : List (Option ℕ)) → row ≡ set no_children x (Some c) → c < n → (y d : ℕ) → child row y ≡ Some d → d < n
fork_back n x c row e lt y d h = back_set n no_children x (Some c) (leaf_back n) lt y d (ap (λ (r : List (Option ℕ)). child r y) (sym e) ∙ h)
