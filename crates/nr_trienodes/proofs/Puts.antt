-- A value put at a key: at the last node of a way, and from the root.
use Rattle.std.proofs.Common.{◌≡◌, ◌≢◌, ◌==◌, ◌<◌, ◌≤◌, ◌+◌, ◌*◌, ◌++◌, ℕ, zero, suc, Bool, true, false, cond, List, [], ◌∷◌, length, take, drop, get_or, set, map, Option, Some, None, refl, ap, sym, ◌∙◌, subst, add-one, length-append, arith}
use Rattle.std.specs.Option.{option_map}
use Rattle.std.proofs.lemmas.Bool.{eqb-true}
use Rattle.std.proofs.lemmas.List.{length-set}
use Rattle.nr_trienodes.specs.Shape.{Shape, no_children, child, shape_at}
use Rattle.nr_trienodes.specs.Tries.{Answer, answer, nothing, stripped, asked, given, found, found_in, or_zero, cost_at, cost_in}
use Rattle.nr_trienodes.specs.Views.{Sound}
use Rattle.nr_trienodes.specs.Turns.{Sets, Extends, Leads, Settles, Sprouts, Changes, Climbs, stands_for, costs_below}
use Rattle.nr_trienodes.proofs.Folds.{not_same}
use Rattle.nr_trienodes.proofs.Keys.{stripped_is}
use Rattle.nr_trienodes.proofs.Sets.{extends_shape, extends_fold, sets_value, sets_child, given_on, child-none, child-set, child-set_other}
use Rattle.nr_trienodes.specs.Roots.{name_in}
use Rattle.nr_trienodes.specs.declared.nodes.NodeId.{NodeId}
use Rattle.nr_trienodes.specs.declared.turn.Step.{Step}
use Rattle.nr_trienodes.proofs.Climbing.{costs_less, costs_changed, costs-set, found_of, sets_via, same_below, changes_more}

-- ---- the key ends at the node
pub put_here : (old new : List Shape) (node : ℕ) (id : Option ℕ) (key value : List ℕ) → Sound old → node < length old → stripped (shape_at old node).part key ≡ Some [] → Settles old new (shape_at old node).part (Some value) (shape_at old node).below id → Changes old new (Some node) id key (Some value) (2 * length key + 3)
put_here old new node id key value sound lt e settles =
    let s : Shape = shape_at old node in
    record {
      there = settles.there;
      sets = sets_via (stands_for old s.part s.value s.below) (stands_for old s.part (Some value) s.below) (found_in old (Some node)) (found_in new id) key (Some value) (sets_value old s.part s.value (Some value) s.below key e) (λ q. found_of old node q sound lt) settles.same;
      cost = omega (arith, settles.cost, costs_less old node sound lt);
    }

-- ---- it goes on where there is no child
pub put_sprout : (old mid new : List Shape) (node x leaf : ℕ) (id : Option ℕ) (key rest value : List ℕ) → Sound old → node < length old → x < 16 → stripped (shape_at old node).part key ≡ Some (x ∷ rest) → child (shape_at old node).below x ≡ None → Extends old mid → Sprouts old mid leaf rest value
    → Settles mid new (shape_at mid node).part (shape_at mid node).value (set (shape_at mid node).below x (Some leaf)) id → Changes old new (Some node) id key (Some value) (2 * length key + 3)
put_sprout old mid new node x leaf id key rest value sound lt small e none grows sprouts settles =
    let s : Shape = shape_at old node in
    let st = sound node lt in
    let len : length s.below ≡ 16 = st.sixteen in
    let there : x < length s.below = omega arith in
    let set_s : Settles mid new s.part s.value (set s.below x (Some leaf)) id = subst (λ (t : Shape). Settles mid new t.part t.value (set t.below x (Some leaf)) id) (extends_shape old mid node grows lt) settles in
    let child_sets : Sets (found_in old (child s.below x)) (found_in mid (Some leaf)) rest (Some value) = subst (λ c. Sets (found_in old c) (found_in mid (Some leaf)) rest (Some value)) (sym none) sprouts.sets in
    let le : cost_in mid (Some leaf) ≤ cost_in old (child s.below x) + 1 = omega (arith, sprouts.cost) in
    let costs : costs_below mid (set s.below x (Some leaf)) ≤ costs_below old s.below + 1 = costs_changed old mid s.below x (Some leaf) 1 there grows (λ y d h. let less : d < node = st.back y d h in omega arith) le in
    record {
      there = set_s.there;
      sets = sets_via (stands_for old s.part s.value s.below) (stands_for mid s.part s.value (set s.below x (Some leaf))) (found_in old (Some node)) (found_in new id) key (Some value)
          (sets_child old mid s.part s.value s.below x (Some leaf) rest key (Some value) there (same_below old mid node sound lt grows) e child_sets)
          (λ q. found_of old node q sound lt) set_s.same;
      cost = omega (arith, set_s.cost, costs, costs_less old node sound lt);
    }

-- ---- the node split in two
given_fork : (old low : List Shape) (value : Option (List ℕ)) (below : List (Option ℕ)) (a b : List ℕ) (x c : ℕ) (q : List ℕ) → x < 16 → ((r : List ℕ) → found low c r ≡ stands_for old b value below r)
    → given None (map (option_map (found low)) (set no_children x (Some c))) (stripped a q) ≡ given value (map (option_map (found old)) below) (stripped (a ++ x ∷ b) q)
given_fork old low value below [] b x c [] small h = refl
given_fork old low value below [] b x c (y ∷ q) small h =
    elim (x == y) as (λ v. (x == y) ≡ v → asked (child (map (option_map (found low)) (set no_children x (Some c))) y) q ≡ given value (map (option_map (found old)) below) (cond v (stripped b q) None)) [
      | true ↦ λ t. given_on low None (set no_children x (Some c)) y q ∙ ap (λ z. found_in low (child (set no_children x (Some c)) z) q) (sym (eqb-true x y t)) ∙ ap (λ o. found_in low o q) (child-set no_children x (Some c) small) ∙ h q
      | false ↦ λ t. given_on low None (set no_children x (Some c)) y q ∙ ap (λ o. found_in low o q) (child-set_other no_children x (Some c) y (λ same. not_same x y t (sym same)) ∙ child-none 16 y)
    ] refl
given_fork old low value below (z ∷ a) b x c [] small h = refl
given_fork old low value below (z ∷ a) b x c (y ∷ q) small h =
    elim (z == y) as (λ v. given None (map (option_map (found low)) (set no_children x (Some c))) (cond v (stripped a q) None) ≡ given value (map (option_map (found old)) below) (cond v (stripped (a ++ x ∷ b) q) None)) [
      | true ↦ given_fork old low value below a b x c q small h
      | false ↦ refl
    ]

cut_at : (p : List ℕ) (n : ℕ) → n < length p → p ≡ take n p ++ get_or p n 0 ∷ drop (n + 1) p
cut_at p n lt = go p n lt ∙ ap (λ m. take n p ++ get_or p n 0 ∷ drop m p) (sym (add-one n))
  where
    go : (p : List ℕ) (n : ℕ) → n < length p → p ≡ take n p ++ get_or p n 0 ∷ drop (suc n) p
    go [] n lt = absurd (omega arith)
    go (x ∷ p) zero lt = refl
    go (x ∷ p) (suc n) lt = ap (λ (l : List ℕ). x ∷ l) (go p n (omega arith))

-- the fork that a node is split into, before the key is put there
pub record Forked (old low : List Shape) (node n x lower : ℕ) : Type 0 where
  pub sound : Sound old
  pub there : node < length old
  pub grows : Extends old low
  pub small : x < 16
  pub same : (q : List ℕ) → stands_for low (take n (shape_at old node).part) None (set no_children x (Some lower)) q ≡ found old node q
  pub cost : cost_at low lower ≤ 2 + cost_at old node

pub forked : (old low : List Shape) (node n x lower : ℕ) → Sound old → node < length old → n < length (shape_at old node).part → x ≡ get_or (shape_at old node).part n 0 → Extends old low
    → Settles old low (drop (n + 1) (shape_at old node).part) (shape_at old node).value (shape_at old node).below (Some lower) → Forked old low node n x lower
forked old low node n x lower sound lt less ex grows settles =
    let s : Shape = shape_at old node in
    let st = sound node lt in
    let small : x < 16 = subst (λ y. y < 16) (sym ex) (st.small n) in
    let is : s.part ≡ take n s.part ++ x ∷ drop (n + 1) s.part = cut_at s.part n less ∙ ap (λ y. take n s.part ++ y ∷ drop (n + 1) s.part) (sym ex) in
    record {
      sound = sound;
      there = lt;
      grows = grows;
      small = small;
      same = λ q. given_fork old low s.value s.below (take n s.part) (drop (n + 1) s.part) x lower q small settles.same ∙ ap (λ (p : List ℕ). given s.value (map (option_map (found old)) s.below) (stripped p q)) (sym is) ∙ sym (found_of old node q sound lt);
      cost = omega (arith, settles.cost, costs_less old node sound lt);
    }

fork_cost : (nodes : List Shape) (x c : ℕ) → x < 16 → costs_below nodes (set no_children x (Some c)) ≡ cost_at nodes c
fork_cost nodes x c small =
    let none : child no_children x ≡ None = child-none 16 x in
    omega (arith, costs-set (cost_at nodes) no_children x (Some c) small, ap (λ (o : Option ℕ). or_zero (option_map (cost_at nodes) o)) none)

-- the key ends where the part is cut
pub put_fork : (old low new : List Shape) (node n x lower : ℕ) (id : Option ℕ) (part key value : List ℕ)
    → Forked old low node n x lower → part ≡ take n (shape_at old node).part → n ≤ length (shape_at old node).part
    → stripped part key ≡ Some [] → Settles low new part (Some value) (set no_children x (Some lower)) id
    → Changes old new (Some node) id key (Some value) (2 * length key + 3)
put_fork old low new node n x lower id part key value f ep le e settles =
    let front : List ℕ = take n (shape_at old node).part in
    let row : List (Option ℕ) = set no_children x (Some lower) in
    let is : length key ≡ length part = omega (arith, ap length (stripped_is part key [] e), length-append part []) in
    record {
      there = settles.there;
      sets = sets_via (stands_for low part None row) (stands_for low part (Some value) row) (found_in old (Some node)) (found_in new id) key (Some value) (sets_value low part None (Some value) row key e) (λ q. sym (ap (λ (p : List ℕ). stands_for low p None row q) ep ∙ f.same q)) settles.same;
      cost = by_length (length part) refl is;
    }
  where
    by_length : (m : ℕ) → length part ≡ m → length key ≡ length part → cost_in new id ≤ cost_in old (Some node) + (2 * length key + 3)
    by_length zero none same = omega (arith, settles.light none refl, fork_cost low x lower f.small, f.cost)
    by_length (suc m) some same = omega (arith, settles.cost, fork_cost low x lower f.small, f.cost)

-- it goes on
pub put_branch : (old low mid new : List Shape) (node n x lower y leaf : ℕ) (id : Option ℕ) (part key rest value : List ℕ) → Forked old low node n x lower → lower < length low → part ≡ take n (shape_at old node).part → stripped part key ≡ Some (y ∷ rest) → y < 16 → y ≢ x → Extends low mid → Sprouts low mid leaf rest value
    → Settles mid new part None (set (set no_children x (Some lower)) y (Some leaf)) id → Changes old new (Some node) id key (Some value) (2 * length key + 3)
put_branch old low mid new node n x lower y leaf id part key rest value f there ep e small ne grows sprouts settles =
    let row : List (Option ℕ) = set no_children x (Some lower) in
    let len : y < length row = omega (arith, length-set no_children x (Some lower)) in
    let none : child row y ≡ None = child-set_other no_children x (Some lower) y ne ∙ child-none 16 y in
    let back = λ (z d : ℕ) (h : child row z ≡ Some d). only z d (z == x) refl h in
    let child_sets : Sets (found_in low (child row y)) (found_in mid (Some leaf)) rest (Some value) = subst (λ c. Sets (found_in low c) (found_in mid (Some leaf)) rest (Some value)) (sym none) sprouts.sets in
    let le : cost_in mid (Some leaf) ≤ cost_in low (child row y) + 1 = omega (arith, sprouts.cost) in
    let costs : costs_below mid (set row y (Some leaf)) ≤ costs_below low row + 1 = costs_changed low mid row y (Some leaf) 1 len grows back le in
    let long : length key ≡ length part + suc (length rest) = omega (arith, ap length (stripped_is part key (y ∷ rest) e), length-append part (y ∷ rest)) in
    record {
      there = settles.there;
      sets = sets_via (stands_for low part None row) (stands_for mid part None (set row y (Some leaf))) (found_in old (Some node)) (found_in new id) key (Some value)
          (sets_child low mid part None row y (Some leaf) rest key (Some value) len (λ d q at. ap (λ (g : Answer). g q) (extends_fold answer nothing low mid d grows (back at.0 d at.1))) e child_sets)
          (λ q. sym (ap (λ (p : List ℕ). stands_for low p None row q) ep ∙ f.same q)) settles.same;
      cost = omega (arith, settles.cost, costs, fork_cost low x lower f.small, f.cost);
    }
  where
    only : (z d : ℕ) (b : Bool) → (z == x) ≡ b → child (set no_children x (Some lower)) z ≡ Some d → d < length low
    only z d true t h = let is : child (set no_children x (Some lower)) x ≡ Some d = ap (child (set no_children x (Some lower))) (sym (eqb-true z x t)) ∙ h in let same : Some lower ≡ Some d = sym (child-set no_children x (Some lower) f.small) ∙ is in let eq : lower ≡ d = cc in omega arith
    only z d false t h = absurd (let is : child (set no_children x (Some lower)) z ≡ None = child-set_other no_children x (Some lower) z (not_same z x t) ∙ child-none 16 z in cc)

-- ---- from the root
pub put_climbed : (old mid new : List Shape) (root node : ℕ) (below id : Option ℕ) (way : List Step)
    (key rest : List ℕ) (o : Option (List ℕ)) (extra more : ℕ) → Sound old → Extends old mid
    → Leads old root key way node rest → Changes old mid (Some node) below rest o extra → Climbs mid new way below id
    → length way + length rest ≤ length key → extra ≤ 2 * length rest + more
    → Changes old new (Some root) id key o (2 * length key + more)
put_climbed old mid new root node below id way key rest o extra more sound grows leads changes climbs short le =
    changes_more old new (Some root) id key o (extra + 2 * length way) (2 * length key + more) (omega arith) (climbs old root key node rest o extra sound grows leads changes)

pub put_some : (old new : List Shape) (root : Option NodeId) (r : NodeId) (id : Option ℕ) (key : List ℕ) (o : Option (List ℕ)) (extra : ℕ) → root ≡ Some r → Changes old new (Some r.0) id key o extra → Changes old new (name_in root) id key o extra
put_some old new root r id key o extra e c = subst (λ (q : Option NodeId). Changes old new (name_in q) id key o extra) (sym e) c

pub put_none : (old new : List Shape) (root : Option NodeId) (id : ℕ) (key value : List ℕ) → root ≡ None → Sprouts old new id key value → Changes old new (name_in root) (Some id) key (Some value) (2 * length key + 3)
put_none old new root id key value e s = subst (λ (q : Option NodeId). Changes old new (name_in q) (Some id) key (Some value) (2 * length key + 3)) (sym e) (record { there = s.there; sets = s.sets; cost = omega (arith, s.cost) })
