-- What stands behind open nodes: a change of it, and arenas that grow.
use Rattle.std.proofs.Common.{◌≡◌, ◌≢◌, ◌==◌, ◌<◌, ◌+◌, ◌++◌, ℕ, true, false, cond, List, [], ◌∷◌, length, set, map, Option, Some, None, refl, ap, sym, ◌∙◌, eq-eqb, append_assoc, arith}
use Rattle.std.specs.Option.{option_map}
use Rattle.std.specs.List.{AllByRecursion}
use Rattle.std.proofs.lemmas.Bool.{eqb-true}
use Rattle.nr_trienodes.specs.Shape.{Shape, child}
use Rattle.nr_trienodes.specs.Tries.{Answer, nothing, answer, stripped, given, found, found_in, node_cost, cost_at}
use Rattle.nr_trienodes.specs.Turns.{Sets, Extends}
use Rattle.nr_trienodes.specs.Opened.{IsOpen, IsLevel, path, hung, via, plug, open_cost, levels_cost}
use Rattle.nr_trienodes.specs.declared.open_way.OpenNode.{OpenNode}
use Rattle.nr_trienodes.specs.declared.open_way.Level.{Level}
use Rattle.nr_trienodes.proofs.Folds.{not_same}
use Rattle.nr_trienodes.proofs.Keys.{stripped_is}
use Rattle.nr_trienodes.proofs.Sets.{extends_fold, extends_longer, given_on, child-set, child-set_other}
use Rattle.nr_trienodes.proofs.Climbing.{costs_same}

pub stripped_front : (p k : List ℕ) → stripped p (p ++ k) ≡ Some k
stripped_front [] k = refl
stripped_front (x ∷ p) k = rw (eq-eqb x x refl) (stripped_front p k)

-- ---- the same behind
hung_same : (nodes : List Shape) (n : OpenNode) (x : ℕ) (f g : Answer) → ((q : List ℕ) → f q ≡ g q) → (m : Option (List ℕ)) → hung nodes n x f m ≡ hung nodes n x g m
hung_same nodes n x f g h None = refl
hung_same nodes n x f g h (Some []) = refl
hung_same nodes n x f g h (Some (y ∷ key)) = ap (λ (r : Option (List ℕ)). cond (x == y) r (found_in nodes (child n.row y) key)) (h key)

pub plug_same : (nodes : List Shape) (ls : List Level) (f g : Answer) → ((q : List ℕ) → f q ≡ g q) → (q : List ℕ) → plug nodes ls f q ≡ plug nodes ls g q
plug_same nodes [] f g h q = h q
plug_same nodes (l ∷ ls) f g h q = plug_same nodes ls (via nodes l f) (via nodes l g) (λ k. hung_same nodes l.node l.nibble f g h (stripped l.node.part k)) q

-- ---- another value behind
hung_other : (nodes : List Shape) (n : OpenNode) (x : ℕ) (f g : Answer) (k : List ℕ) (o : Option (List ℕ)) → Sets f g k o → (m : Option (List ℕ)) → m ≢ Some (x ∷ k) → hung nodes n x g m ≡ hung nodes n x f m
hung_other nodes n x f g k o sets None ne = refl
hung_other nodes n x f g k o sets (Some []) ne = refl
hung_other nodes n x f g k o sets (Some (y ∷ q)) ne =
    elim (x == y) as (λ b. (x == y) ≡ b → cond b (g q) (found_in nodes (child n.row y) q) ≡ cond b (f q) (found_in nodes (child n.row y) q)) [
      | true ↦ λ e. let is : x ≡ y = eqb-true x y e in sets.other q (λ same. ne (λ i. Some (sym is i ∷ same i)))
      | false ↦ λ e. refl
    ] refl

via_sets : (nodes : List Shape) (l : Level) (f g : Answer) (k : List ℕ) (o : Option (List ℕ)) → Sets f g k o → Sets (via nodes l f) (via nodes l g) (l.node.part ++ l.nibble ∷ k) o
via_sets nodes l f g k o sets =
    record {
      here = ap (hung nodes l.node l.nibble g) (stripped_front l.node.part (l.nibble ∷ k)) ∙ ap (λ b. cond b (g k) (found_in nodes (child l.node.row l.nibble) k)) (eq-eqb l.nibble l.nibble refl) ∙ sets.here;
      other = λ q ne. hung_other nodes l.node l.nibble f g k o sets (stripped l.node.part q) (λ e. ne (stripped_is l.node.part q (l.nibble ∷ k) e));
    }

pub plug_sets : (nodes : List Shape) (ls : List Level) (f g : Answer) (k : List ℕ) (o : Option (List ℕ)) → Sets f g k o → Sets (plug nodes ls f) (plug nodes ls g) (path ls ++ k) o
plug_sets nodes [] f g k o sets = record { here = sets.here; other = sets.other }
plug_sets nodes (l ∷ ls) f g k o sets =
    let more = plug_sets nodes ls (via nodes l f) (via nodes l g) (l.node.part ++ l.nibble ∷ k) o (via_sets nodes l f g k o sets) in
    let is : path ls ++ (l.node.part ++ l.nibble ∷ k) ≡ path (l ∷ ls) ++ k = ap (λ (r : List ℕ). path ls ++ r) (sym (append_assoc l.node.part (l.nibble ∷ []) k)) ∙ sym (append_assoc (path ls) (l.node.part ++ l.nibble ∷ []) k) in
    record {
      here = ap (λ (r : List ℕ). plug nodes ls (via nodes l g) r) (sym is) ∙ more.here;
      other = λ q ne. more.other q (λ e. ne (e ∙ is));
    }

-- ---- a child opened, or a node that isn't there yet
pub hung_opened : (nodes : List Shape) (n m : OpenNode) (x : ℕ) (f : Answer) → m.value ≡ n.value → m.row ≡ set n.row x None → ((k : List ℕ) → f k ≡ found_in nodes (child n.row x) k) → (r : Option (List ℕ)) → hung nodes m x f r ≡ given n.value (map (option_map (found nodes)) n.row) r
hung_opened nodes n m x f ev er h None = refl
hung_opened nodes n m x f ev er h (Some []) = ev
hung_opened nodes n m x f ev er h (Some (y ∷ k)) =
    elim (x == y) as (λ b. (x == y) ≡ b → cond b (f k) (found_in nodes (child m.row y) k) ≡ found_in nodes (child n.row y) k) [
      | true ↦ λ e. h k ∙ ap (λ z. found_in nodes (child n.row z) k) (eqb-true x y e)
      | false ↦ λ e. ap (λ (row : List (Option ℕ)). found_in nodes (child row y) k) er ∙ ap (λ o. found_in nodes o k) (child-set_other n.row x None y (λ same. not_same x y e (sym same)))
    ] refl
    ∙ sym (given_on nodes n.value n.row y k)

-- ---- the node behind closed
pub hung_closed : (nodes : List Shape) (n m : OpenNode) (x : ℕ) (id : Option ℕ) → m.value ≡ n.value → m.row ≡ set n.row x id → x < length n.row → (r : Option (List ℕ)) → given m.value (map (option_map (found nodes)) m.row) r ≡ hung nodes n x (found_in nodes id) r
hung_closed nodes n m x id ev er lt None = refl
hung_closed nodes n m x id ev er lt (Some []) = ev
hung_closed nodes n m x id ev er lt (Some (y ∷ k)) =
    given_on nodes m.value m.row y k
    ∙ ap (λ (row : List (Option ℕ)). found_in nodes (child row y) k) er
    ∙ elim (x == y) as (λ b. (x == y) ≡ b → found_in nodes (child (set n.row x id) y) k ≡ cond b (found_in nodes id k) (found_in nodes (child n.row y) k)) [
      | true ↦ λ e. ap (λ z. found_in nodes (child (set n.row x id) z) k) (sym (eqb-true x y e)) ∙ ap (λ o. found_in nodes o k) (child-set n.row x id lt)
      | false ↦ λ e. ap (λ o. found_in nodes o k) (child-set_other n.row x id y (λ same. not_same x y e (sym same)))
    ] refl

-- ---- arenas that grow
in_grown : (old new : List Shape) (o : Option ℕ) (k : List ℕ) → Extends old new → ((d : ℕ) → o ≡ Some d → d < length old) → found_in new o k ≡ found_in old o k
in_grown old new None k grows h = refl
in_grown old new (Some d) k grows h = ap (λ (f : Answer). f k) (extends_fold answer nothing old new d grows (h d refl))

hung_grown : (old new : List Shape) (n : OpenNode) (x : ℕ) (f : Answer) → Extends old new → IsOpen old n → (m : Option (List ℕ)) → hung new n x f m ≡ hung old n x f m
hung_grown old new n x f grows is None = refl
hung_grown old new n x f grows is (Some []) = refl
hung_grown old new n x f grows is (Some (y ∷ k)) = ap (λ (r : Option (List ℕ)). cond (x == y) (f k) r) (in_grown old new (child n.row y) k grows (λ d e. is.back y d e))

pub plug_grown : (old new : List Shape) (ls : List Level) (f : Answer) → Extends old new → AllByRecursion (IsLevel old) ls → (q : List ℕ) → plug new ls f q ≡ plug old ls f q
plug_grown old new [] f grows all q = refl
plug_grown old new (l ∷ ls) f grows all q =
    plug_grown old new ls (via new l f) grows all.1 q
    ∙ plug_same old ls (via new l f) (via old l f) (λ k. hung_grown old new l.node l.nibble f grows all.0.0 (stripped l.node.part k)) q

pub open_grown : (old new : List Shape) (n : OpenNode) → Extends old new → IsOpen old n → IsOpen new n
open_grown old new n grows is = record { small = is.small; back = λ x c e. let lt : c < length old = is.back x c e in omega (arith, extends_longer old new grows); sixteen = is.sixteen }

pub levels_grown : (old new : List Shape) (ls : List Level) → Extends old new → AllByRecursion (IsLevel old) ls → AllByRecursion (IsLevel new) ls
levels_grown old new [] grows all = tt
levels_grown old new (l ∷ ls) grows all = ((open_grown old new l.node grows all.0.0, all.0.1), levels_grown old new ls grows all.1)

pub costs_grown : (old new : List Shape) (n : OpenNode) → Extends old new → IsOpen old n → open_cost new n ≡ open_cost old n
costs_grown old new n grows is = ap (λ c. 2 + c) (costs_same (cost_at new) (cost_at old) n.row (λ x c e. extends_fold node_cost 0 old new c grows (is.back x c e)))

pub levels_cost_grown : (old new : List Shape) (ls : List Level) → Extends old new → AllByRecursion (IsLevel old) ls → levels_cost new ls ≡ levels_cost old ls
levels_cost_grown old new [] grows all = refl
levels_cost_grown old new (l ∷ ls) grows all = omega (arith, costs_grown old new l.node grows all.0.0, levels_cost_grown old new ls grows all.1)
