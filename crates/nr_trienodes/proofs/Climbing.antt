-- The way up: a changed node below a node, and what its hash costs.
use Rattle.std.proofs.Common.{◌≡◌, ◌<◌, ◌≤◌, ◌+◌, ◌*◌, ℕ, zero, suc, true, cond, List, [], ◌∷◌, length, set, map, Option, Some, None, refl, ap, sym, ◌∙◌, subst, arith}
use Rattle.std.specs.Prelude.{is_some, sum_by}
use Rattle.std.specs.Option.{option_map}
use Rattle.std.proofs.lemmas.List.Sums.{sum_by-cons}
use Rattle.nr_ids.specs.declared.key.Hash32.{Hash32}
use Rattle.nr_trienodes.specs.Shape.{Shape, child, shape_at}
use Rattle.nr_trienodes.specs.Tries.{Answer, found, found_in, or_zero, node_cost, cost_at, cost_in, weight, answer, nothing}
use Rattle.nr_trienodes.specs.Views.{Sound}
use Rattle.nr_trienodes.specs.Turns.{Sets, Extends, Takes, Leads, AreSteps, Settles, Changes, Climbs, stands_for, costs_below}
use Rattle.nr_trienodes.specs.declared.turn.Step.{Step}
use Rattle.nr_trienodes.proofs.Folds.{fold_at, children_same}
use Rattle.nr_trienodes.proofs.Sounds.{back_sound}
use Rattle.nr_trienodes.proofs.Founds.{found_is, found_on}
use Rattle.nr_trienodes.proofs.Sets.{extends_trans, extends_longer, extends_shape, extends_fold, sets_child}

-- ---- costs
pub cost_kept : (nodes : List Shape) (id : ℕ) → Sound nodes → id < length nodes → is_some (shape_at nodes id).hash ≡ true → cost_at nodes id ≡ 0
cost_kept nodes id sound lt some = fold_at node_cost 0 nodes id (back_sound nodes sound) lt ∙ ap (λ b. cond {A = ℕ} b 0 (weight (shape_at nodes id) (map (option_map (cost_at nodes)) (shape_at nodes id).below) + costs_below nodes (shape_at nodes id).below)) some

pub cost_new : (nodes : List Shape) (id : ℕ) → Sound nodes → id < length nodes → (shape_at nodes id).hash ≡ None → cost_at nodes id ≡ weight (shape_at nodes id) (map (option_map (cost_at nodes)) (shape_at nodes id).below) + costs_below nodes (shape_at nodes id).below
cost_new nodes id sound lt none = fold_at node_cost 0 nodes id (back_sound nodes sound) lt ∙ ap (λ (h : Option Hash32). cond {A = ℕ} (is_some h) 0 (weight (shape_at nodes id) (map (option_map (cost_at nodes)) (shape_at nodes id).below) + costs_below nodes (shape_at nodes id).below)) none

costs-cons : (f : ℕ → ℕ) (c : Option ℕ) (cs : List (Option ℕ)) → sum_by or_zero (map (option_map f) (c ∷ cs)) ≡ or_zero (option_map f c) + sum_by or_zero (map (option_map f) cs)
costs-cons f c cs = sum_by-cons or_zero (option_map f c) (map (option_map f) cs)

no_costs : (f : ℕ → ℕ) (cs : List (Option ℕ)) → ((x c : ℕ) → child cs x ≡ Some c → f c ≡ 0) → sum_by or_zero (map (option_map f) cs) ≡ 0
no_costs f [] h = refl
no_costs f (None ∷ cs) h = omega (arith, costs-cons f None cs, no_costs f cs (λ x c e. h (suc x) c e))
no_costs f (Some c ∷ cs) h = omega (arith, costs-cons f (Some c) cs, no_costs f cs (λ x d e. h (suc x) d e), h 0 c refl)

pub costs_less : (nodes : List Shape) (id : ℕ) → Sound nodes → id < length nodes → costs_below nodes (shape_at nodes id).below ≤ cost_at nodes id
costs_less nodes id sound lt =
    let s : Shape = shape_at nodes id in
    elim (s.hash) as (λ h. s.hash ≡ h → costs_below nodes s.below ≤ cost_at nodes id) [
      | None ↦ λ e. omega (arith, cost_new nodes id sound lt e)
      | Some h ↦ λ e.
          let some : is_some s.hash ≡ true = ap (λ (o : Option Hash32). is_some o) e in
          let none : costs_below nodes s.below ≡ 0 = no_costs (cost_at nodes) s.below (λ x c f. let less : c < id = (sound id lt).back x c f in cost_kept nodes c sound (omega arith) ((sound id lt).closed some x c f)) in
          omega arith
    ] refl

pub costs-set : (f : ℕ → ℕ) (cs : List (Option ℕ)) (x : ℕ) (c : Option ℕ) → x < length cs → sum_by or_zero (map (option_map f) (set cs x c)) + or_zero (option_map f (child cs x)) ≡ sum_by or_zero (map (option_map f) cs) + or_zero (option_map f c)
costs-set f [] x c lt = absurd (omega arith)
costs-set f (d ∷ cs) zero c lt = omega (arith, costs-cons f c cs, costs-cons f d cs)
costs-set f (d ∷ cs) (suc x) c lt = omega (arith, costs-cons f d (set cs x c), costs-cons f d cs, costs-set f cs x c (omega arith))

pub costs_same : (f g : ℕ → ℕ) (cs : List (Option ℕ)) → ((x c : ℕ) → child cs x ≡ Some c → f c ≡ g c) → sum_by or_zero (map (option_map f) cs) ≡ sum_by or_zero (map (option_map g) cs)
costs_same f g cs same = ap (sum_by or_zero) (children_same f g cs same)

cost_of : (nodes : List Shape) (c : Option ℕ) → or_zero (option_map (cost_at nodes) c) ≡ cost_in nodes c
cost_of nodes None = refl
cost_of nodes (Some c) = refl

-- the costs of a row with another child, over newer nodes
pub costs_changed : (old mid : List Shape) (cs : List (Option ℕ)) (x : ℕ) (c : Option ℕ) (extra : ℕ) → x < length cs → Extends old mid → ((y d : ℕ) → child cs y ≡ Some d → d < length old) → cost_in mid c ≤ cost_in old (child cs x) + extra → costs_below mid (set cs x c) ≤ costs_below old cs + extra
costs_changed old mid cs x c extra lt grows back le =
    let same : costs_below mid cs ≡ costs_below old cs = costs_same (cost_at mid) (cost_at old) cs (λ y d e. extends_fold node_cost 0 old mid d grows (back y d e)) in
    let old_child : cost_in mid (child cs x) ≡ cost_in old (child cs x) = at_child (child cs x) (λ d e. back x d e) in
    omega (arith, costs-set (cost_at mid) cs x c lt, cost_of mid c, cost_of mid (child cs x))
  where
    at_child : (o : Option ℕ) → ((d : ℕ) → o ≡ Some d → d < length old) → cost_in mid o ≡ cost_in old o
    at_child None h = refl
    at_child (Some d) h = extends_fold node_cost 0 old mid d grows (h d refl)

-- ---- a look-up over a changed row
pub same_below : (old mid : List Shape) (id : ℕ) → Sound old → id < length old → Extends old mid → (d : ℕ) (q : List ℕ) → ((y : ℕ) × (child (shape_at old id).below y ≡ Some d)) → found mid d q ≡ found old d q
same_below old mid id sound lt grows d q at =
    let less : d < id = (sound id lt).back at.0 d at.1 in
    ap (λ (f : Answer). f q) (extends_fold answer nothing old mid d grows (omega arith))

pub found_of : (nodes : List Shape) (id : ℕ) (q : List ℕ) → Sound nodes → id < length nodes → found nodes id q ≡ stands_for nodes (shape_at nodes id).part (shape_at nodes id).value (shape_at nodes id).below q
found_of nodes id q sound lt = found_is nodes id q sound lt

pub sets_via : (f g h k : Answer) (key : List ℕ) (o : Option (List ℕ)) → Sets f g key o → ((q : List ℕ) → h q ≡ f q) → ((q : List ℕ) → k q ≡ g q) → Sets h k key o
sets_via f g h k key o s hf kg = record { here = kg key ∙ s.here; other = λ q ne. kg q ∙ s.other q ne ∙ sym (hf q) }

-- a changed child below a node, which is settled
pub lifted : (old mid new : List Shape) (node x at : ℕ) (below id : Option ℕ) (key rest : List ℕ) (o : Option (List ℕ)) (extra : ℕ) → Sound old → Extends old mid → Takes old node key x at rest → Changes old mid (Some at) below rest o extra
    → Settles mid new (shape_at mid node).part (shape_at mid node).value (set (shape_at mid node).below x below) id → Changes old new (Some node) id key o (extra + 2)
lifted old mid new node x at below id key rest o extra sound grows takes changes settles =
    let s : Shape = shape_at old node in
    let same : shape_at mid node ≡ s = extends_shape old mid node grows takes.there in
    let set_s : Settles mid new s.part s.value (set s.below x below) id = subst (λ (t : Shape). Settles mid new t.part t.value (set t.below x below) id) same settles in
    let st = sound node takes.there in
    let len : length s.below ≡ 16 = st.sixteen in
    let small : x < 16 = takes.small in
    let there : x < length s.below = omega arith in
    let child_sets : Sets (found_in old (child s.below x)) (found_in mid below) rest o = subst (λ c. Sets (found_in old c) (found_in mid below) rest o) (sym takes.down) changes.sets in
    let le : cost_in mid below ≤ cost_in old (child s.below x) + extra = subst (λ c. cost_in mid below ≤ cost_in old c + extra) (sym takes.down) changes.cost in
    let costs : costs_below mid (set s.below x below) ≤ costs_below old s.below + extra = costs_changed old mid s.below x below extra there grows (λ y d e. let less : d < node = st.back y d e in let lt : node < length old = takes.there in omega arith) le in
    record {
      there = set_s.there;
      sets = sets_via (stands_for old s.part s.value s.below) (stands_for mid s.part s.value (set s.below x below)) (found_in old (Some node)) (found_in new id) key o
          (sets_child old mid s.part s.value s.below x below rest key o there (same_below old mid node sound takes.there grows) takes.part child_sets)
          (λ q. found_of old node q sound takes.there) set_s.same;
      cost = omega (arith, set_s.cost, costs, costs_less old node sound takes.there);
    }

pub changes_more : (old new : List Shape) (at id : Option ℕ) (key : List ℕ) (o : Option (List ℕ)) (a b : ℕ) → a ≤ b → Changes old new at id key o a → Changes old new at id key o b
changes_more old new at id key o a b le c = record { there = c.there; sets = c.sets; cost = omega (arith, c.cost) }

-- ---- the loop
pub record Rising (old now : List Shape) (root : ℕ) (key : List ℕ) (way : List Step) (below : Option ℕ) (o : Option (List ℕ)) (total : ℕ) : Type 0 where
  pub at : ℕ
  pub rest : List ℕ
  pub extra : ℕ
  pub leads : Leads old root key way at rest
  pub changes : Changes old now (Some at) below rest o extra
  pub few : extra + 2 * length way ≤ total

-- what `climb` keeps from its beginning
abbrev pub Rises : List Shape → List Step → Option ℕ → List Shape → List Step → Option ℕ → Type 0
Rises first way0 below0 now way below =
    (old : List Shape) (root : ℕ) (key : List ℕ) (at : ℕ) (rest : List ℕ) (o : Option (List ℕ)) (extra : ℕ)
    → Sound old → Extends old first → Leads old root key way0 at rest → Changes old first (Some at) below0 rest o extra → Rising old now root key way below o (extra + 2 * length way0)

pub rises_first : (first : List Shape) (way : List Step) (below : Option ℕ) → Rises first way below first way below
rises_first first way below old root key at rest o extra sound grows leads changes = record { at = at; rest = rest; extra = extra; leads = leads; changes = changes; few = omega arith }

pub risen : (first : List Shape) (way0 : List Step) (below0 : Option ℕ) (now new : List Shape) (way more : List Step) (s : Step) (below id : Option ℕ) → Extends first now → Rises first way0 below0 now way below → way ≡ s ∷ more
    → Settles now new (shape_at now s.node).part (shape_at now s.node).value (set (shape_at now s.node).below s.nibble below) id → Rises first way0 below0 new more id
risen first way0 below0 now new way more s below id grown rises e settles old root key at rest o extra sound grows leads changes =
    let r : Rising old now root key (s ∷ more) below o (extra + 2 * length way0) = subst (λ (w : List Step). Rising old now root key w below o (extra + 2 * length way0)) e (rises old root key at rest o extra sound grows leads changes) in
    record {
      at = s.node;
      rest = r.leads.0;
      extra = r.extra + 2;
      leads = r.leads.1.1;
      changes = lifted old now new s.node s.nibble r.at below id r.leads.0 r.rest o r.extra sound (extends_trans old first now grows grown) r.leads.1.0 r.changes settles;
      few = omega (arith, r.few);
    }

pub climbed : (first : List Shape) (way0 : List Step) (below0 : Option ℕ) (now : List Shape) (way : List Step) (below : Option ℕ) → Rises first way0 below0 now way below → way ≡ [] → Climbs first now way0 below0 below
climbed first way0 below0 now way below rises e old root key at rest o extra sound grows leads changes =
    let r : Rising old now root key [] below o (extra + 2 * length way0) = subst (λ (w : List Step). Rising old now root key w below o (extra + 2 * length way0)) e (rises old root key at rest o extra sound grows leads changes) in
    let at_root : Changes old now (Some root) below r.rest o r.extra = subst (λ n. Changes old now (Some n) below r.rest o r.extra) r.leads.0 r.changes in
    changes_more old now (Some root) below key o r.extra (extra + 2 * length way0) (omega (arith, r.few)) (subst (λ (k : List ℕ). Changes old now (Some root) below k o r.extra) r.leads.1 at_root)

pub steps_more : (old new : List Shape) (way : List Step) → Extends old new → AreSteps old way → AreSteps new way
steps_more old new [] grows all = tt
steps_more old new (s ∷ way) grows all = ((let lt : s.node < length old = all.0.0 in omega (arith, extends_longer old new grows), all.0.1), steps_more old new way grows all.1)

pub first_step : (nodes : List Shape) (way more : List Step) (s : Step) → AreSteps nodes way → way ≡ s ∷ more → ((s.node < length nodes) × (s.nibble < 16)) × AreSteps nodes more
first_step nodes way more s all e = subst (AreSteps nodes) e all

-- ---- the way leads where the look-up goes
pub leads_found : (nodes : List Shape) (root : ℕ) (key : List ℕ) (way : List Step) (at : ℕ) (rest : List ℕ) → Sound nodes → Leads nodes root key way at rest → found nodes root key ≡ found nodes at rest
leads_found nodes root key [] at rest sound leads = (λ i. found nodes (sym leads.0 i) (sym leads.1 i))
leads_found nodes root key (s ∷ way) at rest sound leads =
    leads_found nodes root key way s.node leads.0 sound leads.1.1
    ∙ found_on nodes s.node leads.0 s.nibble rest (Some at) sound leads.1.0.there leads.1.0.part leads.1.0.down
