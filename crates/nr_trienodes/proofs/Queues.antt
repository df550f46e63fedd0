-- The queue of nodes whose hashes are to be made: how it is gathered, and how it is worked off from its end.
use Rattle.std.proofs.Common.{◌≡◌, ◌≢◌, ◌==◌, ◌<◌, ◌≤◌, ◌+◌, ◌-◌, ◌++◌, ℕ, zero, suc, Bool, true, false, cond, List, [], ◌∷◌, length, take, drop, get_or, map, Option, Some, None, refl, ap, sym, ◌∙◌, subst, add-one, length-append, append_assoc, inl, inr, arith}
use Rattle.std.specs.Prelude.{is_some, sum_by}
use Rattle.std.specs.Option.{option_map}
use Rattle.std.proofs.lemmas.Bool.{eqb-true, cases_lt}
use Rattle.std.proofs.lemmas.List.{append-nil}
use Rattle.std.proofs.lemmas.List.Sums.{sum_by-cons, sum_by-append, sum_by_push}
use Rattle.nr_ids.specs.declared.key.Hash32.{Hash32}
use Rattle.nr_trienodes.specs.Shape.{Shape, child, shape_at, no_children}
use Rattle.nr_trienodes.specs.Tries.{or_zero, weight, is_leaf, cost_at}
use Rattle.nr_trienodes.specs.Views.{Sound, IsIn, KeepsHash}
use Rattle.nr_trienodes.specs.Hashing.{is_hashed, HasHashes, weight_at, cold, IsBehind, IsQueue, Gathering, Gathers, Warms}
use Rattle.nr_trienodes.proofs.Folds.{not_same}
use Rattle.nr_trienodes.proofs.Sounds.{count-children}
use Rattle.nr_trienodes.proofs.Climbing.{cost_new}
use Rattle.nr_trienodes.proofs.Hashed.{warm_trans, warm_one, warm_here, weight_same, weight_pos}

-- ---- the children that are cold
cold_step : (nodes : List Shape) (row : List (Option ℕ)) (i : ℕ) → i < length row → cold nodes (take (suc i) row) ≡ cold nodes (take i row) ++ cold nodes (get_or row i None ∷ [])
cold_step nodes [] i lt = absurd (omega arith)
cold_step nodes (None ∷ row) zero lt = refl
cold_step nodes (Some c ∷ row) zero lt = refl
cold_step nodes (None ∷ row) (suc i) lt = cold_step nodes row i (omega arith)
cold_step nodes (Some c ∷ row) (suc i) lt =
    elim (is_hashed nodes c) as (λ b. cond b (cold nodes (take (suc i) row)) (c ∷ cold nodes (take (suc i) row)) ≡ cond b (cold nodes (take i row)) (c ∷ cold nodes (take i row)) ++ cold nodes (get_or row i None ∷ [])) [
      | true ↦ cold_step nodes row i (omega arith)
      | false ↦ ap (λ (l : List ℕ). c ∷ l) (cold_step nodes row i (omega arith))
    ]

-- the queue behind the first children
pub record Pushed (nodes : List Shape) (row : List (Option ℕ)) (i : ℕ) (old new : List ℕ) : Type 0 where
  pub is : new ≡ old ++ cold nodes (take i row)

pub cold_nothing : (nodes : List Shape) (below : List (Option ℕ)) (queue : List ℕ) → below ≡ no_children → queue ≡ queue ++ cold nodes below
cold_nothing nodes below queue none = sym (append-nil queue) ∙ ap (λ (r : List (Option ℕ)). queue ++ cold nodes r) (sym none)

pub pushed_first : (nodes : List Shape) (below : List (Option ℕ)) (queue : List ℕ) → Pushed nodes below 0 queue queue
pushed_first nodes below queue = record { is = sym (append-nil queue) }

pub pushed_more : (nodes : List Shape) (row : List (Option ℕ)) (i j : ℕ) (old new more : List ℕ) → Pushed nodes row i old new → i < length row → j ≡ i + 1 → more ≡ new ++ cold nodes (get_or row i None ∷ []) → Pushed nodes row j old more
pushed_more nodes row i j old new more p lt ej em =
    record { is = em ∙ ap (λ (l : List ℕ). l ++ cold nodes (get_or row i None ∷ [])) p.is ∙ append_assoc old (cold nodes (take i row)) (cold nodes (get_or row i None ∷ [])) ∙ ap (λ (l : List ℕ). old ++ l) (sym (cold_step nodes row i lt)) ∙ ap (λ n. old ++ cold nodes (take n row)) (sym (ej ∙ add-one i)) }

pub cold_absent : (nodes : List Shape) (child : Option ℕ) (queue : List ℕ) → child ≡ None → queue ≡ queue ++ cold nodes (child ∷ [])
cold_absent nodes child queue e = sym (append-nil queue) ∙ ap (λ (c : Option ℕ). queue ++ cold nodes (c ∷ [])) (sym e)

pub cold_kept : (nodes : List Shape) (child : Option ℕ) (id : ℕ) (h : Hash32) (kept : Option Hash32) (queue : List ℕ) → child ≡ Some id → kept ≡ (shape_at nodes id).hash → kept ≡ Some h → queue ≡ queue ++ cold nodes (child ∷ [])
cold_kept nodes child id h kept queue e k s =
    let warm : is_hashed nodes id ≡ true = ap (λ (o : Option Hash32). is_some o) (sym k ∙ s) in
    sym (append-nil queue) ∙ ap (λ b. queue ++ cond {A = List ℕ} b [] (id ∷ [])) (sym warm) ∙ ap (λ (c : Option ℕ). queue ++ cold nodes (c ∷ [])) (sym e)

pub cold_new : (nodes : List Shape) (child : Option ℕ) (id : ℕ) (kept : Option Hash32) (queue new : List ℕ) → child ≡ Some id → kept ≡ (shape_at nodes id).hash → kept ≡ None → new ≡ queue ++ id ∷ [] → new ≡ queue ++ cold nodes (child ∷ [])
cold_new nodes child id kept queue new e k s n =
    let none : is_hashed nodes id ≡ false = ap (λ (o : Option Hash32). is_some o) (sym k ∙ s) in
    n ∙ ap (λ b. queue ++ cond {A = List ℕ} b [] (id ∷ [])) (sym none) ∙ ap (λ (c : Option ℕ). queue ++ cold nodes (c ∷ [])) (sym e)

pub in_arena : (n : ℕ) (child : Option ℕ) (id : ℕ) → IsIn n child → child ≡ Some id → id < n
in_arena n child id is e = subst (IsIn n) e is

take_all : {A : Type 0} (l : List A) (n : ℕ) → length l ≤ n → take n l ≡ l
take_all [] zero le = refl
take_all [] (suc n) le = refl
take_all (x ∷ l) zero le = absurd (omega arith)
take_all {A} (x ∷ l) (suc n) le = ap (λ (r : List A). x ∷ r) (take_all l n (omega arith))

pub pushed_all : (nodes : List Shape) (row : List (Option ℕ)) (i : ℕ) (old new : List ℕ) → Pushed nodes row i old new → length row ≤ i → new ≡ old ++ cold nodes row
pushed_all nodes row i old new p le = p.is ∙ ap (λ (r : List (Option ℕ)). old ++ cold nodes r) (take_all row i le)

-- each of them is a child
record IsCold (nodes : List Shape) (row : List (Option ℕ)) (c : ℕ) : Type 0 where
  place : ℕ
  is : child row place ≡ Some c
  cold : is_hashed nodes c ≡ false

cold_cons : (nodes : List Shape) (c : ℕ) (row : List (Option ℕ)) → is_hashed nodes c ≡ false → ((p : ℕ) → p < length (cold nodes row) → IsCold nodes row (get_or (cold nodes row) p 0)) → (q : ℕ) → q < suc (length (cold nodes row)) → IsCold nodes (Some c ∷ row) (get_or (c ∷ cold nodes row) q 0)
cold_cons nodes c row e all zero less = record { place = 0; is = refl; cold = e }
cold_cons nodes c row e all (suc q) less = let i = all q (omega arith) in record { place = suc i.place; is = i.is; cold = i.cold }

cold_child : (nodes : List Shape) (row : List (Option ℕ)) (p : ℕ) → p < length (cold nodes row) → IsCold nodes row (get_or (cold nodes row) p 0)
cold_child nodes [] p lt = absurd (omega arith)
cold_child nodes (None ∷ row) p lt = let i = cold_child nodes row p lt in record { place = suc i.place; is = i.is; cold = i.cold }
cold_child nodes (Some c ∷ row) p lt =
    elim (is_hashed nodes c) as (λ b. is_hashed nodes c ≡ b → p < length (cond {A = List ℕ} b (cold nodes row) (c ∷ cold nodes row)) → IsCold nodes (Some c ∷ row) (get_or (cond {A = List ℕ} b (cold nodes row) (c ∷ cold nodes row)) p 0)) [
      | true ↦ λ e less. let i = cold_child nodes row p less in record { place = suc i.place; is = i.is; cold = i.cold }
      | false ↦ λ e less. cold_cons nodes c row e (λ q h. cold_child nodes row q h) p less
    ] refl lt

-- and each cold child is among them
cold_there : (nodes : List Shape) (row : List (Option ℕ)) (x c : ℕ) → child row x ≡ Some c → is_hashed nodes c ≡ false → (p : ℕ) × ((p < length (cold nodes row)) × (get_or (cold nodes row) p 0 ≡ c))
cold_there nodes [] x c e h = absurd cc
cold_there nodes (None ∷ row) zero c e h = absurd cc
cold_there nodes (None ∷ row) (suc x) c e h = cold_there nodes row x c e h
cold_there nodes (Some d ∷ row) zero c e h =
    let same : d ≡ c = cc in
    let hd : is_hashed nodes d ≡ false = ap (is_hashed nodes) same ∙ h in
    subst (λ b. (p : ℕ) × ((p < length (cond {A = List ℕ} b (cold nodes row) (d ∷ cold nodes row))) × (get_or (cond {A = List ℕ} b (cold nodes row) (d ∷ cold nodes row)) p 0 ≡ c))) (sym hd) (0, (omega arith, same))
cold_there nodes (Some d ∷ row) (suc x) c e h =
    let i = cold_there nodes row x c e h in
    elim (is_hashed nodes d) as (λ b. (p : ℕ) × ((p < length (cond {A = List ℕ} b (cold nodes row) (d ∷ cold nodes row))) × (get_or (cond {A = List ℕ} b (cold nodes row) (d ∷ cold nodes row)) p 0 ≡ c))) [
      | true ↦ i
      | false ↦ (suc i.0, (let lt : i.0 < length (cold nodes row) = i.1.0 in omega arith, i.1.1))
    ]

cold_costs : (nodes : List Shape) (row : List (Option ℕ)) → sum_by (cost_at nodes) (cold nodes row) ≤ sum_by or_zero (map (option_map (cost_at nodes)) row)
cold_costs nodes [] = omega arith
cold_costs nodes (None ∷ row) = omega (arith, cold_costs nodes row, sum_by-cons or_zero None (map (option_map (cost_at nodes)) row))
cold_costs nodes (Some c ∷ row) =
    elim (is_hashed nodes c) as (λ b. sum_by (cost_at nodes) (cond {A = List ℕ} b (cold nodes row) (c ∷ cold nodes row)) ≤ sum_by or_zero (map (option_map (cost_at nodes)) (Some c ∷ row))) [
      | true ↦ omega (arith, cold_costs nodes row, sum_by-cons or_zero (Some (cost_at nodes c)) (map (option_map (cost_at nodes)) row))
      | false ↦ omega (arith, cold_costs nodes row, sum_by-cons or_zero (Some (cost_at nodes c)) (map (option_map (cost_at nodes)) row), sum_by-cons (cost_at nodes) c (cold nodes row))
    ]

-- ---- gathering
pub gathering_none : (nodes : List Shape) (root : ℕ) → is_hashed nodes root ≡ true → Gathering nodes root [] 0
gathering_none nodes root warm = record { within = omega arith; there = λ j lt. absurd (omega arith); cold = λ j lt. absurd (omega arith); top = λ e. absurd cc; below = λ j x c lt. absurd (omega arith); cost = omega arith }

pub gathering_one : (nodes : List Shape) (root : ℕ) → root < length nodes → is_hashed nodes root ≡ false → Gathering nodes root (root ∷ []) 0
gathering_one nodes root lt cold_root =
    record {
      within = omega arith;
      there = λ j less. elim j as (λ k. k < 1 → get_or (root ∷ []) k 0 < length nodes) [ zero ↦ λ h. lt | suc k ↦ λ h. absurd (omega arith) ] less;
      cold = λ j less. elim j as (λ k. k < 1 → is_hashed nodes (get_or (root ∷ []) k 0) ≡ false) [ zero ↦ λ h. cold_root | suc k ↦ λ h. absurd (omega arith) ] less;
      top = λ e. (0, (omega arith, refl));
      below = λ j x c less. absurd (omega arith);
      cost = omega arith;
    }

get_first : (a b : List ℕ) (i : ℕ) → i < length a → get_or (a ++ b) i 0 ≡ get_or a i 0
get_first [] b i lt = absurd (omega arith)
get_first (x ∷ a) b zero lt = refl
get_first (x ∷ a) b (suc i) lt = get_first a b i (omega arith)

get_behind : (a b : List ℕ) (i : ℕ) → get_or (a ++ b) (length a + i) 0 ≡ get_or b i 0
get_behind [] b i = ap (λ n. get_or b n 0) (let e : 0 + i ≡ i = omega arith in e)
get_behind (x ∷ a) b i = ap (λ n. get_or (x ∷ (a ++ b)) n 0) (let e : suc (length a) + i ≡ suc (length a + i) = omega arith in e) ∙ get_behind a b i

take_first : (a b : List ℕ) (n : ℕ) → n ≤ length a → take n (a ++ b) ≡ take n a
take_first a b zero le = refl
take_first [] b (suc n) le = absurd (omega arith)
take_first (x ∷ a) b (suc n) le = ap (λ (l : List ℕ). x ∷ l) (take_first a b n (omega arith))

drop_first : (a b : List ℕ) (n : ℕ) → n ≤ length a → drop n (a ++ b) ≡ drop n a ++ b
drop_first a b zero le = refl
drop_first [] b (suc n) le = absurd (omega arith)
drop_first (x ∷ a) b (suc n) le = drop_first a b n (omega arith)

sum_take : (f : ℕ → ℕ) (l : List ℕ) (n : ℕ) → n < length l → sum_by f (take (suc n) l) ≡ sum_by f (take n l) + f (get_or l n 0)
sum_take f [] n lt = absurd (omega arith)
sum_take f (x ∷ l) zero lt = omega (arith, sum_by-cons f x [])
sum_take f (x ∷ l) (suc n) lt = omega (arith, sum_by-cons f x (take (suc n) l), sum_by-cons f x (take n l), sum_take f l n (omega arith))

sum_drop : (f : ℕ → ℕ) (l : List ℕ) (n : ℕ) → n < length l → sum_by f (drop n l) ≡ f (get_or l n 0) + sum_by f (drop (suc n) l)
sum_drop f [] n lt = absurd (omega arith)
sum_drop f (x ∷ l) zero lt = sum_by-cons f x l
sum_drop f (x ∷ l) (suc n) lt = sum_drop f l n (omega arith)

weight_of : (nodes : List Shape) (id : ℕ) → weight (shape_at nodes id) (map (option_map (cost_at nodes)) (shape_at nodes id).below) ≡ weight_at nodes id
weight_of nodes id = ap (λ n. cond {A = ℕ} (is_leaf (shape_at nodes id).value n) 1 (cond {A = ℕ} (length (shape_at nodes id).part == 0) 1 2)) (count-children (cost_at nodes) (shape_at nodes id).below)

cold_hash : (h : Option Hash32) → is_some h ≡ false → h ≡ None
cold_hash None e = refl
cold_hash (Some h) e = absurd cc

-- what the next name brings costs no more than it does
next_costs : (nodes : List Shape) (id : ℕ) → Sound nodes → id < length nodes → is_hashed nodes id ≡ false → weight_at nodes id + sum_by (cost_at nodes) (cold nodes (shape_at nodes id).below) ≤ cost_at nodes id
next_costs nodes id sound lt e = omega (arith, cost_new nodes id sound lt (cold_hash (shape_at nodes id).hash e), weight_of nodes id, cold_costs nodes (shape_at nodes id).below)

pub gathering_next : (nodes : List Shape) (root : ℕ) (names new : List ℕ) (next m : ℕ) → Sound nodes → Gathering nodes root names next → next < length names → m ≡ next + 1 → new ≡ names ++ cold nodes (shape_at nodes (get_or names next 0)).below → Gathering nodes root new m
gathering_next nodes root names new next m sound g lt em en = subst (Gathering nodes root new) (sym (em ∙ add-one next)) (subst (λ (l : List ℕ). Gathering nodes root l (suc next)) (sym en) after)
  where
    id : ℕ
    id = get_or names next 0

    more : List ℕ
    more = cold nodes (shape_at nodes (get_or names next 0)).below

    len : length (names ++ cold nodes (shape_at nodes (get_or names next 0)).below) ≡ length names + length (cold nodes (shape_at nodes (get_or names next 0)).below)
    len = length-append names (cold nodes (shape_at nodes (get_or names next 0)).below)

    each : (P : ℕ → Type 0) → ((j : ℕ) → j < length names → P (get_or names j 0))
        → ((p : ℕ) → p < length (cold nodes (shape_at nodes (get_or names next 0)).below)
        → P (get_or (cold nodes (shape_at nodes (get_or names next 0)).below) p 0)) → (j : ℕ)
        → j < length (names ++ cold nodes (shape_at nodes (get_or names next 0)).below)
        → P (get_or (names ++ cold nodes (shape_at nodes (get_or names next 0)).below) j 0)
    each P a b j less =
        elim (cases_lt j (length names)) [
          | inl first ↦ subst P (sym (get_first names (cold nodes (shape_at nodes (get_or names next 0)).below) j first)) (a j first)
          | inr behind ↦
              let split : j ≡ length names + (j - length names) = omega arith in
              let at : get_or (names ++ cold nodes (shape_at nodes (get_or names next 0)).below) j 0 ≡ get_or (cold nodes (shape_at nodes (get_or names next 0)).below) (j - length names) 0 = ap (λ n. get_or (names ++ cold nodes (shape_at nodes (get_or names next 0)).below) n 0) split ∙ get_behind names (cold nodes (shape_at nodes (get_or names next 0)).below) (j - length names) in
              subst P (sym at) (b (j - length names) (omega (arith, len)))
        ]

    after : Gathering nodes root (names ++ cold nodes (shape_at nodes (get_or names next 0)).below) (suc next)
    after =
        let row : List (Option ℕ) = (shape_at nodes (get_or names next 0)).below in
        let all : List ℕ = names ++ cold nodes row in
        let here : get_or names next 0 < length nodes = g.there next lt in
        record {
          within = omega (arith, len);
          there = each (λ c. c < length nodes) g.there (λ p less. let i = cold_child nodes row p less in let small : get_or (cold nodes row) p 0 < get_or names next 0 = (sound (get_or names next 0) here).back i.place (get_or (cold nodes row) p 0) i.is in omega arith);
          cold = each (λ c. is_hashed nodes c ≡ false) g.cold (λ p less. (cold_child nodes row p less).cold);
          top = λ e. let k = g.top e in (k.0, ((let less : k.0 < length names = k.1.0 in omega (arith, len)), get_first names (cold nodes row) k.0 k.1.0 ∙ k.1.1));
          below = λ j x c less e h. by_place j x c (j == next) refl less e h;
          cost = let costs = next_costs nodes (get_or names next 0) sound here (g.cold next lt) in
              omega (
                arith,
                g.cost,
                costs,
                ap (sum_by (weight_at nodes))
                    (take_first names (cold nodes row) (suc next) (omega arith)),
                ap (sum_by (cost_at nodes)) (drop_first names (cold nodes row) (suc next) (omega arith)),
                sum_by-append (cost_at nodes) (drop (suc next) names) (cold nodes row),
                sum_take (weight_at nodes) names next lt,
                sum_drop (cost_at nodes) names next lt,
              );
        }
      where
        by_place : (j x c : ℕ) (b : Bool) → (j == next) ≡ b → j < suc next → child (shape_at nodes (get_or (names ++ cold nodes (shape_at nodes (get_or names next 0)).below) j 0)).below x ≡ Some c → is_hashed nodes c ≡ false → IsBehind (names ++ cold nodes (shape_at nodes (get_or names next 0)).below) j c
        by_place j x c true t less e h =
            let row : List (Option ℕ) = (shape_at nodes (get_or names next 0)).below in
            let same : j ≡ next = eqb-true j next t in
            let at : get_or (names ++ cold nodes row) j 0 ≡ get_or names next 0 = ap (λ n. get_or (names ++ cold nodes row) n 0) same ∙ get_first names (cold nodes row) next lt in
            let f : child row x ≡ Some c = ap (λ n. child (shape_at nodes n).below x) (sym at) ∙ e in
            let i = cold_there nodes row x c f h in
            (length names + i.0, (omega arith, (let in_cold : i.0 < length (cold nodes row) = i.1.0 in omega (arith, len)), get_behind names (cold nodes row) i.0 ∙ i.1.1))
        by_place j x c false t less e h =
            let row : List (Option ℕ) = (shape_at nodes (get_or names next 0)).below in
            let ne : j ≢ next = not_same j next t in
            let before : j < next = omega arith in
            let f : child (shape_at nodes (get_or names j 0)).below x ≡ Some c = ap (λ n. child (shape_at nodes n).below x) (sym (get_first names (cold nodes row) j (omega arith))) ∙ e in
            let k = g.below j x c before f h in
            (k.0, (k.1.0, (let less_k : k.0 < length names = k.1.1 in omega (arith, len)), get_first names (cold nodes row) k.0 k.1.1 ∙ k.1.2))

pub gathered : (nodes : List Shape) (root : ℕ) (names : List ℕ) (next : ℕ) → Gathering nodes root names next → length names ≤ next → Gathers nodes root names
gathered nodes root names next g le =
    record {
      queue = record { there = g.there; below = λ j x c lt e h. g.below j x c (omega arith) e h };
      top = g.top;
      cost = omega (arith, g.cost, ap (sum_by (weight_at nodes)) (take_all names next le));
    }

-- what is left to be looked at falls
pub gathering_falls : (nodes : List Shape) (root : ℕ) (names new : List ℕ) (next m : ℕ) → Sound nodes → Gathering nodes root names next → next < length names → m ≡ next + 1 → new ≡ names ++ cold nodes (shape_at nodes (get_or names next 0)).below → sum_by (cost_at nodes) (drop m new) < sum_by (cost_at nodes) (drop next names)
gathering_falls nodes root names new next m sound g lt em en =
    let row : List (Option ℕ) = (shape_at nodes (get_or names next 0)).below in
    let is : sum_by (cost_at nodes) (drop m new) ≡ sum_by (cost_at nodes) (drop (suc next) names) + sum_by (cost_at nodes) (cold nodes row) =
    (λ i. sum_by (cost_at nodes) (drop ((em ∙ add-one next) i) (en i))) ∙ ap (sum_by (cost_at nodes)) (drop_first names (cold nodes row) (suc next) (omega arith)) ∙ sum_by-append (cost_at nodes) (drop (suc next) names) (cold nodes row) in
    omega (arith, is, sum_drop (cost_at nodes) names next lt, next_costs nodes (get_or names next 0) sound (g.there next lt) (g.cold next lt), weight_pos nodes (get_or names next 0))

-- ---- working off
-- what is done behind the first names of the queue
pub record Warming (old now : List Shape) (queue left : List ℕ) : Type 0 where
  pub warms : Warms old now
  pub prefix : left ≡ take (length left) queue
  pub done : (j : ℕ) → length left ≤ j → j < length queue → is_hashed now (get_or queue j 0) ≡ true

popped : (a : List ℕ) (x n : ℕ) (q : List ℕ) → a ++ x ∷ [] ≡ take n q → (a ≡ take (length a) q) × (get_or q (length a) 0 ≡ x) × (length a < length q)
popped [] x zero q e = absurd cc
popped [] x (suc n) [] e = absurd cc
popped [] x (suc n) (y ∷ q) e = let same : x ≡ y = cc in (refl, sym same, omega arith)
popped (b ∷ a) x zero q e = absurd cc
popped (b ∷ a) x (suc n) [] e = absurd cc
popped (b ∷ a) x (suc n) (y ∷ q) e =
    let head : b ≡ y = cc in
    let tail : a ++ x ∷ [] ≡ take n q = cc in
    let more = popped a x n q tail in
    ((λ i. head i ∷ more.0 i), more.1, let lt : length a < length q = more.2 in omega arith)

pub record Next (old now : List Shape) (queue left : List ℕ) (id : ℕ) : Type 0 where
  pub there : id < length now
  pub first : id < length old
  pub hashes : HasHashes now id
  pub is : get_or queue (length left) 0 ≡ id
  pub prefix : left ≡ take (length left) queue
  pub within : length left < length queue

pub next_warm : (old now : List Shape) (queue before left : List ℕ) (id : ℕ) → Sound old → IsQueue old queue → Warming old now queue before → before ≡ left ++ id ∷ [] → Next old now queue left id
next_warm old now queue before left id sound q w e =
    let p = popped left id (length before) queue (sym e ∙ w.prefix) in
    let first : id < length old = subst (λ n. n < length old) p.1 (q.there (length left) p.2) in
    record {
      there = subst (λ n. id < n) (sym w.warms.same) first;
      first = first;
      hashes = λ x c h. hashed first p.1 p.2 x c (ap (λ (r : List (Option ℕ)). child r x) (sym (w.warms.below id first)) ∙ h) (is_hashed old c) refl;
      is = p.1;
      prefix = p.0;
      within = p.2;
    }
  where
    hashed : id < length old → get_or queue (length left) 0 ≡ id → length left < length queue → (x c : ℕ) → child (shape_at old id).below x ≡ Some c → (b : Bool) → is_hashed old c ≡ b → is_hashed now c ≡ true
    hashed first at within x c h true f = let less : c < id = (sound id first).back x c h in w.warms.more c (omega arith) f
    hashed first at within x c h false f =
        let k = q.below (length left) x c within (ap (λ n. child (shape_at old n).below x) at ∙ h) f in
        let len : length before ≡ suc (length left) = omega (arith, ap length e, length-append left (id ∷ [])) in
        ap (is_hashed now) (sym k.1.2) ∙ w.done k.0 (let less : length left < k.0 = k.1.0 in omega arith) k.1.1

pub warming_next : (old now new : List Shape) (queue before left : List ℕ) (id : ℕ) (hash : Hash32) → IsQueue old queue → Warming old now queue before → before ≡ left ++ id ∷ [] → Next old now queue left id → KeepsHash now new id hash → Warming old new queue left
warming_next old now new queue before left id hash q w e n k =
    record { warms = warm_trans old now new w.warms (warm_one now new id hash k); prefix = n.prefix; done = λ j le lt. done j le lt (j == length left) refl }
  where
    done : (j : ℕ) → length left ≤ j → j < length queue → (b : Bool) → (j == length left) ≡ b → is_hashed new (get_or queue j 0) ≡ true
    done j le lt true t = ap (λ m. is_hashed new (get_or queue m 0)) (eqb-true j (length left) t) ∙ ap (is_hashed new) n.is ∙ warm_here now new id hash k
    done j le lt false t =
        let ne : j ≢ length left = not_same j (length left) t in
        let len : length before ≡ suc (length left) = omega (arith, ap length e, length-append left (id ∷ [])) in
        let there : get_or queue j 0 < length now = subst (λ m. get_or queue j 0 < m) (sym w.warms.same) (q.there j lt) in
        (warm_one now new id hash k).more (get_or queue j 0) there (w.done j (omega arith) lt)

pub left_weights : (old now : List Shape) (before left : List ℕ) (id : ℕ) → before ≡ left ++ id ∷ [] → Warms old now → id < length old → sum_by (weight_at old) before ≡ sum_by (weight_at old) left + weight_at now id
left_weights old now before left id e w lt = omega (arith, ap (sum_by (weight_at old)) e, sum_by_push (weight_at old) left id, weight_same old now id w lt)

pub root_warm : (old now : List Shape) (root : ℕ) (queue : List ℕ) → Gathers old root queue → root < length old → Warms old now → ((j : ℕ) → j < length queue → is_hashed now (get_or queue j 0) ≡ true) → is_hashed now root ≡ true
root_warm old now root queue g lt w all = by_hash (is_hashed old root) refl
  where
    by_hash : (b : Bool) → is_hashed old root ≡ b → is_hashed now root ≡ true
    by_hash true e = w.more root lt e
    by_hash false e = let k = g.top e in ap (is_hashed now) (sym k.1.1) ∙ all k.0 k.1.0
