-- The nodes of an arena, newest first: reads, one node more, fewer, and a hash that is kept.
use Rattle.std.proofs.Common.{◌≡◌, ◌≢◌, ◌==◌, ◌<◌, ◌≤◌, ◌-◌, ◌+◌, ◌^◌, ℕ, zero, suc, Bool, true, false, cond, List, [], ◌∷◌, ◌++◌, length, reverse, take, drop, get_or, set, map, Option, Some, None, refl, ap, sym, ◌∙◌, subst, eq-eqb, length-append, length-drop, arith}
use Rattle.std.proofs.lemmas.Bool.{ne_eqb, eqb-true}
use Rattle.std.proofs.lemmas.List.{reverse-append, map-append, length-map, length-reverse, length-set, get_or-set_same, get_or-set_other, take-append-drop, length-take, get_or_default}
use Rattle.std.proofs.Math.Seq.{drop-append_seam}
use Rattle.std.specs.Prelude.{is_some, count_by, sum_by}
use Rattle.std.specs.Option.{option_map}
use Rattle.nr_ids.specs.declared.key.Hash32.{Hash32}
use Rattle.nr_triedef.specs.declared.hash.Summary.{Summary}
use Rattle.nr_triedef.specs.Node.{IsNibbles}
use Rattle.nr_triedef.specs.Root.{usage_below}
use Rattle.nr_trienodes.specs.Bodies.{value_of, row_of}
use Rattle.nr_trienodes.specs.Shape.{Shape, shape_at, child}
use Rattle.nr_trienodes.specs.Tries.{summary_at, own_usage, IsLinked}
use Rattle.nr_trienodes.specs.Views.{shape, shapes, Sound, Adds, KeepsHash}
use Rattle.nr_trienodes.specs.declared.nodes.Node.{Node}
use Rattle.nr_trienodes.proofs.Folds.{not_same}
use Rattle.nr_trienodes.proofs.Sounds.{CanStand, CanKeep, sound_drop, sound_newer, kept, sum_by-map, count-children, usage_is}

pub shapes-length : (nodes : List Node) → length (shapes nodes) ≡ length nodes
shapes-length nodes = simp (length-reverse, length-map)

at_zero : (ys : List Shape) (s : Shape) → shape_at (ys ++ s ∷ []) 0 ≡ s
at_zero [] s = refl
at_zero (y ∷ ys) s = rw (ne_eqb 0 (length (ys ++ s ∷ [])) (λ same. omega (arith, length-append ys (s ∷ [])))) (at_zero ys s)

at_suc : (ys : List Shape) (s : Shape) (i : ℕ) → i < length ys → shape_at (ys ++ s ∷ []) (suc i) ≡ shape_at ys i
at_suc [] s i lt = absurd (omega arith)
at_suc (y ∷ ys) s i lt =
    let len : length (ys ++ s ∷ []) ≡ suc (length ys) = omega (arith, length-append ys (s ∷ [])) in
    elim (i == length ys) as (λ b. (i == length ys) ≡ b → cond (suc i == length (ys ++ s ∷ [])) y (shape_at (ys ++ s ∷ []) (suc i)) ≡ cond b y (shape_at ys i)) [
      | true ↦ λ e. let same : i ≡ length ys = eqb-true i (length ys) e in rw (eq-eqb (suc i) (length (ys ++ s ∷ [])) (omega arith))
      | false ↦ λ e.
          let ne : i ≢ length ys = not_same i (length ys) e in
          rw (ne_eqb (suc i) (length (ys ++ s ∷ [])) (λ same. omega arith)) (at_suc ys s i (omega arith))
    ] refl

pub shapes_at : (nodes : List Node) (id : ℕ) (n : Node) → id < length nodes → n ≡ get_or nodes id n → shape_at (shapes nodes) id ≡ shape n
shapes_at [] id n lt e = absurd (omega arith)
shapes_at (m ∷ nodes) zero n lt e = rw (reverse-append (shape m ∷ []) (map shape nodes)) (at_zero (shapes nodes) (shape m) ∙ ap shape (sym e))
shapes_at (m ∷ nodes) (suc id) n lt e =
    let less : id < length (shapes nodes) = omega (arith, shapes-length nodes) in
    rw (reverse-append (shape m ∷ []) (map shape nodes)) (at_suc (shapes nodes) (shape m) id less ∙ shapes_at nodes id n (omega arith) e)

pub shapes-push : (nodes : List Node) (n : Node) → shapes (nodes ++ n ∷ []) ≡ shape n ∷ shapes nodes
shapes-push nodes n = ap reverse (map-append shape nodes (n ∷ [])) ∙ reverse-append (map shape nodes) (shape n ∷ [])

pub node_view : (nodes : List Node) (v : List Shape) (id : ℕ) (n : Node) → shapes nodes ≡ v → id < length v → n ≡ get_or nodes id n → shape n ≡ shape_at v id
node_view nodes v id n e lt en =
    let len : length v ≡ length nodes = ap length (sym e) ∙ shapes-length nodes in
    let less : id < length nodes = omega arith in
    sym (shapes_at nodes id n less en) ∙ ap (λ l. shape_at l id) e

pub count_view : (nodes : List Node) (v : List Shape) → shapes nodes ≡ v → length nodes ≡ length v
count_view nodes v e = sym (shapes-length nodes) ∙ ap length e

-- ---- one node more, fewer, and a hash that is kept
pub shapes-append : (a b : List Node) → shapes (a ++ b) ≡ shapes b ++ shapes a
shapes-append a b = ap reverse (map-append shape a b) ∙ reverse-append (map shape a) (map shape b)

pub shapes-take : (nodes : List Node) (n : ℕ) → shapes (take n nodes) ≡ drop (length nodes - n) (shapes nodes)
shapes-take nodes n =
    let count : length nodes - n ≡ length (shapes (drop n nodes)) = omega (arith, shapes-length (drop n nodes), length-drop n nodes) in
    sym (drop-append_seam (shapes (drop n nodes)) (shapes (take n nodes)))
    ∙ ap (λ (l : List Shape). drop (length (shapes (drop n nodes))) l) (sym (shapes-append (take n nodes) (drop n nodes)) ∙ ap shapes (take-append-drop n nodes))
    ∙ ap (λ k. drop k (shapes nodes)) (sym count)

pub record Cut (old new : List Node) (v : List Shape) (count : ℕ) : Type 0 where
  pub is : shapes new ≡ drop (length v - count) v
  pub sound : Sound (shapes new)
  pub few : length new < 2 ^ 32

pub cut_view : (old new : List Node) (v : List Shape) (count : ℕ) → shapes old ≡ v → Sound (shapes old) → length old < 2 ^ 32 → new ≡ take count old → Cut old new v count
cut_view old new v count e sound few en =
    let is : shapes new ≡ drop (length old - count) (shapes old) = ap shapes en ∙ shapes-take old count in
    let shorter : length new ≤ length old = omega (arith, ap length en, length-take count old) in
    record {
      is = is ∙ (λ i. drop (count_view old v e i - count) (e i));
      sound = subst Sound (sym is) (sound_drop (length old - count) (shapes old) sound);
      few = omega arith;
    }

pub record Added (nodes : List Node) (v : List Shape) (id : ℕ) (part : List ℕ) (value : Option (List ℕ)) (below : List (Option ℕ)) : Type 0 where
  pub adds : Adds v (shapes nodes) id part value below
  pub few : length nodes < 2 ^ 32

pub added : (nodes new : List Node) (v : List Shape) (id : ℕ) (n : Node) (s : Shape) → shapes nodes ≡ v → Sound (shapes nodes) → id ≡ length v → id + 1 < 2 ^ 32 → shape n ≡ s → s.hash ≡ None → CanStand v s → new ≡ nodes ++ n ∷ [] → Added new v id s.part s.value s.below
added nodes new v id n s e sound ei few es none can en =
    let is : shapes new ≡ s ∷ v = ap shapes en ∙ shapes-push nodes n ∙ (λ i. es i ∷ e i) in
    let len : length nodes ≡ length v = count_view nodes v e in
    record {
      adds = record {
        name = ei;
        usage = s.usage;
        is = is ∙ ap (λ (h : Option Hash32). let t : Shape = record { part = s.part; value = s.value; below = s.below; usage = s.usage; hash = h } in t ∷ v) none;
        sound = subst Sound (sym is) (sound_newer s v (subst Sound e sound) can);
      };
      few = omega (arith, ap length en, length-append nodes (n ∷ []));
    }

-- a node of these can stand, where its usage was made of its parts
pub can_stand : (v : List Shape) (part : List ℕ) (value : Option (List ℕ)) (row : List (Option ℕ)) (usage sum : ℕ)
    (alone : Bool) → length row ≡ 16 → IsNibbles part → IsLinked value row
    → ((x c : ℕ) → child row x ≡ Some c → c < length v)
    → sum ≡ sum_by (λ c. usage_below (option_map (summary_at v) c)) row → (count_by is_some row == 0) ≡ alone
    → usage ≡ own_usage part value alone sum
    → CanStand v (record { part = part; value = value; below = row; usage = usage; hash = None })
can_stand v part value row usage sum alone len small linked back es ea eu =
    let s : Shape = record { part = part; value = value; below = row; usage = usage; hash = None } in
    let below : List (Option Summary) = map (option_map (summary_at v)) row in
    let total : sum ≡ sum_by usage_below below = es ∙ sym (sum_by-map usage_below (option_map (summary_at v)) row) in
    let none : alone ≡ (count_by is_some below == 0) = sym ea ∙ ap (λ n. n == 0) (sym (count-children (summary_at v) row)) in
    record {
      sixteen = len;
      small = small;
      back = back;
      linked = linked;
      usage = eu ∙ (λ i. own_usage part value (none i) (total i)) ∙ sym (usage_is s below);
      hash = refl;
    }

pub pushed : (nodes new : List Node) (v : List Shape) (id : ℕ) (n : Node) (part : List ℕ) (value : Option (List ℕ))
    (row : List (Option ℕ)) (sum : ℕ) (alone : Bool) → shapes nodes ≡ v → Sound (shapes nodes) → id ≡ length v
    → id + 1 < 2 ^ 32 → n.hash ≡ None → n.part ≡ part → value_of n.body ≡ value → row_of n.body ≡ row → length row ≡ 16
    → IsNibbles part → IsLinked value row → ((x c : ℕ) → child row x ≡ Some c → c < length v)
    → sum ≡ sum_by (λ c. usage_below (option_map (summary_at v) c)) row → alone ≡ (count_by is_some row == 0)
    → n.usage ≡ own_usage part value alone sum → new ≡ nodes ++ n ∷ [] → Added new v id part value row
pushed nodes new v id n part value row sum alone e sound ei few none ep ev er len small linked back es ec eu en =
    let s : Shape = record { part = part; value = value; below = row; usage = n.usage; hash = None } in
    let is : shape n ≡ s =
    (λ i. let t : Shape = record { part = ep i; value = ev i; below = er i; usage = n.usage; hash = none i } in t) in
    added nodes new v id n s e sound ei few is refl
    (can_stand v part value row n.usage sum alone len small linked back es (sym ec) eu) en

pub record Kept (nodes : List Node) (v : List Shape) (id : ℕ) (hash : Hash32) : Type 0 where
  pub keeps : KeepsHash v (shapes nodes) id hash
  pub few : length nodes < 2 ^ 32

pub kept_view : (nodes : List Node) (v : List Shape) (id : ℕ) (n m : Node) (hash : Hash32) → shapes nodes ≡ v → Sound (shapes nodes) → length nodes < 2 ^ 32 → CanKeep v id hash → n ≡ get_or nodes id n → shape m ≡ record (shape n) { hash = Some hash } → Kept (set nodes id m) v id hash
kept_view nodes v id n m hash e sound few can en es =
    let new : List Node = set nodes id m in
    let count : length nodes ≡ length v = count_view nodes v e in
    let there : id < length v = can.there in
    let less : id < length nodes = omega arith in
    let len : length (shapes new) ≡ length v = shapes-length new ∙ length-set nodes id m ∙ count in
    let at : m ≡ get_or new id m = sym (get_or-set_same nodes id m m less) in
    let here : shape_at (shapes new) id ≡ record (shape_at v id) { hash = Some hash } =
    shapes_at new id m (omega (arith, length-set nodes id m)) at ∙ es ∙ ap (λ (s : Shape). let t : Shape = record s { hash = Some hash } in t) (node_view nodes v id n e there en) in
    let others = λ (k : ℕ) (lt : k < length v) (ne : k ≢ id).
    let in_nodes : k < length nodes = omega arith in
    let o : Node = get_or nodes k m in
    shapes_at new k o (omega (arith, length-set nodes id m)) (sym (get_or-set_other nodes id k m o ne ∙ get_or_default nodes k o m in_nodes))
    ∙ node_view nodes v k o e lt (sym (get_or_default nodes k o m in_nodes)) in
    record {
      keeps = record { same = len; here = here; others = others; sound = kept v (shapes new) id hash (subst Sound e sound) can len here others };
      few = omega (arith, length-set nodes id m);
    }
