-- Nodes that stand as they are to: one node more, fewer, and a hash that is kept.
use Rattle.std.proofs.Common.{◌≡◌, ◌≢◌, ◌==◌, ◌&&◌, ◌<◌, ◌+◌, ℕ, zero, suc, Bool, true, false, cond, List, [], ◌∷◌, length, drop, map, Option, Some, None, refl, ap, sym, ◌∙◌, subst, arith}
use Rattle.std.specs.Prelude.{is_some, count_by, sum_by}
use Rattle.std.specs.Option.{option_map}
use Rattle.std.proofs.lemmas.Bool.{eqb-true}
use Rattle.std.proofs.lemmas.List.Sums.{sum_by-cons}
use Rattle.nr_ids.specs.declared.key.Hash32.{Hash32}
use Rattle.nr_triedef.specs.declared.hash.Summary.{Summary}
use Rattle.nr_triedef.specs.Node.{IsNibbles, summary, key_part}
use Rattle.nr_triedef.specs.Root.{usage_below, branch, with_front, leaf_with, summary_of}
use Rattle.nr_trienodes.specs.Shape.{Shape, shape_at, child, over}
use Rattle.nr_trienodes.specs.Tries.{node_summary, summary_at, front_usage, own_usage, value_or_none, IsLinked}
use Rattle.nr_trienodes.specs.Views.{Stands, Sound}
use Rattle.nr_trienodes.proofs.Folds.{Back, not_same, shape_older, fold_older, fold_newest, fold_alike}

pub back_sound : (nodes : List Shape) → Sound nodes → Back nodes
back_sound nodes sound id lt = (sound id lt).back

pub sum_by-map : {A B : Type 0} (f : B → ℕ) (g : A → B) (xs : List A) → sum_by f (map g xs) ≡ sum_by (λ x. f (g x)) xs
sum_by-map f g [] = refl
sum_by-map {A} {B} f g (x ∷ xs) = sum_by-cons f (g x) (map g xs) ∙ ap (λ n. f (g x) + n) (sum_by-map f g xs) ∙ sym (sum_by-cons (λ (y : A). f (g y)) x xs)

pub sum_by-same : {A : Type 0} (f g : A → ℕ) (xs : List A) → ((x : A) → f x ≡ g x) → sum_by f xs ≡ sum_by g xs
sum_by-same f g xs same = ap (λ h. sum_by h xs) (λ i x. same x i)

pub count-children : {A : Type 0} (f : ℕ → A) (cs : List (Option ℕ)) → count_by is_some (map (option_map f) cs) ≡ count_by is_some cs
count-children {A} f cs =
    sum_by-map (λ (o : Option A). cond {A = ℕ} (is_some o) 1 0) (option_map f) cs ∙ sum_by-same
    (λ (c : Option ℕ). cond {A = ℕ} (is_some (option_map f c)) 1 0) (λ c. cond {A = ℕ} (is_some c) 1 0) cs
    (λ c. elim c as (λ o. cond {A = ℕ} (is_some (option_map f o)) 1 0 ≡ cond {A = ℕ} (is_some o) 1 0)
    [ None ↦ refl | Some n ↦ refl ])

-- ---- the usage of a node
front-usage : (part : List ℕ) (s : Summary) → (with_front part s).usage ≡ front_usage part false + s.usage
front-usage [] s = omega arith
front-usage (x ∷ part) s = refl

alone_usage : (alone : Bool) (part : List ℕ) (value : Option (List ℕ)) (below : List (Option Summary)) → (cond (alone && is_some value) (summary (leaf_with (key_part part true) (value_or_none value))) (with_front part (summary (branch value below)))).usage ≡ own_usage part value alone (sum_by usage_below below)
alone_usage true part None below = omega (arith, front-usage part (summary (branch None below)))
alone_usage true part (Some value) below = omega arith
alone_usage false part None below = omega (arith, front-usage part (summary (branch None below)))
alone_usage false part (Some value) below = omega (arith, front-usage part (summary (branch (Some value) below)))

pub usage_is : (s : Shape) (below : List (Option Summary)) → (node_summary s below).usage ≡ own_usage s.part s.value (count_by is_some below == 0) (sum_by usage_below below)
usage_is s below = alone_usage (count_by is_some below == 0) s.part s.value below

-- ---- a node in another arena with the same nodes below it
stands_along : (a b : List Shape) (id : ℕ) (s : Shape) → summary_at a id ≡ summary_at b id → ((x c : ℕ) → child s.below x ≡ Some c → is_some (shape_at a c).hash ≡ true → is_some (shape_at b c).hash ≡ true) → Stands a id s → Stands b id s
stands_along a b id s same kept st =
    record {
      sixteen = st.sixteen;
      small = st.small;
      back = st.back;
      linked = st.linked;
      usage = st.usage ∙ ap (λ (t : Summary). t.usage) same;
      hash = λ h e. st.hash h e ∙ ap (λ (t : Summary). t.hash) same;
      closed = λ some x c e. kept x c e (st.closed some x c e);
    }

pub sound_older : (s : Shape) (nodes : List Shape) → Sound (s ∷ nodes) → Sound nodes
sound_older s nodes sound id lt =
    let st : Stands (s ∷ nodes) id (shape_at nodes id) = subst (Stands (s ∷ nodes) id) (shape_older s nodes id lt) (sound id (omega arith)) in
    stands_along (s ∷ nodes) nodes id (shape_at nodes id) (fold_older node_summary (summary_of None) s nodes id lt) (λ x c e some. let less : c < id = st.back x c e in ap (λ (t : Shape). is_some t.hash) (sym (shape_older s nodes c (omega arith))) ∙ some) st

pub sound_drop : (n : ℕ) (nodes : List Shape) → Sound nodes → Sound (drop n nodes)
sound_drop zero nodes sound = sound
sound_drop (suc n) [] sound = sound
sound_drop (suc n) (s ∷ nodes) sound = sound_drop n nodes (sound_older s nodes sound)

-- ---- one node more
pub record CanStand (nodes : List Shape) (s : Shape) : Type 0 where
  pub sixteen : length s.below ≡ 16
  pub small : IsNibbles s.part
  pub back : (x c : ℕ) → child s.below x ≡ Some c → c < length nodes
  pub linked : IsLinked s.value s.below
  pub usage : s.usage ≡ (over node_summary (summary_of None) nodes s).usage
  pub hash : s.hash ≡ None

pub sound_newer : (s : Shape) (nodes : List Shape) → Sound nodes → CanStand nodes s → Sound (s ∷ nodes)
sound_newer s nodes sound can id lt =
    elim (id == length nodes) as (λ b. (id == length nodes) ≡ b → Stands (s ∷ nodes) id (cond b s (shape_at nodes id))) [
      | true ↦ λ e.
          let is : id ≡ length nodes = eqb-true id (length nodes) e in
          record {
            sixteen = can.sixteen;
            small = can.small;
            back = λ x c h. subst (λ n. c < n) (sym is) (can.back x c h);
            linked = can.linked;
            usage = can.usage ∙ ap (λ (t : Summary). t.usage) (sym (ap (summary_at (s ∷ nodes)) is ∙ fold_newest node_summary (summary_of None) s nodes));
            hash = λ h e. let none : s.hash ≡ None = can.hash in absurd cc;
            closed = λ some x c e. let none : is_some s.hash ≡ false = ap (λ (o : Option Hash32). is_some o) can.hash in absurd cc;
          }
      | false ↦ λ e.
          let ne : id ≢ length nodes = not_same id (length nodes) e in
          let less : id < length nodes = omega arith in
          let st : Stands nodes id (shape_at nodes id) = sound id less in
          stands_along nodes (s ∷ nodes) id (shape_at nodes id) (sym (fold_older node_summary (summary_of None) s nodes id less)) (λ x c e some. let small : c < id = st.back x c e in ap (λ (t : Shape). is_some t.hash) (shape_older s nodes c (omega arith)) ∙ some) st
    ] refl

pub back_at : (nodes : List Shape) (id x c : ℕ) → Sound nodes → id < length nodes → child (shape_at nodes id).below x ≡ Some c → c < id
back_at nodes id x c sound lt e = (sound id lt).back x c e

-- ---- a hash that is kept
pub record CanKeep (nodes : List Shape) (id : ℕ) (hash : Hash32) : Type 0 where
  pub there : id < length nodes
  pub is : hash ≡ (summary_at nodes id).hash
  pub below : (x c : ℕ) → child (shape_at nodes id).below x ≡ Some c → is_some (shape_at nodes c).hash ≡ true

record Alike (s t : Shape) : Type 0 where
  part : t.part ≡ s.part
  value : t.value ≡ s.value
  below : t.below ≡ s.below
  usage : t.usage ≡ s.usage

alike_refl : (s t : Shape) → t ≡ s → Alike s t
alike_refl s t e = record { part = ap (λ (u : Shape). u.part) e; value = ap (λ (u : Shape). u.value) e; below = ap (λ (u : Shape). u.below) e; usage = ap (λ (u : Shape). u.usage) e }

pub kept : (old new : List Shape) (id : ℕ) (hash : Hash32) → Sound old → CanKeep old id hash → length new ≡ length old → shape_at new id ≡ record (shape_at old id) { hash = Some hash } → ((n : ℕ) → n < length old → n ≢ id → shape_at new n ≡ shape_at old n) → Sound new
kept old new id hash sound can len here others n lt =
    by_name (n == id) refl
  where
    alike : (m : ℕ) → m < length old → Alike (shape_at old m) (shape_at new m)
    alike m less =
        elim (m == id) as (λ b. (m == id) ≡ b → Alike (shape_at old m) (shape_at new m)) [
          | true ↦ λ e. let same : m ≡ id = eqb-true m id e in subst (λ k. Alike (shape_at old k) (shape_at new k)) (sym same) (record { part = ap (λ (u : Shape). u.part) here; value = ap (λ (u : Shape). u.value) here; below = ap (λ (u : Shape). u.below) here; usage = ap (λ (u : Shape). u.usage) here })
          | false ↦ λ e. alike_refl (shape_at old m) (shape_at new m) (others m less (not_same m id e))
        ] refl

    by_parts : List ℕ → Option (List ℕ) → List (Option Summary) → Summary
    by_parts part value r = node_summary (record { part = part; value = value; below = []; usage = 0; hash = None }) r

    summaries : (m : ℕ) → m < length old → summary_at new m ≡ summary_at old m
    summaries = fold_alike node_summary (summary_of None) old new (back_sound old sound) (sym len) (λ m less. (alike m less).below) (λ m less r. (λ i. by_parts ((alike m less).part i) ((alike m less).value i) r))

    more : (m : ℕ) → m < length old → is_some (shape_at old m).hash ≡ true → is_some (shape_at new m).hash ≡ true
    more m less some =
        elim (m == id) as (λ b. (m == id) ≡ b → is_some (shape_at new m).hash ≡ true) [
          | true ↦ λ e. ap (λ k. is_some (shape_at new k).hash) (eqb-true m id e) ∙ ap (λ (u : Shape). is_some u.hash) here
          | false ↦ λ e. ap (λ (u : Shape). is_some u.hash) (others m less (not_same m id e)) ∙ some
        ] refl

    by_name : (b : Bool) → (n == id) ≡ b → Stands new n (shape_at new n)
    by_name true e =
        let same : n ≡ id = eqb-true n id e in
        let less : id < length old = can.there in
        let st : Stands old id (shape_at old id) = sound id less in
        subst (λ k. Stands new k (shape_at new k)) (sym same) (subst (Stands new id) (sym here) (record {
          sixteen = st.sixteen;
          small = st.small;
          back = st.back;
          linked = st.linked;
          usage = st.usage ∙ ap (λ (t : Summary). t.usage) (sym (summaries id less));
          hash = λ h f. let is : hash ≡ h = cc in sym is ∙ can.is ∙ ap (λ (t : Summary). t.hash) (sym (summaries id less));
          closed = λ some x c f. let small : c < id = st.back x c f in more c (omega arith) (can.below x c f);
        }))
    by_name false e =
        let less : n < length old = subst (λ k. n < k) len lt in
        let st : Stands old n (shape_at old n) = sound n less in
        subst (Stands new n) (sym (others n less (not_same n id e))) (stands_along old new n (shape_at old n) (sym (summaries n less)) (λ x c f some. let small : c < n = st.back x c f in more c (omega arith) some) st)
