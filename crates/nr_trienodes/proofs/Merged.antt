-- Many changes: the map of the root that they lead to.
use Rattle.std.proofs.Common.{◌≡◌, ◌<◌, ◌≤◌, ◌+◌, ◌*◌, ◌^◌, ◌++◌, ℕ, zero, suc, Bool, true, false, cond, List, [], ◌∷◌, length, take, get_or, Option, Some, None, Result, Ok, Err, refl, ap, sym, ◌∙◌, subst, add-one, arith}
use Rattle.std.specs.Prelude.{IsSome, is_some}
use Rattle.std.specs.FinMap.{get, entries, get-insert, get-remove, same_map, slice_cmp-IsAntisymmetric, nat_cmp-IsAntisymmetric}
use Rattle.std.specs.Ordering.{eq_by_cmp}
use Rattle.std.specs.Cmp.Lexicographic.{nat_list_cmp_total}
use Rattle.std.proofs.lemmas.List.{take_all}
use Rattle.std.proofs.lemmas.List.Sums.{sum_by-cons, sum_by_more, sum_by-take-le}
use Rattle.nr_triedef.specs.Node.{nibbles}
use Rattle.nr_triedef.specs.Root.{Contents}
use Rattle.nr_trienodes.specs.Shape.{Shape}
use Rattle.nr_trienodes.specs.Tries.{Answer, found_in, cost_in}
use Rattle.nr_trienodes.specs.Views.{Sound, IsIn}
use Rattle.nr_trienodes.specs.Turns.{left, Sets, Extends}
use Rattle.nr_trienodes.specs.Roots.{IsWhole, IsRoot, IsChanged, contents, cost, name_in}
use Rattle.nr_trienodes.specs.Merging.{Changing, with_value, merged, merge_weight, IsOverfull, OverfullsSo}
use Rattle.nr_trienodes.specs.Opened.{AllSet, CountsAll, merge_count, Merges, IsWay, IsAlong, path, holds, way_cost, Alters, StartsSo}
use Rattle.nr_trienodes.specs.declared.open_way.Level.{Level}
use Rattle.nr_trienodes.specs.declared.open_way.OpenWay.{OpenWay}
use Rattle.nr_trienodes.specs.declared.nodes.NodeId.{NodeId}
use Rattle.nr_trienodes.specs.declared.fault.NodesFault.{NodesFault}
use Rattle.nr_trienodes.specs.declared.fault.NodesFault.TheVariants.{Full, Memory}
use Rattle.nr_trienodes.proofs.Orders.{R}
use Rattle.nr_trienodes.proofs.Maps.{get_is}
use Rattle.nr_trienodes.proofs.Sets.{extends_refl, extends_trans}
use Rattle.nr_trienodes.proofs.Changed.{same_key, other_key, other_nibbles, cost_is}

-- ---- one after another
all_more : (cs : List Changing) (c : Changing) (f g h : Answer) → AllSet cs f g → Sets g h (nibbles c.0) c.1 → AllSet (cs ++ c ∷ []) f h
all_more [] c f g h all s = (h, (record { here = s.here; other = λ q ne. s.other q ne ∙ all q }, λ q. refl))
all_more (d ∷ cs) c f g h all s = (all.0, (all.1.0, all_more cs c all.0 g h all.1.1 s))

all_same : (cs : List Changing) (f g h : Answer) → AllSet cs f g → ((q : List ℕ) → h q ≡ g q) → AllSet cs f h
all_same [] f g h all e = λ q. e q ∙ all q
all_same (d ∷ cs) f g h all e = (all.0, (all.1.0, all_same cs all.0 g h all.1.1 e))

all_whole : (cs : List Changing) (f g : Answer) → AllSet cs f g → ((q : List ℕ) → IsSome (f q) → IsWhole q) → (q : List ℕ) → IsSome (g q) → IsWhole q
all_whole [] f g all h q some = h q (ap (λ (o : Option (List ℕ)). is_some o) (sym (all q)) ∙ some)
all_whole (c ∷ cs) f g all h q some = all_whole cs all.0 g all.1.1 one q some
  where
    one : (r : List ℕ) → IsSome (all.0 r) → IsWhole r
    one r is = by_key (eq_by_cmp R r (nibbles c.0)) refl
      where
        by_key : (b : Bool) → eq_by_cmp R r (nibbles c.0) ≡ b → IsWhole r
        by_key true e = (c.0, same_key r (nibbles c.0) e)
        by_key false e = h r (ap (λ (o : Option (List ℕ)). is_some o) (sym (all.1.0.other r (other_key r (nibbles c.0) e))) ∙ is)

get_with : (m : Contents) (k : List ℕ) (o : Option (List ℕ)) (q : List ℕ) → get (with_value m k o) q ≡ cond (eq_by_cmp R q k) o (get m q)
get_with m k None q = get-remove nat_list_cmp_total m k q
get_with m k (Some v) q = get-insert nat_list_cmp_total m k v q

one_get : (f g : Answer) (m : Contents) (k : List ℕ) (o : Option (List ℕ)) → Sets f g (nibbles k) o → ((q : List ℕ) → f (nibbles q) ≡ get m q) → (q : List ℕ) → g (nibbles q) ≡ get (with_value m k o) q
one_get f g m k o s h q = by_key (eq_by_cmp R q k) refl ∙ sym (get_with m k o q)
  where
    by_key : (b : Bool) → eq_by_cmp R q k ≡ b → g (nibbles q) ≡ cond (eq_by_cmp R q k) o (get m q)
    by_key true e = ap (λ (r : List ℕ). g (nibbles r)) (same_key q k e) ∙ s.here ∙ ap (λ b. cond b o (get m q)) (sym e)
    by_key false e = s.other (nibbles q) (other_nibbles q k (other_key q k e)) ∙ h q ∙ ap (λ b. cond b o (get m q)) (sym e)

all_get : (cs : List Changing) (f g : Answer) (m : Contents) → AllSet cs f g → ((q : List ℕ) → f (nibbles q) ≡ get m q) → (q : List ℕ) → g (nibbles q) ≡ get (merged cs m) q
all_get [] f g m all h q = all (nibbles q) ∙ h q
all_get (c ∷ cs) f g m all h q = all_get cs all.0 g (with_value m c.0 c.1) all.1.1 (one_get f all.0 m c.0 c.1 all.1.0 h) q

-- a change behind the others
pub merged_more : (cs : List Changing) (c : Changing) (m : Contents) → merged (cs ++ c ∷ []) m ≡ with_value (merged cs m) c.0 c.1
merged_more [] c m = refl
merged_more (d ∷ cs) c m = merged_more cs c (with_value m d.0 d.1)

-- ---- counts
entries_more : (cs : List Changing) (c : Changing) (f g : Answer) (first before after : ℕ) → AllSet cs f g → CountsAll f cs first before → CountsAll g (c ∷ []) before after → CountsAll f (cs ++ c ∷ []) first after
entries_more cs c f g first before after sets h i = λ m reads many. i (merged cs m) (all_get cs f g m sets reads) (h m reads many) ∙ ap (λ (n : Contents). length (entries n)) (sym (merged_more cs c m))

count_more : (cs : List Changing) (c : Changing) → merge_count (cs ++ c ∷ []) ≡ merge_count cs + (length (nibbles c.0) + 1)
count_more [] c = omega (arith, sum_by-cons (λ (d : Changing). length (nibbles d.0) + 1) c [])
count_more (d ∷ cs) c = omega (arith, sum_by-cons (λ (e : Changing). length (nibbles e.0) + 1) d (cs ++ c ∷ []), sum_by-cons (λ (e : Changing). length (nibbles e.0) + 1) d cs, count_more cs c)

weight_is : (cs : List Changing) → merge_weight cs ≡ 2 * merge_count cs + length cs
weight_is [] = refl
weight_is (c ∷ cs) = omega (arith, sum_by-cons (λ (d : Changing). 2 * length (nibbles d.0) + 3) c cs, sum_by-cons (λ (d : Changing). length (nibbles d.0) + 1) c cs, weight_is cs)

-- ---- the loop
-- so many changes are worked into the way, the last one at this key, and counted
pub record Merging (old now : List Shape) (root : Option ℕ) (done : List Changing) (last : List ℕ) (w : OpenWay) (first count : ℕ) : Type 0 where
  pub grows : Extends old now
  pub way : IsWay now w
  pub along : IsAlong last w
  pub sets : AllSet done (found_in old root) (holds now w)
  pub counts : CountsAll (found_in old root) done first count
  pub few : length now + length w.levels ≤ length old + merge_count done
  pub cost : way_cost now w ≤ cost_in old root + 2 + 2 * merge_count done

pub merging_first : (nodes : List Shape) (root : Option ℕ) (last : List ℕ) (done : List Changing) (w : OpenWay) (count : ℕ) → StartsSo nodes root w → last ≡ [] → done ≡ [] → Merging nodes nodes root done last w count count
merging_first nodes root last done w count s el ed =
    let zero_at : w.at ≡ 0 = s.way.at ∙ ap (λ (ls : List Level). length (path ls)) s.none in
    record {
      grows = extends_refl nodes;
      way = s.way;
      along = ap nibbles el ∙ (λ i. path (sym s.none i) ++ left (sym el i) (sym zero_at i));
      sets = subst (λ (d : List Changing). AllSet d (found_in nodes root) (holds nodes w)) (sym ed) s.same;
      counts = subst (λ (d : List Changing). CountsAll (found_in nodes root) d count count) (sym ed) (λ m reads many. many);
      few = omega (arith, ap length s.none);
      cost = omega (arith, s.cost);
    }

next_take : {A : Type 0} (n : ℕ) (k : List A) (d : A) → n < length k → take (suc n) k ≡ take n k ++ get_or k n d ∷ []
next_take n [] d lt = absurd (omega arith)
next_take zero (b ∷ k) d lt = refl
next_take {A} (suc n) (b ∷ k) d lt = ap (λ (l : List A). b ∷ l) (next_take n k d (omega arith))

pub merging_more : (old now new : List Shape) (root : Option ℕ) (changes : List Changing) (i : ℕ) (c : Changing) (last : List ℕ) (w v : OpenWay) (first before after : ℕ) → i < length changes → c ≡ get_or changes i c → Merging old now root (take i changes) last w first before → Alters now new w v (nibbles c.0) c.1 (length (nibbles c.0) + 1) 0 → IsAlong c.0 v → CountsAll (holds now w) (c ∷ []) before after → Merging old new root (take (i + 1) changes) c.0 v first after
merging_more old now new root changes i c last w v first before after lt e m a along counts =
    let is : take (i + 1) changes ≡ take i changes ++ c ∷ [] = ap (λ n. take n changes) (add-one i) ∙ next_take i changes c lt ∙ ap (λ (d : Changing). take i changes ++ d ∷ []) (sym e) in
    subst (λ (d : List Changing). Merging old new root d c.0 v first after) (sym is) (record {
      grows = extends_trans old now new m.grows a.more.grows;
      way = a.more.way;
      along = along;
      sets = all_more (take i changes) c (found_in old root) (holds now w) (holds new v) m.sets a.sets;
      counts = entries_more (take i changes) c (found_in old root) (holds now w) first before after m.sets m.counts counts;
      few = omega (arith, m.few, a.more.few, count_more (take i changes) c);
      cost = omega (arith, m.cost, a.more.cost, count_more (take i changes) c);
    })

pub merging_on : (old now new : List Shape) (root : Option ℕ) (changes : List Changing) (i : ℕ) (c : Changing) (last key : List ℕ) (w v : OpenWay) (first before after : ℕ) → i < length changes → c ≡ get_or changes i c → Merging old now root (take i changes) last w first before → Alters now new w v (nibbles c.0) c.1 (length (nibbles c.0) + 1) 0 → IsAlong c.0 v → CountsAll (holds now w) (c ∷ []) before after → key ≡ c.0 → Merging old new root (take (i + 1) changes) key v first after
merging_on old now new root changes i c last key w v first before after lt e m a along counts same =
    subst (λ (k : List ℕ). Merging old new root (take (i + 1) changes) k v first after) (sym same) (merging_more old now new root changes i c last w v first before after lt e m a along counts)

pub merging_done : (old now new : List Shape) (root id : Option ℕ) (changes : List Changing) (i : ℕ) (last : List ℕ) (w : OpenWay) (first count : ℕ) → Merging old now root (take i changes) last w first count → length changes ≤ i → IsIn (length new) id → ((q : List ℕ) → found_in new id q ≡ holds now w q) → length new ≤ length now + length w.levels + 1 → cost_in new id ≤ way_cost now w → Merges old new root id changes first count
merging_done old now new root id changes i last w first count m le there same few cost =
    let all : Merging old now root changes last w first count = subst (λ (d : List Changing). Merging old now root d last w first count) (take_all i changes le) m in
    record {
      there = there;
      sets = all_same changes (found_in old root) (holds now w) (found_in new id) all.sets same;
      counts = all.counts;
      few = omega (arith, all.few, few);
      cost = omega (arith, all.cost, cost);
    }

-- ---- the root
pub is_merged : (old new : List Shape) (before after : Option NodeId) (changes : List Changing) (first count : ℕ) → Sound old → Sound new → IsRoot old before → 2 ≤ length changes → Merges old new (name_in before) (name_in after) changes first count → IsChanged old new before after (merged changes (contents old before)) (merge_weight changes)
is_merged old new before after changes first count so sn root many m =
    let top : IsRoot new after = by_root after m in
    record {
      root = top;
      map = same_map nat_list_cmp_total (slice_cmp-IsAntisymmetric nat_cmp-IsAntisymmetric) (contents new after) (merged changes (contents old before))
          (λ q. get_is new after q sn top ∙ all_get changes (found_in old (name_in before)) (found_in new (name_in after)) (contents old before) m.sets (λ r. sym (get_is old before r so root)) q);
      cost = omega (arith, cost_is new after, cost_is old before, m.cost, weight_is changes);
    }
  where
    whole : (r : Option NodeId) (q : List ℕ) → IsRoot old r → IsSome (found_in old (name_in r) q) → IsWhole q
    whole None q h some = absurd cc
    whole (Some b) q h some = h.1 q some

    by_root : (r : Option NodeId) → Merges old new (name_in before) (name_in r) changes first count → IsRoot new r
    by_root None n = tt
    by_root (Some id) n = (n.there, all_whole changes (found_in old (name_in before)) (found_in new (Some id.0)) n.sets (λ q some. whole before q root some))

pub is_counted : (old new : List Shape) (before after : Option NodeId) (changes : List Changing) (first count : ℕ) → Sound old → Sound new → IsRoot old before → 2 ≤ length changes → first ≡ length (entries (contents old before)) → Merges old new (name_in before) (name_in after) changes first count → count ≡ length (entries (contents new after))
is_counted old new before after changes first count so sn root many e m =
    let held = is_merged old new before after changes first count so sn root many m in
    m.counts (contents old before) (λ q. sym (get_is old before q so root)) e ∙ ap (λ (n : Contents). length (entries n)) (sym held.map)

-- under the names of roots
pub merges_named : (old new : List Shape) (root id : Option ℕ) (before after : Option NodeId) (changes : List Changing) (first count : ℕ) → root ≡ name_in before → name_in after ≡ id → Merges old new root id changes first count → Merges old new (name_in before) (name_in after) changes first count
merges_named old new root id before after changes first count e f m =
    subst (λ (r : Option ℕ). Merges old new r (name_in after) changes first count) e (subst (λ (r : Option ℕ). Merges old new root r changes first count) (sym f) m)

pub merged_few : (old new : List Shape) (root id : Option ℕ) (changes : List Changing) (first count : ℕ) → 2 ≤ length changes → Merges old new root id changes first count → length new ≤ length old + merge_weight changes
merged_few old new root id changes first count many m = omega (arith, m.few, weight_is changes)

pub merged_none : (nodes : List Shape) (root : Option NodeId) (changes : List Changing) → length changes ≡ 0 → IsRoot nodes root → IsChanged nodes nodes root root (merged changes (contents nodes root)) (merge_weight changes)
merged_none nodes root [] e is = record { root = is; map = refl; cost = omega arith }
merged_none nodes root (c ∷ cs) e is = absurd (omega arith)

pub merged_one : (old new : List Shape) (before after : Option NodeId) (changes : List Changing) (c : Changing) → length changes ≡ 1 → c ≡ get_or changes 0 c → IsChanged old new before after (with_value (contents old before) c.0 c.1) (2 * length (nibbles c.0) + 3) → IsChanged old new before after (merged changes (contents old before)) (merge_weight changes)
merged_one old new before after [] c e is changed = absurd (omega arith)
merged_one old new before after (d ∷ []) c e is changed =
    subst (λ (b : Changing). IsChanged old new before after (with_value (contents old before) b.0 b.1) (merge_weight (b ∷ []))) is
    (record { root = changed.root; map = changed.map; cost = omega (arith, changed.cost, sum_by-cons (λ (b : Changing). 2 * length (nibbles b.0) + 3) c []) })
merged_one old new before after (d ∷ b ∷ cs) c e is changed = absurd (omega arith)

-- ---- room
pub weight_next : (cs : List Changing) (n : ℕ) (c : Changing) → n < length cs → c ≡ get_or cs n c → merge_weight (take (n + 1) cs) ≡ merge_weight (take n cs) + (2 * length (nibbles c.0) + 3)
weight_next cs n c lt e =
    sum_by_more (λ (d : Changing). 2 * length (nibbles d.0) + 3) cs n c lt ∙ ap (λ (d : Changing). merge_weight (take n cs) + (2 * length (nibbles d.0) + 3)) (sym e)

-- one change, and all of them
pub room_one : (held : ℕ) (changes : List Changing) (c : Changing) → length changes ≡ 1 → c ≡ get_or changes 0 c → held + 1 + merge_weight changes ≤ 2 ^ 32 → held + 4 + 2 * length (nibbles c.0) ≤ 2 ^ 32
room_one held [] c e is room = absurd (omega arith)
room_one held (d ∷ []) c e is room =
    let same : length (nibbles c.0) ≡ length (nibbles d.0) = ap (λ (b : Changing). length (nibbles b.0)) is in
    omega (arith, sum_by-cons (λ (b : Changing). 2 * length (nibbles b.0) + 3) d [])
room_one held (d ∷ b ∷ cs) c e is room = absurd (omega arith)

pub room_all : (held fitting : ℕ) (changes : List Changing) → length changes ≤ fitting → held + 1 + merge_weight (take fitting changes) ≤ 2 ^ 32 → held + 1 + merge_weight changes ≤ 2 ^ 32
room_all held fitting changes le room = omega (arith, ap merge_weight (take_all fitting changes le))

-- ---- full
pub overfull_there : {A : Type 0} (held n fitting : ℕ) (changes : List Changing) → n ≡ held → fitting < length changes → (fitting < length changes → IsOverfull held (take (fitting + 1) changes)) → OverfullsSo {A = A} held changes (Err (Full n))
overfull_there {A} held n fitting changes e lt most =
    let over : 2 ^ 32 < held + 1 + merge_weight (take (fitting + 1) changes) = most lt in
    record {
      there = λ h. ap (λ k. let r : Result A NodesFault = Err (Full k) in r) e;
      only = λ k is. omega (arith, sum_by-take-le (λ (d : Changing). 2 * length (nibbles d.0) + 3) changes (fitting + 1));
    }

pub overfull_ok : {A : Type 0} (held : ℕ) (changes : List Changing) (a : A) → held + 1 + merge_weight changes ≤ 2 ^ 32 → OverfullsSo held changes (Ok a)
overfull_ok held changes a room = record { there = λ full. absurd (omega arith); only = λ k is. absurd cc }

pub overfull_memory : {A : Type 0} (held : ℕ) (changes : List Changing) → held + 1 + merge_weight changes ≤ 2 ^ 32 → OverfullsSo {A = A} held changes (Err Memory)
overfull_memory held changes room = record { there = λ full. absurd (omega arith); only = λ k is. absurd cc }
