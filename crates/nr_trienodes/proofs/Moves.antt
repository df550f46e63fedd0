-- Turns of a way of open nodes: what stands stays, but for the value at a key.
use Rattle.std.proofs.Common.{◌≡◌, ◌≢◌, ◌==◌, ◌<◌, ◌≤◌, ◌+◌, ◌-◌, ◌*◌, ◌++◌, ℕ, zero, suc, Bool, true, false, cond, List, [], ◌∷◌, length, take, drop, get_or, set, map, Option, Some, None, refl, ap, sym, ◌∙◌, subst, append_assoc, length-append, add-one, ◌/◌, ◌%◌, arith}
use Rattle.std.specs.Prelude.{is_some, count_by}
use Rattle.std.specs.Option.{option_map}
use Rattle.std.specs.List.{AllByRecursion}
use Rattle.std.proofs.lemmas.Bool.{eqb-true}
use Rattle.std.proofs.lemmas.List.{length-set}
use Rattle.nr_triedef.specs.Node.{nibbles, IsNibbles}
use Rattle.nr_trienodes.specs.Shape.{Shape, no_children, child}
use Rattle.nr_trienodes.specs.Tries.{stripped, asked, given, found, found_in, or_zero, cost_at, cost_in}
use Rattle.nr_trienodes.specs.Views.{Sound, IsIn}
use Rattle.nr_trienodes.specs.Turns.{left, Sets, Extends, Settles, GoesBy, Parts, stands_for, costs_below}
use Rattle.nr_trienodes.specs.Opened.{IsOpen, HeadsSo, shape_of, IsLevel, IsOpened, IsWay, IsAlong, path, stands, via, plug, holds, left_by, levels_cost, Grows, Steady, Alters, TopsSo, StartsSo, is_bare}
use Rattle.nr_trienodes.specs.declared.turn.Turn.TheVariants.{Down}
use Rattle.nr_trienodes.specs.declared.open_way.OpenNode.{OpenNode}
use Rattle.nr_trienodes.specs.declared.open_way.Level.{Level}
use Rattle.nr_trienodes.specs.declared.open_way.OpenWay.{OpenWay}
use Rattle.nr_trienodes.proofs.Folds.{not_same}
use Rattle.nr_trienodes.proofs.Rows.{none_there}
use Rattle.nr_trienodes.proofs.Keys.{stripped_is, goes_off, left_less}
use Rattle.nr_trienodes.proofs.Founds.{stripped_apart}
use Rattle.nr_trienodes.proofs.Sets.{extends_refl, extends_trans, given_on, child-set, child-set_other, child-none}
use Rattle.nr_trienodes.proofs.Settled.{back_set, take_small, leaf_back}
use Rattle.nr_trienodes.proofs.Climbing.{costs-set, costs_less, found_of}
use Rattle.nr_trienodes.proofs.Plugs.{plug_same, plug_sets, plug_grown, hung_opened, hung_closed, open_grown, levels_grown, costs_grown, levels_cost_grown}

-- ---- the key along the way
pub path_length : (l : Level) (ls : List Level) → length (path (l ∷ ls)) ≡ length (path ls) + length l.node.part + 1
path_length l ls = omega (arith, length-append (path ls) (l.node.part ++ l.nibble ∷ []), length-append l.node.part (l.nibble ∷ []))

path_more : (l : Level) (ls : List Level) (r : List ℕ) → path (l ∷ ls) ++ r ≡ path ls ++ (l.node.part ++ l.nibble ∷ r)
path_more l ls r = append_assoc (path ls) (l.node.part ++ l.nibble ∷ []) r ∙ ap (λ (k : List ℕ). path ls ++ k) (append_assoc l.node.part (l.nibble ∷ []) r)

pub along_down : (key : List ℕ) (w : OpenWay) (x next : ℕ) → IsAlong key w → stripped w.top.part (left key w.at) ≡ Some (x ∷ left key next) → nibbles key ≡ path (left_by w.top x ∷ w.levels) ++ left key next
along_down key w x next along e =
    along ∙ ap (λ (k : List ℕ). path w.levels ++ k) (stripped_is w.top.part (left key w.at) (x ∷ left key next) e) ∙ sym (path_more (left_by w.top x) w.levels (left key next))

take_less : (n m : ℕ) (k : List ℕ) → n ≤ m → take n (take m k) ≡ take n k
take_less zero m k le = refl
take_less (suc n) zero k le = absurd (omega arith)
take_less (suc n) (suc m) [] le = refl
take_less (suc n) (suc m) (x ∷ k) le = ap (λ (l : List ℕ). x ∷ l) (take_less n m k (omega arith))

take_front : (p r : List ℕ) → take (length p) (p ++ r) ≡ p
take_front [] r = refl
take_front (x ∷ p) r = ap (λ (l : List ℕ). x ∷ l) (take_front p r)

take_drop : (n : ℕ) (k : List ℕ) → k ≡ take n k ++ drop n k
take_drop zero k = refl
take_drop (suc n) [] = refl
take_drop (suc n) (x ∷ k) = ap (λ (l : List ℕ). x ∷ l) (take_drop n k)

-- another key goes along what both share
pub along_other : (last key p : List ℕ) (at shared : ℕ) → nibbles last ≡ p ++ left last at → at ≡ length p → at ≤ shared → take shared (nibbles last) ≡ take shared (nibbles key) → nibbles key ≡ p ++ left key at
along_other last key p at shared along same le e =
    let front : take at (nibbles last) ≡ p = ap (λ n. take n (nibbles last)) same ∙ ap (take (length p)) along ∙ take_front p (left last at) in
    let mine : take at (nibbles key) ≡ p = sym (take_less at shared (nibbles key) le) ∙ ap (take at) (sym e) ∙ take_less at shared (nibbles last) le ∙ front in
    take_drop at (nibbles key) ∙ ap (λ (k : List ℕ). k ++ left key at) mine

-- ---- one turn behind another
pub grows_trans : (a b c : List Shape) (w u v : OpenWay) (i j k l m n : ℕ) → Grows a b w u i j → Grows b c u v k l → i + k + n ≤ m + j + l → Grows a c w v m n
grows_trans a b c w u v i j k l m n g h e =
    record {
      grows = extends_trans a b c g.grows h.grows;
      way = h.way;
      few = omega (arith, g.few, h.few);
      cost = omega (arith, g.cost, h.cost);
    }

pub steady_trans : (a b c : List Shape) (w u v : OpenWay) (i j k l m n : ℕ) → Steady a b w u i j → Steady b c u v k l → i + k + n ≤ m + j + l → Steady a c w v m n
steady_trans a b c w u v i j k l m n g h e = record { more = grows_trans a b c w u v i j k l m n g.more h.more e; same = λ q. h.same q ∙ g.same q }

pub steady_refl : (nodes : List Shape) (w : OpenWay) (n : ℕ) → IsWay nodes w → Steady nodes nodes w w n n
steady_refl nodes w n way = record { more = record { grows = extends_refl nodes; way = way; few = omega arith; cost = omega arith }; same = λ q. refl }

-- ---- down
cost_of : (nodes : List Shape) (c : Option ℕ) → or_zero (option_map (cost_at nodes) c) ≡ cost_in nodes c
cost_of nodes None = refl
cost_of nodes (Some c) = refl

pub pushed : (nodes : List Shape) (w v : OpenWay) (x : ℕ) → IsWay nodes w → x < 16 → v.levels ≡ left_by w.top x ∷ w.levels → v.at ≡ w.at + length w.top.part + 1 → IsOpen nodes v.top → ((k : List ℕ) → stands nodes v.top k ≡ found_in nodes (child w.top.row x) k) → costs_below nodes v.top.row ≤ cost_in nodes (child w.top.row x) → Steady nodes nodes w v 1 0
pushed nodes w v x way small el ea is h cost =
    let l : Level = left_by w.top x in
    let len : length w.top.row ≡ 16 = way.top.sixteen in
    let there : x < length w.top.row = omega arith in
    let none : length l.node.row ≡ 16 = length-set w.top.row x None ∙ len in
    let node : IsOpen nodes l.node = record { small = way.top.small; back = back_set (length nodes) w.top.row x None way.top.back tt; sixteen = none } in
    record {
      more = record {
        grows = extends_refl nodes;
        way = record {
          levels = subst (λ (ls : List Level). AllByRecursion (IsLevel nodes) ls) (sym el) ((node, small), way.levels);
          top = is;
          at = omega (arith, ea, way.at, path_length l w.levels, ap (λ (ls : List Level). length (path ls)) el);
        };
        few = omega (arith, ap length el);
        cost = omega (arith, ap (levels_cost nodes) el, costs-set (cost_at nodes) w.top.row x None there, cost_of nodes (child w.top.row x), cost);
      };
      same = λ q. ap (λ (ls : List Level). plug nodes ls (stands nodes v.top) q) el ∙ plug_same nodes w.levels (via nodes l (stands nodes v.top)) (stands nodes w.top) (λ k. hung_opened nodes w.top l.node x (stands nodes v.top) refl refl h (stripped w.top.part k)) q;
    }

-- a child of the arena
pub opened_open : (nodes : List Shape) (c : ℕ) (n : OpenNode) → Sound nodes → c < length nodes → IsOpened nodes c n → IsOpen nodes n
opened_open nodes c n sound lt is =
    let st = sound c lt in
    record {
      small = subst IsNibbles (sym is.part) st.small;
      back = λ y d e. (let less : d < c = st.back y d (ap (λ (r : List (Option ℕ)). child r y) (sym is.row) ∙ e) in omega arith);
      sixteen = ap length is.row ∙ st.sixteen;
    }

pub pushed_child : (nodes : List Shape) (w v : OpenWay) (x c : ℕ) → Sound nodes → IsWay nodes w → x < 16 → v.levels ≡ left_by w.top x ∷ w.levels → v.at ≡ w.at + length w.top.part + 1 → child w.top.row x ≡ Some c → IsOpened nodes c v.top → Steady nodes nodes w v 1 0
pushed_child nodes w v x c sound way small el ea down is =
    let lt : c < length nodes = way.top.back x c down in
    let top : IsOpen nodes v.top = opened_open nodes c v.top sound lt is in
    pushed nodes w v x way small el ea top
    (λ k. (λ i. stands_for nodes (is.part i) (is.value i) (is.row i) k) ∙ sym (found_of nodes c k sound lt) ∙ ap (λ o. found_in nodes o k) (sym down))
    (omega (arith, ap (costs_below nodes) is.row, costs_less nodes c sound lt, ap (cost_in nodes) down))

-- a node that isn't there yet
none_given : (nodes : List Shape) (row : List (Option ℕ)) (m : Option (List ℕ)) → ((y : ℕ) → child row y ≡ None) → given None (map (option_map (found nodes)) row) m ≡ None
none_given nodes row None h = refl
none_given nodes row (Some []) h = refl
none_given nodes row (Some (x ∷ q)) h = given_on nodes None row x q ∙ ap (λ c. found_in nodes c q) (h x)

pub stands_none : (nodes : List Shape) (n : OpenNode) → n.value ≡ None → n.row ≡ no_children → (k : List ℕ) → stands nodes n k ≡ None
stands_none nodes n ev er k =
    (λ i. stands_for nodes n.part (ev i) (er i) k) ∙ none_given nodes no_children (stripped n.part k) (λ y. child-none 16 y)

pub bare_open : (nodes : List Shape) (n : OpenNode) → IsNibbles n.part → n.row ≡ no_children → IsOpen nodes n
bare_open nodes n small er = record { small = small; back = λ x c e. absurd (let none : child no_children x ≡ None = child-none 16 x in let is : child no_children x ≡ Some c = ap (λ (r : List (Option ℕ)). child r x) (sym er) ∙ e in cc); sixteen = ap length er }

pub pushed_bare : (nodes : List Shape) (w v : OpenWay) (x : ℕ) → IsWay nodes w → x < 16 → v.levels ≡ left_by w.top x ∷ w.levels → v.at ≡ w.at + length w.top.part + 1 → child w.top.row x ≡ None → IsNibbles v.top.part → v.top.value ≡ None → v.top.row ≡ no_children → Steady nodes nodes w v 1 0
pushed_bare nodes w v x way small el ea none part ev er =
    pushed nodes w v x way small el ea (bare_open nodes v.top part er)
    (λ k. stands_none nodes v.top ev er k ∙ sym (ap (λ o. found_in nodes o k) none))
    (omega (arith, ap (costs_below nodes) er, ap (cost_in nodes) none))

-- ---- up
pub closed : (old new : List Shape) (w v : OpenWay) (l : Level) (ls : List Level) (id : Option ℕ) → IsWay old w → w.levels ≡ l ∷ ls → Extends old new → length new ≤ length old + 1 → Settles old new w.top.part w.top.value w.top.row id
    → v.levels ≡ ls → v.top.part ≡ l.node.part → v.top.value ≡ l.node.value → v.top.row ≡ set l.node.row l.nibble id → v.at + length l.node.part + 1 ≡ w.at → Steady old new w v 0 0
closed old new w v l ls id way ew grows few settles el ep ev er ea =
    let all : AllByRecursion (IsLevel old) (l ∷ ls) = subst (λ (m : List Level). AllByRecursion (IsLevel old) m) ew way.levels in
    let node : IsOpen old l.node = all.0.0 in
    let lt : l.nibble < 16 = all.0.1 in
    let len : length l.node.row ≡ 16 = node.sixteen in
    let there : l.nibble < length l.node.row = omega arith in
    let more : IsOpen new l.node = open_grown old new l.node grows node in
    let row : length v.top.row ≡ 16 = ap length er ∙ length-set l.node.row l.nibble id ∙ len in
    record {
      more = record {
        grows = grows;
        way = record {
          levels = subst (λ (m : List Level). AllByRecursion (IsLevel new) m) (sym el) (levels_grown old new ls grows all.1);
          top = record {
            small = subst IsNibbles (sym ep) node.small;
            back = λ x c e. back_set (length new) l.node.row l.nibble id more.back settles.there x c (ap (λ (r : List (Option ℕ)). child r x) (sym er) ∙ e);
            sixteen = row;
          };
          at = omega (arith, ea, way.at, ap (λ (m : List Level). length (path m)) ew, path_length l ls, ap (λ (m : List Level). length (path m)) el);
        };
        few = omega (arith, few, ap length ew, ap length el);
        cost = omega (arith, ap (levels_cost new) el, ap (levels_cost old) ew, ap (costs_below new) er, costs-set (cost_at new) l.node.row l.nibble id there, cost_of new id, settles.cost, costs_grown old new l.node grows node, levels_cost_grown old new ls grows all.1);
      };
      same = λ q.
          ap (λ (m : List Level). plug new m (stands new v.top) q) el
          ∙ plug_same new ls (stands new v.top) (via new l (found_in new id)) (λ k. ap (λ (p : List ℕ). given v.top.value (map (option_map (found new)) v.top.row) (stripped p k)) ep ∙ hung_closed new l.node v.top l.nibble id ev er there (stripped l.node.part k)) q
          ∙ plug_same new (l ∷ ls) (found_in new id) (stands old w.top) settles.same q
          ∙ plug_grown old new (l ∷ ls) (stands old w.top) grows all q
          ∙ ap (λ (m : List Level). plug old m (stands old w.top) q) (sym ew);
    }

-- ---- the last node made anew
pub topped : (old new : List Shape) (w v : OpenWay) (a : ℕ) → IsWay old w → Extends old new → v.levels ≡ w.levels → v.at ≡ w.at → IsOpen new v.top → ((q : List ℕ) → stands new v.top q ≡ stands old w.top q) → length new ≤ length old + a → costs_below new v.top.row ≤ costs_below old w.top.row + 2 * a → Steady old new w v a 0
topped old new w v a way grows el ea top same few cost =
    record {
      more = record {
        grows = grows;
        way = record { levels = subst (λ (m : List Level). AllByRecursion (IsLevel new) m) (sym el) (levels_grown old new w.levels grows way.levels); top = top; at = ea ∙ way.at ∙ ap (λ (m : List Level). length (path m)) (sym el) };
        few = omega (arith, few, ap length el);
        cost = omega (arith, cost, ap (levels_cost new) el, levels_cost_grown old new w.levels grows way.levels);
      };
      same = λ q.
          ap (λ (m : List Level). plug new m (stands new v.top) q) el
          ∙ plug_same new w.levels (stands new v.top) (stands old w.top) same q
          ∙ plug_grown old new w.levels (stands old w.top) grows way.levels q;
    }

-- ---- a node that stands for nothing
pub bare_none : (nodes : List Shape) (n : OpenNode) → IsOpen nodes n → is_bare n ≡ true → (n.value ≡ None) × (n.row ≡ no_children)
bare_none nodes n open_n e =
    elim (n.value) as (λ v. n.value ≡ v → cond (is_some v) false (count_by is_some n.row == 0) ≡ true → (n.value ≡ None) × (n.row ≡ no_children)) [
      | None ↦ λ f g. (f, sym (none_there n.row open_n.sixteen g))
      | Some a ↦ λ f g. absurd cc
    ] refl e

pub regrown : (nodes : List Shape) (w v : OpenWay) → IsWay nodes w → is_bare w.top ≡ true → v.levels ≡ w.levels → v.at ≡ w.at → IsNibbles v.top.part → v.top.value ≡ w.top.value → v.top.row ≡ w.top.row → Steady nodes nodes w v 0 0
regrown nodes w v way e el ea small ev er =
    let none = bare_none nodes w.top way.top e in
    topped nodes nodes w v 0 way (extends_refl nodes) el ea (bare_open nodes v.top small (er ∙ none.1))
    (λ q. stands_none nodes v.top (ev ∙ none.0) (er ∙ none.1) q ∙ sym (stands_none nodes w.top none.0 none.1 q))
    (omega arith) (omega (arith, ap (costs_below nodes) er))

-- ---- the root
pub top_none : (nodes : List Shape) (root : Option ℕ) (n : OpenNode) → root ≡ None → n.part ≡ [] → n.value ≡ None → n.row ≡ no_children → TopsSo nodes root n
top_none nodes root n e ep ev er =
    record {
      node = bare_open nodes n (subst IsNibbles (sym ep) (λ i. omega arith)) er;
      same = λ q. stands_none nodes n ev er q ∙ ap (λ (o : Option ℕ). found_in nodes o q) (sym e);
      cost = omega (arith, ap (costs_below nodes) er);
    }

pub top_some : (nodes : List Shape) (root : Option ℕ) (id : ℕ) (n : OpenNode) → Sound nodes → IsIn (length nodes) root → root ≡ Some id → IsOpened nodes id n → TopsSo nodes root n
top_some nodes root id n sound there e is =
    let lt : id < length nodes = subst (IsIn (length nodes)) e there in
    record {
      node = opened_open nodes id n sound lt is;
      same = λ k. (λ i. stands_for nodes (is.part i) (is.value i) (is.row i) k) ∙ sym (found_of nodes id k sound lt) ∙ ap (λ (o : Option ℕ). found_in nodes o k) (sym e);
      cost = omega (arith, ap (costs_below nodes) is.row, costs_less nodes id sound lt, ap (cost_in nodes) e);
    }

pub started : (nodes : List Shape) (root : Option ℕ) (w : OpenWay) → TopsSo nodes root w.top → w.levels ≡ [] → w.at ≡ 0 → StartsSo nodes root w
started nodes root w top el ea =
    record {
      way = record { levels = subst (λ (ls : List Level). AllByRecursion (IsLevel nodes) ls) (sym el) tt; top = top.node; at = ea ∙ ap (λ (ls : List Level). length (path ls)) (sym el) };
      none = el;
      same = λ q. ap (λ (ls : List Level). plug nodes ls (stands nodes w.top) q) el ∙ top.same q;
      cost = omega (arith, top.cost, ap (levels_cost nodes) el);
    }

-- ---- the last node split in two
forked_given : (old new : List Shape) (value : Option (List ℕ)) (below : List (Option ℕ)) (a b : List ℕ) (x : ℕ) (id : Option ℕ) (q : List ℕ) → x < 16 → ((r : List ℕ) → found_in new id r ≡ stands_for old b value below r)
    → given None (map (option_map (found new)) (set no_children x id)) (stripped a q) ≡ given value (map (option_map (found old)) below) (stripped (a ++ x ∷ b) q)
forked_given old new value below [] b x id [] small h = refl
forked_given old new value below [] b x id (y ∷ q) small h =
    elim (x == y) as (λ v. (x == y) ≡ v → asked (child (map (option_map (found new)) (set no_children x id)) y) q ≡ given value (map (option_map (found old)) below) (cond v (stripped b q) None)) [
      | true ↦ λ t. given_on new None (set no_children x id) y q ∙ ap (λ z. found_in new (child (set no_children x id) z) q) (sym (eqb-true x y t)) ∙ ap (λ o. found_in new o q) (child-set no_children x id small) ∙ h q
      | false ↦ λ t. given_on new None (set no_children x id) y q ∙ ap (λ o. found_in new o q) (child-set_other no_children x id y (λ same. not_same x y t (sym same)) ∙ child-none 16 y)
    ] refl
forked_given old new value below (z ∷ a) b x id [] small h = refl
forked_given old new value below (z ∷ a) b x id (y ∷ q) small h =
    elim (z == y) as (λ v. given None (map (option_map (found new)) (set no_children x id)) (cond v (stripped a q) None) ≡ given value (map (option_map (found old)) below) (cond v (stripped (a ++ x ∷ b) q) None)) [
      | true ↦ forked_given old new value below a b x id q small h
      | false ↦ refl
    ]

-- ---- another value at a key
pub at_key : (old : List Shape) (w v : OpenWay) (key : List ℕ) (o : Option (List ℕ)) → v.levels ≡ w.levels → IsAlong key w → Sets (stands old w.top) (stands old v.top) (left key w.at) o → Sets (holds old w) (holds old v) (nibbles key) o
at_key old w v key o el along sets =
    let all = plug_sets old w.levels (stands old w.top) (stands old v.top) (left key w.at) o sets in
    record {
      here = ap (λ (m : List Level). plug old m (stands old v.top) (nibbles key)) el ∙ ap (plug old w.levels (stands old v.top)) along ∙ all.here;
      other = λ q ne. ap (λ (m : List Level). plug old m (stands old v.top) q) el ∙ all.other q (λ e. ne (e ∙ sym along));
    }

-- ---- whether a key is there
held_along : (nodes : List Shape) (w : OpenWay) (key : List ℕ) → IsAlong key w → holds nodes w (nibbles key) ≡ stands nodes w.top (left key w.at)
held_along nodes w key along = (at_key nodes w w key (stands nodes w.top (left key w.at)) refl along (record { here = refl; other = λ q ne. refl })).here

pub stands_here : (nodes : List Shape) (n : OpenNode) (k : List ℕ) → stripped n.part k ≡ Some [] → stands nodes n k ≡ n.value
stands_here nodes n k e = ap (given n.value (map (option_map (found nodes)) n.row)) e

-- the last node tells it, where the key goes along
pub found_behind : (old new : List Shape) (first w : OpenWay) (key : List ℕ) (i j : ℕ) (o : Option (List ℕ)) (there : Bool) → Steady old new first w i j → IsAlong key w → stands new w.top (left key w.at) ≡ o → there ≡ is_some o → there ≡ is_some (holds old first (nibbles key))
found_behind old new first w key i j o there steady along here e = e ∙ ap (λ (v : Option (List ℕ)). is_some v) (sym here ∙ sym (held_along new w key along) ∙ steady.same (nibbles key))

-- behind turns that change nothing
pub found_same : (a b : List Shape) (w u : OpenWay) (key : List ℕ) (there : Bool) → Steady a b w u 0 0 → there ≡ is_some (holds b u (nibbles key)) → there ≡ is_some (holds a w (nibbles key))
found_same a b w u key there steady e = e ∙ ap (λ (v : Option (List ℕ)). is_some v) (steady.same (nibbles key))

cut_at : (p : List ℕ) (n : ℕ) → n < length p → p ≡ take n p ++ get_or p n 0 ∷ drop (suc n) p
cut_at [] n lt = absurd (omega arith)
cut_at (x ∷ p) zero lt = refl
cut_at (x ∷ p) (suc n) lt = ap (λ (l : List ℕ). x ∷ l) (cut_at p n (omega arith))

pub split_steady : (old new : List Shape) (w v : OpenWay) (n : ℕ) (id : Option ℕ) → IsWay old w → n < length w.top.part → Extends old new → length new ≤ length old + 1 → Settles old new (drop (n + 1) w.top.part) w.top.value w.top.row id
    → v.levels ≡ w.levels → v.at ≡ w.at → v.top.part ≡ take n w.top.part → v.top.value ≡ None → v.top.row ≡ set no_children (get_or w.top.part n 0) id → Steady old new w v 1 0
split_steady old new w v n id way lt grows few settles el ea ep ev er =
    let p : List ℕ = w.top.part in
    let x : ℕ = get_or p n 0 in
    let small : x < 16 = way.top.small n in
    let is : p ≡ take n p ++ x ∷ drop (n + 1) p = cut_at p n lt ∙ ap (λ m. take n p ++ x ∷ drop m p) (sym (add-one n)) in
    let row : length v.top.row ≡ 16 = ap length er ∙ length-set no_children x id in
    let top : IsOpen new v.top = record {
      small = subst IsNibbles (sym ep) (take_small n p way.top.small);
      back = λ y c e. back_set (length new) no_children x id (leaf_back (length new)) settles.there y c (ap (λ (r : List (Option ℕ)). child r y) (sym er) ∙ e);
      sixteen = row;
    } in
    topped old new w v 1 way grows el ea top
    (λ q. (λ i. stands_for new (ep i) (ev i) (er i) q) ∙ forked_given old new w.top.value w.top.row (take n p) (drop (n + 1) p) x id q small settles.same ∙ ap (λ (r : List ℕ). given w.top.value (map (option_map (found old)) w.top.row) (stripped r q)) (sym is))
    few
    (omega (arith, ap (costs_below new) er, costs-set (cost_at new) no_children x id small, cost_of new id, settles.cost))

pub split_row : (row : List (Option ℕ)) (x y : ℕ) (id : Option ℕ) → row ≡ no_children → y ≢ x → child (set row x id) y ≡ None
split_row row x y id e ne = child-set_other row x id y ne ∙ ap (λ (r : List (Option ℕ)). child r y) e ∙ child-none 16 y

pub along_pushed : (key : List ℕ) (w v : OpenWay) (x next : ℕ) → IsAlong key w → stripped w.top.part (left key w.at) ≡ Some (x ∷ left key next) → v.levels ≡ left_by w.top x ∷ w.levels → v.at ≡ next → IsAlong key v
along_pushed key w v x next along e el ea = along_down key w x next along e ∙ (λ i. path (sym el i) ++ left key (sym ea i))

pub close_at : (nodes : List Shape) (w : OpenWay) (l : Level) (ls : List Level) (n : ℕ) → IsWay nodes w → w.levels ≡ l ∷ ls → n ≡ length l.node.part → w.at - 1 - n + length l.node.part + 1 ≡ w.at
close_at nodes w l ls n way e same = omega (arith, way.at, ap (λ (m : List Level). length (path m)) e, path_length l ls)

-- ---- where no level is left
pub some_levels : (nodes : List Shape) (w : OpenWay) → IsWay nodes w → 0 < w.at → 0 < length w.levels
some_levels nodes w way lt = by_levels w.levels refl
  where
    by_levels : (ls : List Level) → w.levels ≡ ls → 0 < length w.levels
    by_levels [] e = absurd (omega (arith, way.at, ap (λ (m : List Level). length (path m)) e))
    by_levels (l ∷ ls) e = omega (arith, ap length e)

pub no_levels : (nodes : List Shape) (w : OpenWay) → IsWay nodes w → w.at ≡ 0 → w.levels ≡ []
no_levels nodes w way e = by_levels w.levels refl
  where
    by_levels : (ls : List Level) → w.levels ≡ ls → w.levels ≡ []
    by_levels [] f = f
    by_levels (l ∷ ls) f = absurd (omega (arith, way.at, ap (λ (m : List Level). length (path m)) f, path_length l ls))

-- ---- a key that isn't there
pub apart_none : (s : Shape) (key : List ℕ) (at n : ℕ) → Parts s key at n → stripped s.part (left key at) ≡ None
apart_none s key at n p = stripped_apart s.part (left key at) (left key (at + n)) n p.matches.front (goes_off s.part (left key (at + n)) n p.more (p.matches.differ p.more))

pub sprout_absent : (nodes : List Shape) (n : OpenNode) (key : List ℕ) (at x next : ℕ) → GoesBy (shape_of n) key at x next → child n.row x ≡ None → stands nodes n (left key at) ≡ None
sprout_absent nodes n key at x next by none = ap (given n.value (map (option_map (found nodes)) n.row)) by.part ∙ given_on nodes n.value n.row x (left key next) ∙ ap (λ o. found_in nodes o (left key next)) none

pub apart_absent : (nodes : List Shape) (n : OpenNode) (key : List ℕ) (at shared : ℕ) → Parts (shape_of n) key at shared → stands nodes n (left key at) ≡ None
apart_absent nodes n key at shared p = ap (given n.value (map (option_map (found nodes)) n.row)) (apart_none (shape_of n) key at shared p)

-- ---- two keys' fronts
nibbles_take : (n : ℕ) (k : List ℕ) → take (2 * n) (nibbles k) ≡ nibbles (take n k)
nibbles_take zero k = refl
nibbles_take (suc n) [] = let e : 2 * suc n ≡ suc (suc (2 * n)) = omega arith in ap (λ m. take m (nibbles [])) e
nibbles_take (suc n) (b ∷ k) =
    let e : 2 * suc n ≡ suc (suc (2 * n)) = omega arith in
    ap (λ m. take m (nibbles (b ∷ k))) e ∙ ap (λ (l : List ℕ). b / 16 ∷ b % 16 ∷ l) (nibbles_take n k)

half_take : (n : ℕ) (k : List ℕ) → n < length k → take (2 * n + 1) (nibbles k) ≡ nibbles (take n k) ++ get_or k n 0 / 16 ∷ []
half_take n [] lt = absurd (omega arith)
half_take zero (b ∷ k) lt = refl
half_take (suc n) (b ∷ k) lt =
    let e : 2 * suc n + 1 ≡ suc (suc (2 * n + 1)) = omega arith in
    ap (λ m. take m (nibbles (b ∷ k))) e ∙ ap (λ (l : List ℕ). b / 16 ∷ b % 16 ∷ l) (half_take n k (omega arith))

next_take : (n : ℕ) (k : List ℕ) → n < length k → take (suc n) k ≡ take n k ++ get_or k n 0 ∷ []
next_take n [] lt = absurd (omega arith)
next_take zero (b ∷ k) lt = refl
next_take (suc n) (b ∷ k) lt = ap (λ (l : List ℕ). b ∷ l) (next_take n k (omega arith))

pub shared_more : (a b : List ℕ) (n m : ℕ) → take n a ≡ take n b → n < length a → n < length b → get_or a n 0 ≡ get_or b n 0 → m ≡ n + 1 → take m a ≡ take m b
shared_more a b n m e la lb same em =
    ap (λ i. take i a) (em ∙ add-one n) ∙ next_take n a la ∙ (λ i. e i ++ same i ∷ []) ∙ sym (next_take n b lb) ∙ ap (λ i. take i b) (sym (em ∙ add-one n))

pub shared_even : (a b : List ℕ) (n : ℕ) → take n a ≡ take n b → take (2 * n) (nibbles a) ≡ take (2 * n) (nibbles b)
shared_even a b n e = nibbles_take n a ∙ ap nibbles e ∙ sym (nibbles_take n b)

pub shared_odd : (a b : List ℕ) (n : ℕ) → take n a ≡ take n b → n < length a → n < length b → get_or a n 0 / 16 ≡ get_or b n 0 / 16 → take (2 * n + 1) (nibbles a) ≡ take (2 * n + 1) (nibbles b)
shared_odd a b n e la lb same = half_take n a la ∙ (λ i. nibbles (e i) ++ same i ∷ []) ∙ sym (half_take n b lb)

-- ---- one node further down
pub record Descended (nodes : List Shape) (first w v : OpenWay) (key : List ℕ) : Type 0 where
  pub steady : Steady nodes nodes first v (length (left key first.at)) (length (left key v.at))
  pub along : IsAlong key v
  pub less : length (left key v.at) < length (left key w.at)

pub descended : (nodes : List Shape) (first w v : OpenWay) (key : List ℕ) (x next c : ℕ) → Sound nodes → Steady nodes nodes first w (length (left key first.at)) (length (left key w.at)) → IsAlong key w → HeadsSo (length nodes) w.top key w.at (Down x next c) → IsOpened nodes c v.top → v.levels ≡ left_by w.top x ∷ w.levels → v.at ≡ next → Descended nodes first w v key
descended nodes first w v key x next c sound steady along heads is el ea =
    let by : GoesBy (shape_of w.top) key w.at x next = heads.0.0 in
    let down : child w.top.row x ≡ Some c = heads.0.1 in
    let place : next ≡ w.at + length w.top.part + 1 = heads.1 in
    let more : Steady nodes nodes w v 1 0 = pushed_child nodes w v x c sound steady.more.way by.small el (ea ∙ place) down is in
    let shorter : length (left key v.at) + 1 ≤ length (left key w.at) = subst (λ n. length (left key n) + 1 ≤ length (left key w.at)) (sym ea) (left_less (shape_of w.top) key w.at x next by) in
    record {
      steady = steady_trans nodes nodes nodes first w v (length (left key first.at)) (length (left key w.at)) 1 0 (length (left key first.at)) (length (left key v.at)) steady more (omega arith);
      along = along_pushed key w v x next along by.part el ea;
      less = omega arith;
    }

-- ---- the value at a key, or none, behind turns that change nothing
drop_le : (n : ℕ) (k : List ℕ) → length (drop n k) ≤ length k
drop_le zero k = omega arith
drop_le (suc n) [] = omega arith
drop_le (suc n) (x ∷ k) = omega (arith, drop_le n k)

pub left_le : (key : List ℕ) (at : ℕ) → length (left key at) ≤ length (nibbles key)
left_le key at = drop_le at (nibbles key)

pub valued : (old new : List Shape) (first w v : OpenWay) (key : List ℕ) (o : Option (List ℕ)) (i j m : ℕ) → Steady old new first w i j → i ≤ m + j → IsAlong key w → Sets (stands new w.top) (stands new v.top) (left key w.at) o → v.levels ≡ w.levels → v.at ≡ w.at → v.top.part ≡ w.top.part → v.top.row ≡ w.top.row → Alters old new first v (nibbles key) o m 0
valued old new first w v key o i j m steady le along sets el ea ep er =
    let s = at_key new w v key o el along sets in
    let top = steady.more.way.top in
    record {
      more = record {
        grows = steady.more.grows;
        way = record {
          levels = subst (λ (ls : List Level). AllByRecursion (IsLevel new) ls) (sym el) steady.more.way.levels;
          top = record { small = subst IsNibbles (sym ep) top.small; back = λ x c e. top.back x c (ap (λ (r : List (Option ℕ)). child r x) (sym er) ∙ e); sixteen = ap length er ∙ top.sixteen };
          at = ea ∙ steady.more.way.at ∙ ap (λ (ls : List Level). length (path ls)) (sym el);
        };
        few = omega (arith, steady.more.few, ap length el);
        cost = omega (arith, steady.more.cost, ap (levels_cost new) el, ap (costs_below new) er);
      };
      sets = record { here = s.here; other = λ q ne. s.other q ne ∙ steady.same q };
    }

pub absent : (old new : List Shape) (first w : OpenWay) (key : List ℕ) (i j m : ℕ) → Steady old new first w i j → i ≤ m + j → IsAlong key w → stands new w.top (left key w.at) ≡ None → Alters old new first w (nibbles key) None m 0
absent old new first w key i j m steady le along none = valued old new first w w key None i j m steady le along (record { here = none; other = λ q ne. refl }) refl refl refl refl

pub altered_behind : (a b c : List Shape) (w u v : OpenWay) (key : List ℕ) (o : Option (List ℕ)) (m : ℕ) → Steady a b w u 0 0 → Alters b c u v key o m 0 → Alters a c w v key o m 0
altered_behind a b c w u v key o m steady alters =
    record {
      more = grows_trans a b c w u v 0 0 m 0 m 0 steady.more alters.more (omega arith);
      sets = record { here = alters.sets.here; other = λ q ne. alters.sets.other q ne ∙ steady.same q };
    }

-- ---- all closed
pub finished : (old now new : List Shape) (w v : OpenWay) (id : Option ℕ) → Steady old now w v 0 0 → v.at ≡ 0 → Settles now new v.top.part v.top.value v.top.row id → (q : List ℕ) → found_in new id q ≡ holds old w q
finished old now new w v id steady e settles q =
    settles.same q ∙ ap (λ (ls : List Level). plug now ls (stands now v.top) q) (sym (no_levels now v steady.more.way e)) ∙ steady.same q
