-- Places that wait to be listed: the children of a node behind its key.
use Rattle.std.proofs.Common.{◌≡◌, ◌<◌, ◌≤◌, ◌+◌, ◌-◌, ◌*◌, ◌%◌, ℕ, zero, suc, List, [], ◌∷◌, ◌++◌, length, drop, map, get_or, Option, Some, None, refl, ap, sym, ◌∙◌, subst, arith, append_assoc}
use Rattle.std.proofs.lemmas.List.{append-nil, map-append}
use Rattle.std.proofs.lemmas.List.Sums.{sum_by-cons}
use mathlib.Core.Bool.{false≢true}
use Rattle.std.specs.Borrow.{Bor}
use Rattle.std.specs.Prelude.{sum_by, is_some, true, false}
use Rattle.std.specs.Option.{option_map, option_copied}
use Rattle.nr_triedef.specs.Node.{nibbles, paired, IsNibbles}
use Rattle.nr_triedef.specs.Root.{Paths}
use Rattle.nr_trienodes.specs.Shape.{Shape, child, shape_at}
use Rattle.nr_trienodes.specs.Tries.{in_front, own_path, paths_from, paths_at, count_at, node_count, or_zero}
use Rattle.nr_trienodes.specs.Views.{Sound}
use Rattle.nr_trienodes.specs.Roots.{IsWhole}
use Rattle.nr_trienodes.specs.Turns.{left}
use Rattle.nr_trienodes.specs.Listing.{kept, BendsDown, place_paths, paths_of, count_of, IsPlace, ArePlaces, AreWhole, keys_in, own_keys, Pushed, PushesSo, RowPushed, PlaceListed}
use Rattle.nr_trienodes.specs.declared.listing.Place.{Place}
use Rattle.nr_trienodes.proofs.Folds.{fold_at}
use Rattle.nr_trienodes.proofs.Sounds.{back_sound}
use Rattle.nr_trienodes.proofs.Rows.{child_get}
use Rattle.nr_trienodes.proofs.Begins.{paths_here, below_paths}

-- ---- fronts
pub front_none : (ps : Paths) → in_front [] ps ≡ ps
front_none [] = refl
front_none (p ∷ ps) = ap (λ (t : Paths). p ∷ t) (front_none ps)

pub front_two : (a b : List ℕ) (ps : Paths) → in_front a (in_front b ps) ≡ in_front (a ++ b) ps
front_two a b [] = refl
front_two a b (p ∷ ps) = (λ i. (sym (append_assoc a b p.0) i, p.1) ∷ front_two a b ps i)

pub front_append : (a : List ℕ) (ps qs : Paths) → in_front a (ps ++ qs) ≡ in_front a ps ++ in_front a qs
front_append a ps qs = map-append (λ (p : List ℕ × List ℕ). (a ++ p.0, p.1)) ps qs

pub small_none : (front : List ℕ) → front ≡ [] → IsNibbles front
small_none front e = subst IsNibbles (sym e) (λ i. omega arith)

-- the paths that are kept, behind a front that goes one node deeper
pub front_deeper : (nodes : List Shape) (root id below x : ℕ) (prefix : List ℕ) (at next : ℕ) (front more : List ℕ) → more ≡ (front ++ (shape_at nodes id).part) ++ x ∷ [] → kept (nibbles prefix) (paths_at nodes root) ≡ in_front front (kept (left prefix at) (paths_at nodes id)) → BendsDown nodes id prefix at x next below → kept (nibbles prefix) (paths_at nodes root) ≡ in_front more (kept (left prefix next) (paths_at nodes below))
front_deeper nodes root id below x prefix at next front more e before down =
    let part : List ℕ = (shape_at nodes id).part in
    let ps : Paths = kept (left prefix next) (paths_at nodes below) in
    before ∙ ap (in_front front) (down.paths ∙ front_two part (x ∷ []) ps) ∙ front_two front (part ++ x ∷ []) ps
    ∙ ap (λ (f : List ℕ). in_front f ps) (sym (append_assoc front part (x ∷ [])) ∙ sym e)

-- ---- one place more
paths_push : (nodes : List Shape) (ps : List Place) (p : Place) → paths_of nodes (ps ++ p ∷ []) ≡ place_paths nodes p ++ paths_of nodes ps
paths_push nodes [] p = sym (append-nil (place_paths nodes p))
paths_push nodes (q ∷ ps) p = ap (λ (t : Paths). t ++ place_paths nodes q) (paths_push nodes ps p) ∙ append_assoc (place_paths nodes p) (paths_of nodes ps) (place_paths nodes q)

count_push : (nodes : List Shape) (ps : List Place) (p : Place) → count_of nodes (ps ++ p ∷ []) ≡ count_at nodes p.node + count_of nodes ps
count_push nodes [] p = omega arith
count_push nodes (q ∷ ps) p = omega (arith, count_push nodes ps p)

places_push : (nodes : List Shape) (ps : List Place) (p : Place) → ArePlaces nodes ps → IsPlace nodes p → ArePlaces nodes (ps ++ p ∷ [])
places_push nodes [] p h is = (is, tt)
places_push nodes (q ∷ ps) p h is = (h.0, places_push nodes ps p h.1 is)

pub small_append : (a b : List ℕ) → IsNibbles a → IsNibbles b → IsNibbles (a ++ b)
small_append [] b h k i = k i
small_append (x ∷ a) b h k zero = h 0
small_append (x ∷ a) b h k (suc i) = small_append a b (λ j. h (suc j)) k i

pub small_one : (x : ℕ) → x < 16 → IsNibbles (x ∷ [])
small_one x lt zero = lt
small_one x lt (suc i) = omega arith

pub small_deeper : (nodes : List Shape) (id x : ℕ) (front more : List ℕ) → Sound nodes → id < length nodes → more ≡ (front ++ (shape_at nodes id).part) ++ x ∷ [] → x < 16 → IsNibbles front → IsNibbles more
small_deeper nodes id x front more sound lt e few small = subst IsNibbles (sym e) (small_append (front ++ (shape_at nodes id).part) (x ∷ []) (small_append front (shape_at nodes id).part small (sound id lt).small) (small_one x few))

-- ---- the children
drop_children : {A : Type 0} (f : ℕ → A) (row : List (Option ℕ)) (j : ℕ) → j < length row → drop j (map (option_map f) row) ≡ option_map f (get_or row j None) ∷ drop (suc j) (map (option_map f) row)
drop_children f [] j lt = absurd (omega arith)
drop_children f (c ∷ row) zero lt = refl
drop_children f (c ∷ row) (suc j) lt = drop_children f row j (omega arith)

abbrev Stays : List Shape → List (Option ℕ) → List ℕ → ℕ → List Place → List Place → List Place → Option ℕ → Type 0
Stays nodes row key j old mid new c = get_or row j None ≡ c → PushesSo mid new c key j → RowPushed nodes row key j old new

pub row_step : (nodes : List Shape) (row : List (Option ℕ)) (key : List ℕ) (j : ℕ) (old mid new : List Place) → j < length row → j < 16 → IsNibbles key → ((x c : ℕ) → child row x ≡ Some c → c < length nodes) → RowPushed nodes row key (suc j) old mid → PushesSo mid new (get_or row j None) key j → RowPushed nodes row key j old new
row_step nodes row key j old mid new lt few small back h pushes = elim (get_or row j None) as (Stays nodes row key j old mid new) [ None ↦ λ e p. nobody e p | Some c ↦ λ e p. somebody c e p ] refl pushes
  where
    nobody : get_or row j None ≡ None → new ≡ mid → RowPushed nodes row key j old new
    nobody e p =
        let ps : drop j (map (option_map (paths_at nodes)) row) ≡ None ∷ drop (suc j) (map (option_map (paths_at nodes)) row) = drop_children (paths_at nodes) row j lt ∙ ap (λ (o : Option ℕ). option_map (paths_at nodes) o ∷ drop (suc j) (map (option_map (paths_at nodes)) row)) e in
        let ns : drop j (map (option_map (count_at nodes)) row) ≡ None ∷ drop (suc j) (map (option_map (count_at nodes)) row) = drop_children (count_at nodes) row j lt ∙ ap (λ (o : Option ℕ). option_map (count_at nodes) o ∷ drop (suc j) (map (option_map (count_at nodes)) row)) e in
        record {
          paths = ap (paths_of nodes) p ∙ h.paths ∙ ap (λ (bs : List (Option Paths)). in_front key (paths_from j bs) ++ paths_of nodes old) (sym ps);
          count = omega (arith, ap (count_of nodes) p, h.count, ap (sum_by or_zero) ns, sum_by-cons or_zero None (drop (suc j) (map (option_map (count_at nodes)) row)));
          places = λ a. subst (ArePlaces nodes) (sym p) (h.places a);
        }

    somebody : (c : ℕ) → get_or row j None ≡ Some c → Pushed mid new c key j → RowPushed nodes row key j old new
    somebody c e p =
        let ps : drop j (map (option_map (paths_at nodes)) row) ≡ Some (paths_at nodes c) ∷ drop (suc j) (map (option_map (paths_at nodes)) row) = drop_children (paths_at nodes) row j lt ∙ ap (λ (o : Option ℕ). option_map (paths_at nodes) o ∷ drop (suc j) (map (option_map (paths_at nodes)) row)) e in
        let ns : drop j (map (option_map (count_at nodes)) row) ≡ Some (count_at nodes c) ∷ drop (suc j) (map (option_map (count_at nodes)) row) = drop_children (count_at nodes) row j lt ∙ ap (λ (o : Option ℕ). option_map (count_at nodes) o ∷ drop (suc j) (map (option_map (count_at nodes)) row)) e in
        let rest : Paths = paths_from (suc j) (drop (suc j) (map (option_map (paths_at nodes)) row)) in
        let own : place_paths nodes p.place ≡ in_front key (in_front (j ∷ []) (paths_at nodes c)) = (λ i. in_front (p.front i) (paths_at nodes (p.node i))) ∙ sym (front_two key (j ∷ []) (paths_at nodes c)) in
        let placed : IsPlace nodes p.place = record { there = subst (λ n. n < length nodes) (sym p.node) (back j c (sym (child_get row j) ∙ e)); small = subst IsNibbles (sym p.front) (small_append key (j ∷ []) small (small_one j few)) } in
        record {
          paths =
              ap (paths_of nodes) p.is ∙ paths_push nodes mid p.place
              ∙ (λ i. own i ++ h.paths i)
              ∙ sym (append_assoc (in_front key (in_front (j ∷ []) (paths_at nodes c))) (in_front key rest) (paths_of nodes old))
              ∙ ap (λ (t : Paths). t ++ paths_of nodes old) (sym (front_append key (in_front (j ∷ []) (paths_at nodes c)) rest))
              ∙ ap (λ (bs : List (Option Paths)). in_front key (paths_from j bs) ++ paths_of nodes old) (sym ps);
          count = omega (arith, ap (count_of nodes) p.is, count_push nodes mid p.place, ap (count_at nodes) p.node, h.count, ap (sum_by or_zero) ns, sum_by-cons or_zero (Some (count_at nodes c)) (drop (suc j) (map (option_map (count_at nodes)) row)));
          places = λ a. subst (ArePlaces nodes) (sym p.is) (places_push nodes mid p.place (h.places a) placed);
        }

pub row_down : (nodes : List Shape) (id : ℕ) (row : List (Option ℕ)) (key : List ℕ) (count : ℕ)
    (old mid new : List Place) → Sound nodes → id < length nodes → row ≡ (shape_at nodes id).below → 0 < count
    → count ≤ 16 → IsNibbles key → RowPushed nodes row key count old mid
    → PushesSo mid new (get_or row (count - 1) None) key (count - 1) → RowPushed nodes row key (count - 1) old new
row_down nodes id row key count old mid new sound lt is some few small h pushes =
    let sixteen : length row ≡ 16 = ap length is ∙ (sound id lt).sixteen in
    let e : count ≡ suc (count - 1) = omega arith in
    row_step nodes row key (count - 1) old mid new (omega arith) (omega arith) small
    (λ x c f. let less : c < id = (sound id lt).back x c (ap (λ (cs : List (Option ℕ)). child cs x) (sym is) ∙ f) in omega arith)
    (subst (λ n. RowPushed nodes row key n old mid) e h) pushes

-- ---- a place
whole_split : (ps qs : Paths) → AreWhole (ps ++ qs) → AreWhole ps × AreWhole qs
whole_split [] qs h = (tt, h)
whole_split (p ∷ ps) qs h = let r = whole_split ps qs h.1 in ((h.0, r.0), r.1)

whole_join : (ps qs : Paths) → AreWhole ps → AreWhole qs → AreWhole (ps ++ qs)
whole_join [] qs h k = k
whole_join (p ∷ ps) qs h k = (h.0, whole_join ps qs h.1 k)

keys_append : (ps qs : Paths) → keys_in (ps ++ qs) ≡ keys_in ps ++ keys_in qs
keys_append ps qs = map-append (λ (p : List ℕ × List ℕ). paired p.0) ps qs

abbrev Below : List Shape → ℕ → List ℕ → Paths
Below nodes node key = in_front key (paths_from 0 (below_paths nodes node))

-- the paths of a place: its own, and those below it
place_is : (nodes : List Shape) (p : Place) (key : List ℕ) → Sound nodes → p.node < length nodes → key ≡ p.front.items ++ (shape_at nodes p.node).part → place_paths nodes p ≡ in_front key (own_path (shape_at nodes p.node).value) ++ Below nodes p.node key
place_is nodes p key sound lt e =
    ap (in_front p.front.items) (paths_here nodes p.node sound lt)
    ∙ front_two p.front.items (shape_at nodes p.node).part (own_path (shape_at nodes p.node).value ++ paths_from 0 (below_paths nodes p.node))
    ∙ ap (λ (k : List ℕ). in_front k (own_path (shape_at nodes p.node).value ++ paths_from 0 (below_paths nodes p.node))) (sym e)
    ∙ front_append key (own_path (shape_at nodes p.node).value) (paths_from 0 (below_paths nodes p.node))

count_is : (nodes : List Shape) (id : ℕ) → Sound nodes → id < length nodes → count_at nodes id ≡ 1 + sum_by or_zero (map (option_map (count_at nodes)) (shape_at nodes id).below)
count_is nodes id sound lt = fold_at node_count 0 nodes id (back_sound nodes sound) lt

even_key : (key : List ℕ) → IsWhole key → length key % 2 ≡ 0
even_key key h = let n : length key ≡ 2 * length h.0 = ap length h.1 ∙ length-nibbles h.0 in omega arith
  where
    length-nibbles : (key : List ℕ) → length (nibbles key) ≡ 2 * length key
    length-nibbles [] = refl
    length-nibbles (b ∷ key) = omega (arith, length-nibbles key)

-- the key of a place with a value
pub whole_key : (nodes : List Shape) (p : Place) (key : List ℕ) → Sound nodes → p.node < length nodes → key ≡ p.front.items ++ (shape_at nodes p.node).part → AreWhole (place_paths nodes p) → is_some (shape_at nodes p.node).value ≡ true → length key % 2 ≡ 0
whole_key nodes p key sound lt e whole some = even_key key (own (shape_at nodes p.node).value refl some)
  where
    own : (o : Option (List ℕ)) → (shape_at nodes p.node).value ≡ o → is_some o ≡ true → IsWhole key
    own None is h = absurd (false≢true h)
    own (Some value) is h =
        let here : place_paths nodes p ≡ (key ++ [], value) ∷ Below nodes p.node key = place_is nodes p key sound lt e ∙ ap (λ (o : Option (List ℕ)). in_front key (own_path o) ++ Below nodes p.node key) is in
        let all : AreWhole ((key ++ [], value) ∷ Below nodes p.node key) = subst AreWhole here whole in
        subst IsWhole (append-nil key) all.0

-- what a node's own key adds to the list
pub own_none : (nodes : List Shape) (id : ℕ) (key : List ℕ) (before : List (List ℕ)) → is_some (shape_at nodes id).value ≡ false → before ≡ before ++ own_keys nodes id key
own_none nodes id key before e = nothing (shape_at nodes id).value e
  where
    nothing : (o : Option (List ℕ)) → is_some o ≡ false → before ≡ before ++ keys_in (in_front key (own_path o))
    nothing None h = sym (append-nil before)
    nothing (Some v) h = absurd (false≢true (sym h))

pub copied_some : {A : Type 0} (o : Option (Bor A)) → is_some (option_copied o) ≡ is_some o
copied_some None = refl
copied_some (Some x) = refl

pub place_listed : (nodes : List Shape) (p : Place) (key : List ℕ) (before listed : List (List ℕ))
    (old new : List Place) → Sound nodes → p.node < length nodes → key ≡ p.front.items ++ (shape_at nodes p.node).part
    → AreWhole (place_paths nodes p) → listed ≡ before ++ own_keys nodes p.node key
    → RowPushed nodes (shape_at nodes p.node).below key 0 old new → PlaceListed nodes p before listed old new
place_listed nodes p key before listed old new sound lt e whole is pushed =
    let own : Paths = in_front key (own_path (shape_at nodes p.node).value) in
    let below : Paths = Below nodes p.node key in
    let here : place_paths nodes p ≡ own ++ below = place_is nodes p key sound lt e in
    let parts : AreWhole own × AreWhole below = whole_split own below (subst AreWhole here whole) in
    record {
      keys =
          (λ i. is i ++ keys_in (pushed.paths i))
          ∙ append_assoc before (keys_in own) (keys_in (below ++ paths_of nodes old))
          ∙ ap (λ (t : List (List ℕ)). before ++ t) (
          sym (keys_append own (below ++ paths_of nodes old))
          ∙ ap keys_in (sym (append_assoc own below (paths_of nodes old)) ∙ ap (λ (t : Paths). t ++ paths_of nodes old) (sym here)));
      count = omega (arith, pushed.count, count_is nodes p.node sound lt);
      places = pushed.places;
      whole = λ h. subst AreWhole (sym pushed.paths) (whole_join below (paths_of nodes old) parts.1 h);
    }

-- ---- all of them
-- the last place taken off
pub last_place : (nodes : List Shape) (places rest : List Place) (p : Place) → places ≡ rest ++ p ∷ [] → paths_of nodes places ≡ place_paths nodes p ++ paths_of nodes rest
last_place nodes places rest p e = ap (paths_of nodes) e ∙ paths_push nodes rest p

pub last_count : (nodes : List Shape) (places rest : List Place) (p : Place) → places ≡ rest ++ p ∷ [] → count_of nodes places ≡ count_at nodes p.node + count_of nodes rest
last_count nodes places rest p e = ap (count_of nodes) e ∙ count_push nodes rest p

places_last : (nodes : List Shape) (rest : List Place) (p : Place) → ArePlaces nodes (rest ++ p ∷ []) → ArePlaces nodes rest × IsPlace nodes p
places_last nodes [] p h = (tt, h.0)
places_last nodes (q ∷ rest) p h = let r = places_last nodes rest p h.1 in ((h.0, r.0), r.1)

pub last_places : (nodes : List Shape) (places rest : List Place) (p : Place) → places ≡ rest ++ p ∷ [] → ArePlaces nodes places → ArePlaces nodes rest × IsPlace nodes p
last_places nodes places rest p e h = places_last nodes rest p (subst (ArePlaces nodes) e h)

pub last_whole : (nodes : List Shape) (places rest : List Place) (p : Place) → places ≡ rest ++ p ∷ [] → AreWhole (paths_of nodes places) → AreWhole (place_paths nodes p) × AreWhole (paths_of nodes rest)
last_whole nodes places rest p e h = whole_split (place_paths nodes p) (paths_of nodes rest) (subst AreWhole (last_place nodes places rest p e) h)
