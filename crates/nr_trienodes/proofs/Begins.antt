-- Which paths begin with a prefix.
use Rattle.std.proofs.Common.{◌≡◌, ◌≢◌, ◌==◌, ◌<◌, ◌≤◌, ◌+◌, ◌/◌, ◌%◌, ℕ, zero, suc, Bool, true, false, cond, ◌&&◌, List, [], ◌∷◌, ◌++◌, length, take, drop, map, get_or, Option, Some, None, refl, ap, sym, ◌∙◌, subst, eq-eqb, arith, append_assoc}
use mathlib.Core.Bool.{false≢true}
use Rattle.std.specs.Prelude.{is_some, IsSome}
use Rattle.std.specs.Option.{option_map}
use Rattle.std.specs.List.{filter, starts_with}
use Rattle.std.specs.FinMap.{entries, len-entries, len-empty, empty}
use Rattle.std.proofs.lemmas.Bool.{ne_eqb, eqb-true, eqb-false}
use Rattle.std.proofs.lemmas.List.{append-nil, nil_from_length}
use Rattle.std.proofs.lemmas.List.Elements.{filter-append}
use Rattle.nr_triedef.specs.Node.{nibbles}
use Rattle.nr_triedef.specs.Root.{Paths, paths}
use Rattle.nr_triedef.specs.Stores.{keys_below}
use Rattle.nr_trienodes.specs.Shape.{Shape, child, shape_at}
use Rattle.nr_trienodes.specs.Tries.{stripped, in_front, own_path, paths_from, node_paths, paths_at}
use Rattle.nr_trienodes.specs.Views.{Sound}
use Rattle.nr_trienodes.specs.Roots.{IsRoot, contents}
use Rattle.nr_trienodes.specs.Turns.{left, IsNext}
use Rattle.nr_trienodes.specs.Listing.{kept, AreWhole, keys_in}
use Rattle.nr_trienodes.specs.declared.nodes.NodeId.{NodeId}
use Rattle.nr_trienodes.proofs.Folds.{fold_at, child-map}
use Rattle.nr_trienodes.proofs.Sounds.{back_sound}
use Rattle.nr_trienodes.proofs.Keys.{Along, stripped_is}
use Rattle.nr_trienodes.proofs.Orders.{R, paired-nibbles}
use Rattle.nr_trienodes.proofs.Maps.{paths_are}

abbrev Path : Type 0
Path = List ℕ × List ℕ

-- ---- a front taken off
strip_both : (p a b : List ℕ) → stripped (p ++ a) (p ++ b) ≡ stripped a b
strip_both [] a b = refl
strip_both (x ∷ p) a b = rw (eq-eqb x x refl) (strip_both p a b)

strip_off : (p q : List ℕ) → stripped p (p ++ q) ≡ Some q
strip_off [] q = refl
strip_off (x ∷ p) q = rw (eq-eqb x x refl) (strip_off p q)

strip_more : (k p r q : List ℕ) → stripped k p ≡ Some r → stripped k (p ++ q) ≡ Some (r ++ q)
strip_more k p r q e =
    let is : p ≡ k ++ r = stripped_is k p r e in
    ap (λ (t : List ℕ). stripped k (t ++ q)) is ∙ ap (stripped k) (append_assoc k r q) ∙ strip_off k (r ++ q)

-- ---- which paths are kept
kept_front : (p k : List ℕ) (ps : Paths) → kept (p ++ k) (in_front p ps) ≡ in_front p (kept k ps)
kept_front p k [] = refl
kept_front p k (q ∷ ps) =
    ap (λ b. cond b ((p ++ q.0, q.1) ∷ kept (p ++ k) (in_front p ps)) (kept (p ++ k) (in_front p ps))) (ap is_some (strip_both p k q.0))
    ∙ elim (is_some (stripped k q.0)) as (λ b. cond b ((p ++ q.0, q.1) ∷ kept (p ++ k) (in_front p ps)) (kept (p ++ k) (in_front p ps)) ≡ in_front p (cond b (q ∷ kept k ps) (kept k ps))) [
      | true ↦ ap (λ (t : Paths). (p ++ q.0, q.1) ∷ t) (kept_front p k ps)
      | false ↦ kept_front p k ps
    ]

kept_all : (k p r : List ℕ) (ps : Paths) → stripped k p ≡ Some r → kept k (in_front p ps) ≡ in_front p ps
kept_all k p r [] e = refl
kept_all k p r (q ∷ ps) e =
    let here : is_some (stripped k (p ++ q.0)) ≡ true = ap is_some (strip_more k p r q.0 e) in
    ap (λ b. cond b ((p ++ q.0, q.1) ∷ kept k (in_front p ps)) (kept k (in_front p ps))) here ∙ ap (λ (t : Paths). (p ++ q.0, q.1) ∷ t) (kept_all k p r ps e)

kept_none : (k p : List ℕ) (ps : Paths) → ((q : List ℕ) → stripped k (p ++ q) ≡ None) → kept k (in_front p ps) ≡ []
kept_none k p [] e = refl
kept_none k p (q ∷ ps) e =
    ap (λ b. cond b ((p ++ q.0, q.1) ∷ kept k (in_front p ps)) (kept k (in_front p ps))) (ap is_some (e q.0)) ∙ kept_none k p ps e

kept_own : (x : ℕ) (k : List ℕ) (value : Option (List ℕ)) → kept (x ∷ k) (own_path value) ≡ []
kept_own x k None = refl
kept_own x k (Some v) = refl

-- what is kept of the paths of a child, behind its nibble
abbrev chosen : ℕ → List ℕ → Option Paths → Paths
chosen x k None = []
chosen x k (Some ps) = in_front (x ∷ []) (kept k ps)

kept_other : (x n : ℕ) (k : List ℕ) (ps : Paths) → x ≢ n → kept (x ∷ k) (in_front (n ∷ []) ps) ≡ []
kept_other x n k ps ne = kept_none (x ∷ k) (n ∷ []) ps (λ q. rw (ne_eqb x n ne) refl)

kept_before : (x n : ℕ) (k : List ℕ) (bs : List (Option Paths)) → x < n → kept (x ∷ k) (paths_from n bs) ≡ []
kept_before x n k [] lt = refl
kept_before x n k (None ∷ bs) lt = kept_before x (suc n) k bs (omega arith)
kept_before x n k (Some ps ∷ bs) lt =
    filter-append (λ (p : Path). is_some (stripped (x ∷ k) p.0)) (in_front (n ∷ []) ps) (paths_from (suc n) bs)
    ∙ (λ i. kept_other x n k ps (λ e. omega arith) i ++ kept_before x (suc n) k bs (omega arith) i)

kept_from : (x n y : ℕ) (k : List ℕ) (bs : List (Option Paths)) → x ≡ n + y → kept (x ∷ k) (paths_from n bs) ≡ chosen x k (child bs y)
kept_from x n y k [] e = refl
kept_from x n zero k (None ∷ bs) e = kept_before x (suc n) k bs (omega arith)
kept_from x n zero k (Some ps ∷ bs) e =
    let same : x ≡ n = omega arith in
    filter-append (λ (p : Path). is_some (stripped (x ∷ k) p.0)) (in_front (n ∷ []) ps) (paths_from (suc n) bs)
    ∙ (λ i. kept (x ∷ k) (in_front (sym same i ∷ []) ps) ++ kept_before x (suc n) k bs (omega arith) i)
    ∙ append-nil (kept (x ∷ k) (in_front (x ∷ []) ps))
    ∙ kept_front (x ∷ []) k ps
kept_from x n (suc y) k (None ∷ bs) e = kept_from x (suc n) y k bs (omega arith)
kept_from x n (suc y) k (Some ps ∷ bs) e =
    filter-append (λ (p : Path). is_some (stripped (x ∷ k) p.0)) (in_front (n ∷ []) ps) (paths_from (suc n) bs)
    ∙ (λ i. kept_other x n k ps (λ s. omega arith) i ++ kept_from x (suc n) y k bs (omega arith) i)

-- ---- at a node
abbrev pub below_paths : List Shape → ℕ → List (Option Paths)
below_paths nodes id = map (option_map (paths_at nodes)) (shape_at nodes id).below

pub paths_here : (nodes : List Shape) (id : ℕ) → Sound nodes → id < length nodes → paths_at nodes id ≡ in_front (shape_at nodes id).part (own_path (shape_at nodes id).value ++ paths_from 0 (below_paths nodes id))
paths_here nodes id sound lt = fold_at node_paths [] nodes id (back_sound nodes sound) lt

pub bend_whole : (nodes : List Shape) (id : ℕ) (k part : List ℕ) → Sound nodes → id < length nodes → part ≡ (shape_at nodes id).part → IsSome (stripped k part) → kept k (paths_at nodes id) ≡ paths_at nodes id
bend_whole nodes id k part sound lt e some =
    elim (stripped k part) as (λ o. stripped k part ≡ o → IsSome o → kept k (paths_at nodes id) ≡ paths_at nodes id) [
      | None ↦ λ is h. absurd (false≢true h)
      | Some r ↦ λ is h.
          let here = paths_here nodes id sound lt in
          ap (kept k) here ∙ kept_all k (shape_at nodes id).part r (own_path (shape_at nodes id).value ++ paths_from 0 (below_paths nodes id)) (ap (stripped k) (sym e) ∙ is) ∙ sym here
    ] refl some

pub bend_nowhere : (nodes : List Shape) (id : ℕ) (k part : List ℕ) → Sound nodes → id < length nodes → part ≡ (shape_at nodes id).part → ((q : List ℕ) → stripped k (part ++ q) ≡ None) → kept k (paths_at nodes id) ≡ []
bend_nowhere nodes id k part sound lt e none =
    ap (kept k) (paths_here nodes id sound lt)
    ∙ kept_none k (shape_at nodes id).part (own_path (shape_at nodes id).value ++ paths_from 0 (below_paths nodes id)) (λ q. ap (λ (p : List ℕ). stripped k (p ++ q)) (sym e) ∙ none q)

-- a prefix that ends right behind the part
pub bend_end : (nodes : List Shape) (id : ℕ) (k part : List ℕ) → Sound nodes → id < length nodes → part ≡ (shape_at nodes id).part → stripped part k ≡ Some [] → kept k (paths_at nodes id) ≡ paths_at nodes id
bend_end nodes id k part sound lt e is =
    let same : k ≡ part = stripped_is part k [] is ∙ append-nil part in
    bend_whole nodes id k part sound lt e (ap is_some (ap (λ (t : List ℕ). stripped t part) same ∙ ap (stripped part) (sym (append-nil part)) ∙ strip_off part []))

bend_on : (nodes : List Shape) (id : ℕ) (k part rest : List ℕ) (x : ℕ) (c : Option ℕ) → Sound nodes
    → id < length nodes → part ≡ (shape_at nodes id).part → stripped part k ≡ Some (x ∷ rest)
    → child (shape_at nodes id).below x ≡ c → kept k (paths_at nodes id)
    ≡ in_front (shape_at nodes id).part (chosen x rest (option_map (paths_at nodes) c))
bend_on nodes id k part rest x c sound lt e is down =
    let s : Shape = shape_at nodes id in
    let key : k ≡ s.part ++ (x ∷ rest) = stripped_is part k (x ∷ rest) is ∙ ap (λ (p : List ℕ). p ++ (x ∷ rest)) e in
    let own : Paths = own_path s.value in
    let more : Paths = paths_from 0 (below_paths nodes id) in
    (λ i. kept (key i) (paths_here nodes id sound lt i))
    ∙ kept_front s.part (x ∷ rest) (own ++ more)
    ∙ ap (in_front s.part) (
    filter-append (λ (p : Path). is_some (stripped (x ∷ rest) p.0)) own more
    ∙ (λ i. kept_own x rest s.value i ++ kept_from x 0 x rest (below_paths nodes id) (omega arith) i)
    ∙ ap (chosen x rest) (child-map (paths_at nodes) s.below x ∙ ap (option_map (paths_at nodes)) down))

pub bend_sprout : (nodes : List Shape) (id : ℕ) (k part rest : List ℕ) (x : ℕ) → Sound nodes → id < length nodes → part ≡ (shape_at nodes id).part → stripped part k ≡ Some (x ∷ rest) → child (shape_at nodes id).below x ≡ None → kept k (paths_at nodes id) ≡ []
bend_sprout nodes id k part rest x sound lt e is down = bend_on nodes id k part rest x None sound lt e is down

pub bend_down : (nodes : List Shape) (id : ℕ) (k part rest : List ℕ) (x c : ℕ) → Sound nodes → id < length nodes
    → part ≡ (shape_at nodes id).part → stripped part k ≡ Some (x ∷ rest) → child (shape_at nodes id).below x ≡ Some c
    → kept k (paths_at nodes id) ≡ in_front (shape_at nodes id).part
    (in_front (x ∷ []) (kept rest (paths_at nodes c)))
bend_down nodes id k part rest x c sound lt e is down = bend_on nodes id k part rest x (Some c) sound lt e is down

-- ---- a part against a prefix
pub fit_ends : (part key : List ℕ) (at n place : ℕ) → Along part key at n place → n ≤ length part → left key place ≡ [] → IsSome (stripped (left key at) part)
fit_ends part key at n place a le none =
    let is : left key at ≡ take n part = stripped_is (take n part) (left key at) (left key place) a.front ∙ ap (λ (r : List ℕ). take n part ++ r) none ∙ append-nil (take n part) in
    ap is_some (ap (λ (k : List ℕ). stripped k part) is ∙ ap (stripped (take n part)) (sym (taken n part)) ∙ strip_off (take n part) (drop n part))
  where
    taken : (n : ℕ) (p : List ℕ) → take n p ++ drop n p ≡ p
    taken zero p = refl
    taken (suc n) [] = refl
    taken (suc n) (x ∷ p) = ap (λ (t : List ℕ). x ∷ t) (taken n p)

pub fit_leaves : (part key : List ℕ) (at n place x : ℕ) → Along part key at n place → n < length part → IsNext key place x → x ≢ get_or part n 0 → (q : List ℕ) → stripped (left key at) (part ++ q) ≡ None
fit_leaves part key at n place x a lt next ne q =
    let is : left key at ≡ take n part ++ (x ∷ left key (place + 1)) = stripped_is (take n part) (left key at) (left key place) a.front ∙ ap (λ (r : List ℕ). take n part ++ r) next.is in
    ap (λ (k : List ℕ). stripped k (part ++ q)) is ∙ off n part lt ne
  where
    off : (n : ℕ) (p : List ℕ) → n < length p → x ≢ get_or p n 0 → stripped (take n p ++ (x ∷ left key (place + 1))) (p ++ q) ≡ None
    off n [] l d = absurd (omega arith)
    off zero (y ∷ p) l d = rw (ne_eqb x y d) refl
    off (suc n) (y ∷ p) l d = rw (eq-eqb y y refl) (off n p (omega arith) d)

-- ---- the keys of a map
abbrev begins : List ℕ → List ℕ → Bool
begins key prefix = is_some (stripped prefix key)

starts : (key prefix : List ℕ) → starts_with ◌==◌ key prefix ≡ begins key prefix
starts key [] = refl
starts [] (y ∷ prefix) = refl
starts (x ∷ key) (y ∷ prefix) =
    elim (y == x) as (λ b. (b && starts_with ◌==◌ key prefix) ≡ is_some (cond b (stripped prefix key) None)) [
      | true ↦ starts key prefix
      | false ↦ refl
    ]

-- the two nibbles of a byte tell what the byte tells
halves : (x y : ℕ) → (y / 16 == x / 16) ≡ true → (y % 16 == x % 16) ≡ true → y ≡ x
halves x y a b =
    let high : y / 16 ≡ x / 16 = eqb-true (y / 16) (x / 16) a in
    let low : y % 16 ≡ x % 16 = eqb-true (y % 16) (x % 16) b in
    omega arith

begins_nibbles : (key prefix : List ℕ) → begins (nibbles key) (nibbles prefix) ≡ begins key prefix
begins_nibbles key [] = refl
begins_nibbles [] (y ∷ prefix) = refl
begins_nibbles (x ∷ key) (y ∷ prefix) = by_byte (y == x) refl (begins_nibbles key prefix)
  where
    by_byte : (b : Bool) → (y == x) ≡ b → begins (nibbles key) (nibbles prefix) ≡ begins key prefix → is_some (cond (y / 16 == x / 16) (cond (y % 16 == x % 16) (stripped (nibbles prefix) (nibbles key)) None) None) ≡ is_some (cond (y == x) (stripped prefix key) None)
    by_byte true e more =
        let same : y ≡ x = eqb-true y x e in
        rw (e, eq-eqb (y / 16) (x / 16) (ap (λ n. n / 16) same), eq-eqb (y % 16) (x % 16) (ap (λ n. n % 16) same)) more
    by_byte false e more = rw e (
        elim (y / 16 == x / 16) as (λ b. (y / 16 == x / 16) ≡ b → is_some (cond b (cond (y % 16 == x % 16) (stripped (nibbles prefix) (nibbles key)) None) None) ≡ false) [
          | false ↦ λ h. refl
          | true ↦ λ h. elim (y % 16 == x % 16) as (λ b. (y % 16 == x % 16) ≡ b → is_some (cond b (stripped (nibbles prefix) (nibbles key)) None) ≡ false) [
            | false ↦ λ l. refl
            | true ↦ λ l. absurd (eqb-false y x e (halves x y h l))
          ] refl
        ] refl)

abbrev Entries : Type 0
Entries = List (List ℕ × List ℕ)

listed : (prefix : List ℕ) (es : Entries) → keys_in (kept (nibbles prefix) (paths es)) ≡ filter (λ key. starts_with ◌==◌ key prefix) (map (λ (e : Path). e.0) es)
listed prefix [] = refl
listed prefix (e ∷ es) =
    let test : is_some (stripped (nibbles prefix) (nibbles e.0)) ≡ starts_with ◌==◌ e.0 prefix = begins_nibbles e.0 prefix ∙ sym (starts e.0 prefix) in
    ap (λ b. keys_in (cond b ((nibbles e.0, e.1) ∷ kept (nibbles prefix) (paths es)) (kept (nibbles prefix) (paths es)))) test
    ∙ elim (starts_with ◌==◌ e.0 prefix) as (λ b. keys_in (cond b ((nibbles e.0, e.1) ∷ kept (nibbles prefix) (paths es)) (kept (nibbles prefix) (paths es))) ≡ cond b (e.0 ∷ filter (λ key. starts_with ◌==◌ key prefix) (map (λ (e : Path). e.0) es)) (filter (λ key. starts_with ◌==◌ key prefix) (map (λ (e : Path). e.0) es))) [
      | true ↦ (λ i. paired-nibbles e.0 i ∷ listed prefix es i)
      | false ↦ listed prefix es
    ]

pub keys_are : (nodes : List Shape) (id : NodeId) (prefix : List ℕ) → Sound nodes → IsRoot nodes (Some id) → keys_in (kept (nibbles prefix) (paths_at nodes id.0)) ≡ keys_below prefix (contents nodes (Some id))
keys_are nodes id prefix sound root =
    ap (λ (ps : Paths). keys_in (kept (nibbles prefix) ps)) (sym (paths_are nodes id sound root)) ∙ listed prefix (entries (contents nodes (Some id)))

pub keys_none : (nodes : List Shape) (prefix : List ℕ) → [] ≡ keys_below prefix (contents nodes None)
unfolding contents
keys_none nodes prefix =
    ap (λ (es : Entries). filter (λ key. starts_with ◌==◌ key prefix) (map (λ (e : Path). e.0) es)) (sym (nil_from_length (entries (empty {X = List ℕ} {R = R})) (sym (len-entries (empty {X = List ℕ} {R = R})) ∙ len-empty R (List ℕ))))

-- ---- all keys are whole
whole_paths : (es : Entries) → AreWhole (paths es)
whole_paths [] = tt
whole_paths (e ∷ es) = ((e.0, refl), whole_paths es)

whole_kept : (k : List ℕ) (ps : Paths) → AreWhole ps → AreWhole (kept k ps)
whole_kept k [] h = tt
whole_kept k (p ∷ ps) h =
    elim (is_some (stripped k p.0)) as (λ b. AreWhole (cond b (p ∷ kept k ps) (kept k ps))) [
      | true ↦ (h.0, whole_kept k ps h.1)
      | false ↦ whole_kept k ps h.1
    ]

pub whole_keys : (nodes : List Shape) (id : NodeId) (k : List ℕ) → Sound nodes → IsRoot nodes (Some id) → AreWhole (kept k (paths_at nodes id.0))
whole_keys nodes id k sound root = whole_kept k (paths_at nodes id.0) (subst AreWhole (paths_are nodes id sound root) (whole_paths (entries (contents nodes (Some id)))))
