-- The top node of the trie of some paths, and what stands below it: its nodes, keys, places and value.
use Rattle.std.proofs.Common.{◌≡◌, ◌<◌, ◌≤◌, ◌+◌, ℕ, zero, suc, false, cond, List, [], ◌∷◌, ◌++◌, length, map, Option, Some, None, refl, sym, ap, subst, ◌∙◌, arith, length-drop}
use Rattle.std.specs.Prelude.{is_some, count_by}
use Rattle.std.specs.List.{AllByRecursion, flat_map}
use Rattle.std.proofs.lemmas.List.{append-nil}
use Rattle.std.proofs.lemmas.List.Sums.{sum_by-cons}
use Rattle.nr_bytes.proofs.Basics.{all_both}
use Rattle.nr_ids.specs.declared.key.Hash32.{Hash32}
use Rattle.nr_triedef.specs.Node.{IsNode, IsNibbles, digest, node_text, summary}
use Rattle.nr_triedef.specs.Root.{Paths, front, behind, under, value_here, hash_below, leaf, branch, sixteen, depth}
use Rattle.nr_triedef.specs.declared.hash.Summary.{Summary}
use Rattle.nr_triedef.specs.declared.node.Node.{Node}
use Rattle.nr_store.specs.Tries.{CanWalk, cut, whole}
use Rattle.nr_store.proofs.Levels.{whole_none}
use Rattle.nr_store.proofs.Links.{Begins, AllBegin, front_begins, all_under}
use Rattle.nr_store.proofs.Orders.{walk_cut, walk_under, front_small, behind_none}
use Rattle.nr_trielist.specs.Growing.{head_nodes, all_nodes}
use Rattle.nr_trielist.proofs.Branches.{all_none, all_one, all_several}
use Rattle.nr_walk.specs.declared.searched.Searched.{Searched}
use Rattle.nr_walk.specs.declared.told.Spot.{Spot}
use Rattle.nr_walk.specs.Told.{spot, spot_at, spots_of}
use Rattle.nr_walk.specs.Tries.{children, branch_of, top_over, top_of}
use Rattle.nr_walk.specs.Shown.{placed}
use Rattle.nr_walk.proofs.Pairs.{part_back}
use Rattle.nr_walk.proofs.Placing.{placed_placed, placed-append, placed_cut}
use Rattle.nr_walk.proofs.Rows.{Path, rows, own_value, rows_all}
use Rattle.nr_walk.proofs.Tops.{whole_is, top_node, many_cut, front_cut, top_parted, top_shared, top_leaf}
use Rattle.nr_gather.specs.Gathered.{found_text, own_text, tries_behind, tries_below}
use Rattle.nr_gather.specs.Sweeping.{count_of, value_text, paths_behind}

-- a place, and the paths of the trie there
abbrev pub Trie : Type 0
Trie = List ℕ × Paths

abbrev pub nodes_all : List Trie → List Node
nodes_all ts = flat_map (λ (t : Trie). all_nodes t.1) ts

abbrev pub keys_all : List Trie → Paths
keys_all ts = flat_map (λ (t : Trie). placed t.0 t.1) ts

-- the spot of a trie that has a node
abbrev pub spot_there : List ℕ → Paths → List Spot
spot_there place [] = []
spot_there place (p ∷ ps) = spot place (digest (node_text (top_of (p ∷ ps)))) ∷ []

abbrev pub spots_all : List Trie → List Spot
spots_all ts = flat_map (λ (t : Trie). spot_there t.0 t.1) ts

abbrev pub there : Paths → ℕ
there [] = 0
there (p ∷ ps) = 1

-- how many have a node
abbrev pub count_there : List Trie → ℕ
count_there [] = 0
count_there (t ∷ ts) = there t.1 + count_there ts

-- the values of these paths, where their keys are searched
abbrev pub found_all : List Searched → Paths → List (List ℕ)
found_all searched ps = flat_map (λ (p : Path). found_text searched p.0 (Some p.1)) ps

-- the first node of the trie at a place, and the tries below it
pub record IsLevel (place : List ℕ) (ps : Paths) (node : Node) (ts : List Trie) : Type 0 where
  pub own : Paths
  pub nodes : all_nodes ps ≡ node ∷ nodes_all ts
  pub keys : placed place ps ≡ own ++ keys_all ts
  pub spots : spots_of place node ≡ spots_all ts
  pub count : count_of node ≡ count_there ts
  pub texts : (searched : List Searched) → own_text searched place ps ≡ found_all searched own
  pub value : (searched : List Searched) (es : Paths) → value_text searched node (own ++ es) ≡ own_text searched place ps
  pub rest : (es : Paths) → paths_behind node (own ++ es) ≡ es

-- ---- a leaf
level_leaf : (place : List ℕ) (p : Path) → IsLevel place (p ∷ []) (leaf p) []
level_leaf place p =
    record { own = (place ++ p.0, p.1) ∷ []; nodes = all_one (p ∷ []) refl; keys = refl; spots = refl; count = refl; texts = λ searched. sym (append-nil (found_text searched (place ++ p.0) (Some p.1))); value = λ searched es. refl; rest = λ es. refl }

-- ---- a branch
abbrev pub tries_at : List ℕ → Paths → List ℕ → List Trie
tries_at place ps ns = map (λ n. (place ++ n ∷ [], under n ps)) ns

nodes_branch : (ps : Paths) → 2 ≤ length ps → CanWalk ps → front ps ≡ [] → cut ps ≡ ps → all_nodes ps ≡ branch_of ps ∷ flat_map (λ n. all_nodes (under n ps)) sixteen
nodes_branch ps many walk e c =
    all_several ps many walk ∙ (λ i. head_nodes (e i) (branch_of (c i)) ++ flat_map (λ n. all_nodes (under n (c i))) sixteen)

-- so many numbers, from one on
abbrev pub from : ℕ → ℕ → List ℕ
from n zero = []
from n (suc c) = n ∷ from (suc n) c

keys_rows : (place : List ℕ) (ps : Paths) (n c : ℕ) → placed place (rows n c ps) ≡ keys_all (tries_at place ps (from n c))
keys_rows place ps n zero = refl
keys_rows place ps n (suc c) =
    placed-append place (placed (n ∷ []) (under n ps)) (rows (suc n) c ps)
    ∙ (λ i. placed_placed place (n ∷ []) (under n ps) i ++ keys_rows place ps (suc n) c i)

spot_one : (place : List ℕ) (n : ℕ) (qs : Paths) → CanWalk qs → spot_at place n (hash_below (whole qs)) ≡ spot_there (place ++ n ∷ []) qs
spot_one place n [] h = ap (λ (o : Option Summary). spot_at place n (hash_below o)) (whole_none [] refl)
spot_one place n (p ∷ qs) h = ap (λ (o : Option Summary). spot_at place n (hash_below o)) (whole_is (p ∷ qs) (omega arith) h)

spots_branch : (place : List ℕ) (ps : Paths) → CanWalk ps → spots_of place (branch_of ps) ≡ spots_all (tries_at place ps sixteen)
spots_branch place ps h = λ i. flat_map (λ n. spot_one place n (under n ps) (walk_under n ps h) i) sixteen

count_one : (qs : Paths) → CanWalk qs → cond (is_some (hash_below (whole qs))) 1 0 ≡ there qs
count_one [] h = ap (λ (o : Option Summary). cond {A = ℕ} (is_some (hash_below o)) 1 0) (whole_none [] refl)
count_one (p ∷ qs) h = ap (λ (o : Option Summary). cond {A = ℕ} (is_some (hash_below o)) 1 0) (whole_is (p ∷ qs) (omega arith) h)

count_all : (place : List ℕ) (ps : Paths) (ns : List ℕ) → CanWalk ps → count_by is_some (map hash_below (map (λ n. whole (under n ps)) ns)) ≡ count_there (tries_at place ps ns)
count_all place ps [] h = refl
count_all place ps (n ∷ ns) h =
    omega (
      arith,
      sum_by-cons (λ (o : Option Hash32). cond (is_some o) 1 0) (hash_below (whole (under n ps))) (map hash_below (map (λ n. whole (under n ps)) ns)),
      count_one (under n ps) (walk_under n ps h),
      count_all place ps ns h,
    )

value_branch : (searched : List Searched) (place : List ℕ) (value : Option (List ℕ)) (below : List (Option Summary)) (es : Paths) → value_text searched (branch value below) (placed place (own_value value) ++ es) ≡ found_text searched place value
value_branch searched place None below es = refl
value_branch searched place (Some v) below es = ap (λ (k : List ℕ). found_text searched k (Some v)) (append-nil place)

texts_branch : (searched : List Searched) (place : List ℕ) (value : Option (List ℕ)) → found_text searched place value ≡ found_all searched (placed place (own_value value))
texts_branch searched place None = refl
texts_branch searched place (Some v) = ap (λ (k : List ℕ). found_text searched k (Some v)) (sym (append-nil place)) ∙ sym (append-nil (found_text searched (place ++ []) (Some v)))

rest_branch : (place : List ℕ) (value : Option (List ℕ)) (below : List (Option Summary)) (es : Paths) → paths_behind (branch value below) (placed place (own_value value) ++ es) ≡ es
rest_branch place None below es = refl
rest_branch place (Some v) below es = refl

own_several : (searched : List Searched) (place : List ℕ) (ps : Paths) → 2 ≤ length ps → own_text searched place ps ≡ found_text searched place (value_here ps)
own_several searched place [] many = absurd (omega arith)
own_several searched place (p ∷ []) many = absurd (omega arith)
own_several searched place (p ∷ q ∷ ps) many = refl

level_branch : (place : List ℕ) (ps : Paths) → 2 ≤ length ps → CanWalk ps → front ps ≡ [] → IsLevel place ps (branch_of ps) (tries_behind place [] ps)
level_branch place ps many walk e =
    let c : cut ps ≡ ps = ap (λ (s : List ℕ). behind (length s) ps) e ∙ behind_none ps in
    record {
      own = placed place (own_value (value_here ps));
      nodes = nodes_branch ps many walk e c;
      keys = ap (placed place) (sym (rows_all ps walk)) ∙ placed-append place (own_value (value_here ps)) (rows 0 16 ps) ∙ ap (λ (qs : Paths). placed place (own_value (value_here ps)) ++ qs) (keys_rows place ps 0 16);
      spots = spots_branch place ps walk;
      count = count_all place ps sixteen walk;
      texts = λ searched. own_several searched place ps many ∙ texts_branch searched place (value_here ps);
      value = λ searched es. value_branch searched place (value_here ps) (children ps) es ∙ sym (own_several searched place ps many);
      rest = λ es. rest_branch place (value_here ps) (children ps) es;
    }

-- ---- an extension
none_here : (x : ℕ) (xs : List ℕ) (ps : Paths) → AllBegin (x ∷ xs) ps → value_here ps ≡ None
none_here x xs [] h = refl
none_here x xs (([], v) ∷ ps) h = absurd h.0
none_here x xs ((y ∷ k, v) ∷ ps) h = none_here x xs ps h.1

spot_some : (place : List ℕ) (qs : Paths) → 1 ≤ length qs → spot_there place qs ≡ spot place (digest (node_text (top_of qs))) ∷ []
spot_some place [] some = absurd (omega arith)
spot_some place (q ∷ qs) some = refl

there_some : (qs : Paths) → 1 ≤ length qs → there qs ≡ 1
there_some [] some = absurd (omega arith)
there_some (q ∷ qs) some = refl

level_over : (place : List ℕ) (ps : Paths) (x : ℕ) (xs : List ℕ) → 2 ≤ length ps → CanWalk ps → front ps ≡ x ∷ xs → IsLevel place ps (top_over (x ∷ xs) (cut ps)) (tries_behind place (x ∷ xs) ps)
level_over place ps x xs many walk e =
    let rest = cut ps in
    let long = many_cut ps many in
    let parted : front rest ≡ [] = front_cut ps (omega arith) in
    let order = walk_cut ps walk in
    let below = level_branch (place ++ x ∷ xs) rest long order parted in
    let over = top_over (x ∷ xs) rest in
    let small : IsNibbles (x ∷ xs) = subst IsNibbles e (front_small ps walk) in
    let part = part_back false (x ∷ xs) small in
    let s = summary (branch_of rest) in
    let nothing = none_here x xs ps (subst (λ (f : List ℕ). AllBegin f ps) e (front_begins ps)) in
    let no_text : (searched : List Searched) → own_text searched place ps ≡ [] = λ searched. own_several searched place ps many ∙ ap (found_text searched place) nothing in
    record {
      own = [];
      nodes =
          all_several ps many walk
          ∙ ap (λ (f : List ℕ). head_nodes f (branch_of rest) ++ flat_map (λ n. all_nodes (under n rest)) sixteen) e
          ∙ ap (λ (l : List Node). over ∷ l) (sym below.nodes ∙ sym (append-nil (all_nodes rest)));
      keys = placed_cut place ps ∙ ap (λ (f : List ℕ). placed (place ++ f) rest) e ∙ sym (append-nil (placed (place ++ x ∷ xs) rest));
      spots =
          ap (λ (k : List ℕ). spot (place ++ k) s.hash ∷ []) part
          ∙ ap (λ (n : Node). spot (place ++ x ∷ xs) (digest (node_text n)) ∷ []) (sym (top_parted rest long parted))
          ∙ sym (append-nil (spot_there (place ++ x ∷ xs) rest) ∙ spot_some (place ++ x ∷ xs) rest (omega arith));
      count = omega (arith, there_some rest (omega arith));
      texts = no_text;
      value = λ searched es. sym (no_text searched);
      rest = λ es. refl;
    }

-- ---- each of them
level_several : (place : List ℕ) (ps : Paths) (shared : List ℕ) → 2 ≤ length ps → CanWalk ps → front ps ≡ shared → IsLevel place ps (top_of ps) (tries_behind place shared ps)
level_several place ps [] many walk e = subst (λ (n : Node). IsLevel place ps n (tries_behind place [] ps)) (sym (top_parted ps many e)) (level_branch place ps many walk e)
level_several place ps (x ∷ xs) many walk e = subst (λ (n : Node). IsLevel place ps n (tries_behind place (x ∷ xs) ps)) (sym (top_shared ps x xs many e)) (level_over place ps x xs many walk e)

pub level : (place : List ℕ) (ps : Paths) → 1 ≤ length ps → CanWalk ps → IsLevel place ps (top_of ps) (tries_below place ps)
level place [] some walk = absurd (omega arith)
level place (p ∷ []) some walk = subst (λ (n : Node). IsLevel place (p ∷ []) n []) (sym (top_leaf p)) (level_leaf place p)
level place (p ∷ q ∷ ps) some walk = level_several place (p ∷ q ∷ ps) (front (p ∷ q ∷ ps)) (omega arith) walk refl

-- ---- paths with fewer nibbles than the depth
abbrev pub IsShort : ℕ → Paths → Type 0
IsShort d ps = AllByRecursion (λ (p : Path). length p.0 < d) ps

pub record IsSmall (d : ℕ) (t : Trie) : Type 0 where
  pub short : IsShort d t.1
  pub order : CanWalk t.1

longer : (s k : List ℕ) → Begins s k → length s ≤ length k
longer [] k h = omega arith
longer (x ∷ s) [] h = absurd h
longer (x ∷ s) (y ∷ k) h = let r = longer s k h.1 in omega arith

short_behind : (d : ℕ) (s : List ℕ) (ps : Paths) → 1 ≤ length s → AllBegin s ps → IsShort (suc d) ps → IsShort d (behind (length s) ps)
short_behind d s [] some h short = tt
short_behind d s (p ∷ ps) some h short = (omega (arith, short.0, longer s p.0 h.0, length-drop (length s) p.0), short_behind d s ps some h.1 short.1)

pub short_under : (d n : ℕ) (ps : Paths) → IsShort (suc d) ps → IsShort d (under n ps)
short_under d n ps short = all_under n (λ k. length k < suc d) (λ k. length k < d) (λ k lt. omega (arith, lt)) ps short

small_each : (d : ℕ) (place : List ℕ) (ps : Paths) (ns : List ℕ) → IsShort (suc d) ps → CanWalk ps → AllByRecursion (IsSmall d) (tries_at place ps ns)
small_each d place ps [] short walk = tt
small_each d place ps (n ∷ ns) short walk = (record { short = short_under d n ps short; order = walk_under n ps walk }, small_each d place ps ns short walk)

pub short_cut : (d : ℕ) (ps : Paths) → 1 ≤ length (front ps) → IsShort (suc d) ps → IsShort d (cut ps)
short_cut d ps some short = short_behind d (front ps) ps some (front_begins ps) short

small_behind : (d : ℕ) (place : List ℕ) (ps : Paths) (shared : List ℕ) → front ps ≡ shared → IsShort (suc d) ps → CanWalk ps → AllByRecursion (IsSmall d) (tries_behind place shared ps)
small_behind d place ps [] e short walk = small_each d place ps sixteen short walk
small_behind d place ps (x ∷ xs) e short walk = (record { short = short_cut d ps (subst (λ (f : List ℕ). 1 ≤ length f) (sym e) (omega arith)) short; order = walk_cut ps walk }, tt)

pub small_below : (d : ℕ) (place : List ℕ) (ps : Paths) → IsShort (suc d) ps → CanWalk ps → AllByRecursion (IsSmall d) (tries_below place ps)
small_below d place [] short walk = tt
small_below d place (p ∷ []) short walk = tt
small_below d place (p ∷ q ∷ ps) short walk = small_behind d place (p ∷ q ∷ ps) (front (p ∷ q ∷ ps)) refl short walk

short_all : (ps : Paths) (n : ℕ) → depth ps ≤ n → IsShort n ps
short_all [] n h = tt
short_all (p ∷ ps) n h = (omega (arith, h), short_all ps n (omega (arith, h)))

pub short_depth : (ps : Paths) → IsShort (depth ps) ps
short_depth ps = short_all ps (depth ps) (omega arith)

-- ---- all nodes have texts
form_all : (d : ℕ) (ts : List Trie) → ((t : Trie) → IsSmall d t → AllByRecursion IsNode (all_nodes t.1)) → AllByRecursion (IsSmall d) ts → AllByRecursion IsNode (nodes_all ts)
form_all d [] each small = tt
form_all d (t ∷ ts) each small = all_both IsNode (all_nodes t.1) (nodes_all ts) (each t small.0) (form_all d ts each small.1)

pub form_at : (d : ℕ) (ps : Paths) → IsShort d ps → CanWalk ps → AllByRecursion IsNode (all_nodes ps)
form_at d [] short walk = subst (AllByRecursion IsNode) (sym (all_none [] refl)) tt
form_at zero (p ∷ ps) short walk = absurd (omega (arith, short.0))
form_at (suc d) (p ∷ ps) short walk =
    let ts = tries_below [] (p ∷ ps) in
    let below = form_all d ts (λ t s. form_at d t.1 s.short s.order) (small_below d [] (p ∷ ps) short walk) in
    subst (AllByRecursion IsNode) (sym (level [] (p ∷ ps) (omega arith) walk).nodes) (top_node (p ∷ ps) (omega arith) walk, below)
