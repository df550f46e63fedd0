-- Going over all nodes of a trie gives the texts that are looked at.
use Rattle.std.proofs.Common.{◌≡◌, ◌≤◌, ◌+◌, ℕ, zero, suc, Bool, true, false, cond, List, [], ◌∷◌, ◌++◌, length, refl, sym, ap, ◌∙◌, arith, append_assoc}
use Rattle.std.specs.List.{AllByRecursion, flat_map}
use Rattle.std.proofs.lemmas.List.{append-nil}
use Rattle.nr_ids.specs.declared.key.Hash32.{Hash32}
use Rattle.nr_triedef.specs.Node.{digest, node_text}
use Rattle.nr_triedef.specs.Root.{Paths, depth}
use Rattle.nr_triedef.specs.declared.node.Node.{Node}
use Rattle.nr_store.specs.Tries.{CanWalk}
use Rattle.nr_trielist.specs.Growing.{all_nodes}
use Rattle.nr_trielist.proofs.Branches.{all_none}
use Rattle.nr_walk.specs.declared.searched.Searched.{Searched}
use Rattle.nr_walk.specs.declared.told.Spot.{Spot}
use Rattle.nr_walk.specs.Searched.{looks}
use Rattle.nr_walk.specs.Told.{spot}
use Rattle.nr_walk.specs.Tries.{top_of}
use Rattle.nr_walk.specs.Shown.{placed}
use Rattle.nr_walk.proofs.Placing.{placed_none}
use Rattle.nr_gather.specs.Gathered.{own_text, tries_below, looked_texts}
use Rattle.nr_gather.specs.Sweeping.{swept}
use Rattle.nr_gather.proofs.Levels.{Trie, nodes_all, keys_all, spots_all, count_there, IsLevel, level, IsSmall, small_below, short_depth}

-- ---- tries that are passed by
abbrev Passes : List Searched → ℕ → Trie → Type 0
Passes searched d t =
    (n k : ℕ) (spots : List Spot) (more : List Node) (es : Paths) → n ≡ suc k → swept searched n spots (all_nodes t.1 ++ more) (placed t.0 t.1 ++ es) ≡ swept searched k spots more es

passes_all : (searched : List Searched) (d : ℕ) (ts : List Trie) → ((t : Trie) → IsSmall d t → 1 ≤ length t.1 → Passes searched d t) → AllByRecursion (IsSmall d) ts
    → (n k : ℕ) (spots : List Spot) (more : List Node) (es : Paths) → n ≡ k + count_there ts → swept searched n spots (nodes_all ts ++ more) (keys_all ts ++ es) ≡ swept searched k spots more es
passes_all searched d [] each small n k spots more es e = ap (λ (m : ℕ). swept searched m spots more es) (omega (arith, e))
passes_all searched d ((place, []) ∷ ts) each small n k spots more es e =
    ap (λ (l : List Node). swept searched n spots ((l ++ nodes_all ts) ++ more) (keys_all ts ++ es)) (all_none [] refl)
    ∙ passes_all searched d ts each small.1 n k spots more es (omega (arith, e))
passes_all searched d ((place, p ∷ ps) ∷ ts) each small n k spots more es e =
    let first = all_nodes (p ∷ ps) in
    let keys = placed place (p ∷ ps) in
    (λ i. swept searched n spots (append_assoc first (nodes_all ts) more i) (append_assoc keys (keys_all ts) es i))
    ∙ each (place, p ∷ ps) small.0 (omega arith) n (k + count_there ts) spots (nodes_all ts ++ more) (keys_all ts ++ es) (omega (arith, e))
    ∙ passes_all searched d ts each small.1 (k + count_there ts) k spots more es refl

-- the first node is passed by, and then those below it
passed_first : (searched : List Searched) (place : List ℕ) (ps : Paths) (node : Node) (ts : List Trie) (k : ℕ) (spots : List Spot) (more : List Node) (es : Paths) → IsLevel place ps node ts
    → swept searched (suc k) spots (all_nodes ps ++ more) (placed place ps ++ es) ≡ swept searched (k + count_there ts) spots (nodes_all ts ++ more) (keys_all ts ++ es)
passed_first searched place ps node ts k spots more es l =
    let keys : placed place ps ++ es ≡ l.own ++ (keys_all ts ++ es) = ap (λ (qs : Paths). qs ++ es) l.keys ∙ append_assoc l.own (keys_all ts) es in
    (λ i. swept searched (suc k) spots (l.nodes i ++ more) (keys i))
    ∙ (λ i. swept searched (k + l.count i) spots (nodes_all ts ++ more) (l.rest (keys_all ts ++ es) i))

passes : (searched : List Searched) (d : ℕ) (t : Trie) → IsSmall d t → 1 ≤ length t.1 → Passes searched d t
passes searched d (place, []) small some n k spots more es e = absurd (omega arith)
passes searched zero (place, p ∷ ps) small some n k spots more es e = absurd (omega (arith, small.short.0))
passes searched (suc d) (place, p ∷ ps) small some n k spots more es e =
    let all = p ∷ ps in
    let ts = tries_below place all in
    ap (λ (m : ℕ). swept searched m spots (all_nodes all ++ more) (placed place all ++ es)) e
    ∙ passed_first searched place all (top_of all) ts k spots more es (level place all some small.order)
    ∙ passes_all searched d ts (passes searched d) (small_below d place all small.short small.order) (k + count_there ts) k spots more es refl

-- ---- tries that are looked at
abbrev Shows : List Searched → ℕ → Trie → Type 0
Shows searched d t =
    (hash : Hash32) (spots : List Spot) (more : List Node) (es : Paths) → swept searched 0 (spot t.0 hash ∷ spots) (all_nodes t.1 ++ more) (placed t.0 t.1 ++ es) ≡ looked_texts d searched t.0 t.1 ++ swept searched 0 spots more es

abbrev pub looked_all : ℕ → List Searched → List Trie → List (List ℕ)
looked_all d searched ts = flat_map (λ (t : Trie). looked_texts d searched t.0 t.1) ts

looked_none : (d : ℕ) (searched : List Searched) (place : List ℕ) → looked_texts d searched place [] ≡ []
unfolding looked_texts
looked_none d searched place = refl

pub looked_some : (d : ℕ) (searched : List Searched) (place : List ℕ) (ps : Paths) → 1 ≤ length ps
    → looked_texts (suc d) searched place ps ≡ node_text (top_of ps) ∷ cond (looks searched place) (own_text searched place ps ++ looked_all d searched (tries_below place ps)) []
unfolding looked_texts
looked_some d searched place [] some = absurd (omega arith)
looked_some d searched place (p ∷ ps) some = refl

shows_all : (searched : List Searched) (d : ℕ) (ts : List Trie) → ((t : Trie) → IsSmall d t → 1 ≤ length t.1 → Shows searched d t) → AllByRecursion (IsSmall d) ts
    → (spots : List Spot) (more : List Node) (es : Paths) → swept searched 0 (spots_all ts ++ spots) (nodes_all ts ++ more) (keys_all ts ++ es) ≡ looked_all d searched ts ++ swept searched 0 spots more es
shows_all searched d [] each small spots more es = refl
shows_all searched d ((place, []) ∷ ts) each small spots more es =
    ap (λ (l : List Node). swept searched 0 (spots_all ts ++ spots) ((l ++ nodes_all ts) ++ more) (keys_all ts ++ es)) (all_none [] refl)
    ∙ shows_all searched d ts each small.1 spots more es
    ∙ ap (λ (l : List (List ℕ)). (l ++ looked_all d searched ts) ++ swept searched 0 spots more es) (sym (looked_none d searched place))
shows_all searched d ((place, p ∷ ps) ∷ ts) each small spots more es =
    let all = p ∷ ps in
    let here = looked_texts d searched place all in
    let hash = digest (node_text (top_of all)) in
    (λ i. swept searched 0 (spot place hash ∷ (spots_all ts ++ spots)) (append_assoc (all_nodes all) (nodes_all ts) more i) (append_assoc (placed place all) (keys_all ts) es i))
    ∙ each (place, all) small.0 (omega arith) hash (spots_all ts ++ spots) (nodes_all ts ++ more) (keys_all ts ++ es)
    ∙ ap (λ (l : List (List ℕ)). here ++ l) (shows_all searched d ts each small.1 spots more es)
    ∙ sym (append_assoc here (looked_all d searched ts) (swept searched 0 spots more es))

-- the first node is looked at
looked_first : (searched : List Searched) (place : List ℕ) (ps : Paths) (node : Node) (ts : List Trie) (hash : Hash32) (spots : List Spot) (more : List Node) (es : Paths) → IsLevel place ps node ts
    → swept searched 0 (spot place hash ∷ spots) (all_nodes ps ++ more) (placed place ps ++ es)
    ≡ node_text node ∷ cond (looks searched place) (own_text searched place ps ++ swept searched 0 (spots_all ts ++ spots) (nodes_all ts ++ more) (keys_all ts ++ es)) (swept searched (count_there ts) spots (nodes_all ts ++ more) (keys_all ts ++ es))
looked_first searched place ps node ts hash spots more es l =
    let nodes = nodes_all ts ++ more in
    let later = keys_all ts ++ es in
    let keys : placed place ps ++ es ≡ l.own ++ later = ap (λ (qs : Paths). qs ++ es) l.keys ∙ append_assoc l.own (keys_all ts) es in
    (λ i. swept searched 0 (spot place hash ∷ spots) (l.nodes i ++ more) (keys i))
    ∙ (λ i. node_text node ∷ cond (looks searched place) (l.value searched later i ++ swept searched 0 (l.spots i ++ spots) nodes (l.rest later i)) (swept searched (l.count i) spots nodes (l.rest later i)))

either : (b : Bool) (text : List ℕ) (own looked rest a c : List (List ℕ)) → a ≡ looked ++ rest → c ≡ rest → text ∷ cond b (own ++ a) c ≡ (text ∷ cond b (own ++ looked) []) ++ rest
either true text own looked rest a c e f = ap (λ (l : List (List ℕ)). text ∷ (own ++ l)) e ∙ ap (λ (l : List (List ℕ)). text ∷ l) (sym (append_assoc own looked rest))
either false text own looked rest a c e f = ap (λ (l : List (List ℕ)). text ∷ l) f

shows : (searched : List Searched) (d : ℕ) (t : Trie) → IsSmall d t → 1 ≤ length t.1 → Shows searched d t
shows searched d (place, []) small some hash spots more es = absurd (omega arith)
shows searched zero (place, p ∷ ps) small some hash spots more es = absurd (omega (arith, small.short.0))
shows searched (suc d) (place, p ∷ ps) small some hash spots more es =
    let all = p ∷ ps in
    let ts = tries_below place all in
    let below = small_below d place all small.short small.order in
    let rest = swept searched 0 spots more es in
    looked_first searched place all (top_of all) ts hash spots more es (level place all some small.order)
    ∙ either (looks searched place) (node_text (top_of all)) (own_text searched place all) (looked_all d searched ts) rest _ _ (shows_all searched d ts (shows searched d) below spots more es)
    (passes_all searched d ts (passes searched d) below (count_there ts) 0 spots more es (omega arith))
    ∙ ap (λ (l : List (List ℕ)). l ++ rest) (sym (looked_some d searched place all some))

-- from the root on
pub sweep_all : (searched : List Searched) (ps : Paths) (top : Spot) → top.place ≡ [] → CanWalk ps → 1 ≤ length ps → swept searched 0 (top ∷ []) (all_nodes ps) ps ≡ looked_texts (depth ps) searched [] ps
sweep_all searched ps top e walk some =
    let small : IsSmall (depth ps) ([], ps) = record { short = short_depth ps; order = walk } in
    let first : top ≡ spot [] top.hash = λ i. spot (e i) top.hash in
    let keys : ps ≡ placed [] ps ++ [] = sym (append-nil (placed [] ps) ∙ placed_none ps) in
    let nodes : all_nodes ps ≡ all_nodes ps ++ [] = sym (append-nil (all_nodes ps)) in
    (λ i. swept searched 0 (first i ∷ []) (nodes i) (keys i))
    ∙ shows searched (depth ps) ([], ps) small some top.hash [] [] []
    ∙ append-nil (looked_texts (depth ps) searched [] ps)
