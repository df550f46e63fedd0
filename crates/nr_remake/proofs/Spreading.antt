-- The trie of marks is that of the paths for which they stand.
use Rattle.std.proofs.Common.{◌≡◌, ◌==◌, ◌<◌, ◌≤◌, ◌+◌, ℕ, zero, suc, true, false, cond, List, [], ◌∷◌, ◌++◌, length, map, drop, Option, Some, None, refl, sym, ap, subst, ◌∙◌, arith, length-append, length-drop, eq-eqb}
use Rattle.std.specs.Prelude.{sum_by}
use Rattle.std.specs.List.{AllByRecursion}
use Rattle.std.proofs.lemmas.Bool.{eqb-true, eqb-false}
use Rattle.std.proofs.lemmas.List.{append-nil}
use Rattle.nr_ids.specs.declared.key.Hash32.{Hash32}
use Rattle.nr_triedef.specs.Node.{summary, digest}
use Rattle.nr_triedef.specs.Root.{Paths, common, front, behind, value_here, under, branch, value_field, value_usage, hash_below, usage_below, with_front, sixteen}
use Rattle.nr_triedef.specs.declared.hash.Summary.{Summary}
use Rattle.nr_triedef.specs.declared.node.Node.{Node}
use Rattle.nr_triedef.specs.declared.node.Node.TheVariants.{Branch}
use Rattle.nr_store.specs.Tries.{CanWalk, cut, whole}
use Rattle.nr_store.proofs.Levels.{whole_none, whole_one, whole_several}
use Rattle.nr_store.proofs.Links.{Begins as Starts, AllBegin, all_behind, all_under, front_begins, length_behind}
use Rattle.nr_store.proofs.Orders.{walk_cut, walk_under, behind_none, behind_behind}
use Rattle.nr_walk.specs.declared.walking.Known.{Known}
use Rattle.nr_walk.specs.declared.walking.Known.TheVariants.{Value, Trie}
use Rattle.nr_walk.specs.Tries.{children, branch_of}
use Rattle.nr_walk.specs.Shown.{placed, behind_all, IsTrieKnown, StandsFor}
use Rattle.nr_walk.proofs.Placing.{tails}
use Rattle.nr_remake.specs.Marks.{told, leaf_of, alone, field, IsShort, marked_field, field_usage, branch_with, marked_trie, IsGroup, Spreads}

abbrev Path : Type 0
Path = List ℕ × List ℕ

-- ---- the longest front
pub common_assoc : (a b c : List ℕ) → common a (common b c) ≡ common (common a b) c
common_assoc [] b c = refl
common_assoc (x ∷ a) [] c = refl
common_assoc (x ∷ a) (y ∷ b) [] = elim (x == y) as (λ t. [] ≡ common (cond t (x ∷ common a b) []) []) [ true ↦ refl | false ↦ refl ]
common_assoc (x ∷ a) (y ∷ b) (z ∷ c) =
    elim (y == z) as (λ t. (y == z) ≡ t → common (x ∷ a) (cond t (y ∷ common b c) []) ≡ common (cond (x == y) (x ∷ common a b) []) (z ∷ c)) [
      | true ↦ λ e. elim (x == y) as (λ u. (x == y) ≡ u → cond u (x ∷ common a (common b c)) [] ≡ common (cond u (x ∷ common a b) []) (z ∷ c)) [
        | true ↦ λ f.
            let same : (x == z) ≡ true = eq-eqb x z (eqb-true x y f ∙ eqb-true y z e) in
            ap (λ (k : List ℕ). x ∷ k) (common_assoc a b c) ∙ ap (λ t. cond t (x ∷ common (common a b) c) []) (sym same)
        | false ↦ λ f. refl
      ] refl
      | false ↦ λ e. elim (x == y) as (λ u. (x == y) ≡ u → [] ≡ common (cond u (x ∷ common a b) []) (z ∷ c)) [
        | true ↦ λ f.
            let apart : (x == z) ≡ false = elim (x == z) as (λ t. (x == z) ≡ t → t ≡ false) [ true ↦ λ g. absurd (eqb-false y z e (sym (eqb-true x y f) ∙ eqb-true x z g)) | false ↦ λ g. refl ] refl in
            ap (λ t. cond t (x ∷ common (common a b) c) []) (sym apart)
        | false ↦ λ f. refl
      ] refl
    ] refl

front_cons : (p : List ℕ × List ℕ) (ps : Paths) → 1 ≤ length ps → front (p ∷ ps) ≡ common p.0 (front ps)
front_cons p [] some = absurd (omega arith)
front_cons p (q ∷ ps) some = refl

front-append : (ps qs : Paths) → 1 ≤ length ps → 1 ≤ length qs → front (ps ++ qs) ≡ common (front ps) (front qs)
front-append [] qs some more = absurd (omega arith)
front-append (p ∷ []) qs some more = front_cons p qs more
front-append (p ∷ q ∷ ps) qs some more =
    ap (common p.0) (front-append (q ∷ ps) qs (omega arith) more) ∙ common_assoc p.0 (front (q ∷ ps)) (front qs)

common_same : (a b c : List ℕ) → common (a ++ b) (a ++ c) ≡ a ++ common b c
common_same [] b c = refl
common_same (x ∷ a) b c = ap (λ t. cond t (x ∷ common (a ++ b) (a ++ c)) []) (eq-eqb x x refl) ∙ ap (λ (k : List ℕ). x ∷ k) (common_same a b c)

front_placed : (a : List ℕ) (ps : Paths) → 1 ≤ length ps → front (placed a ps) ≡ a ++ front ps
front_placed a [] some = absurd (omega arith)
front_placed a (p ∷ []) some = refl
front_placed a (p ∷ q ∷ ps) some = ap (common (a ++ p.0)) (front_placed a (q ∷ ps) (omega arith)) ∙ common_same a p.0 (front (q ∷ ps))

pub length_placed : (a : List ℕ) (ps : Paths) → length (placed a ps) ≡ length ps
length_placed a [] = refl
length_placed a (p ∷ ps) = ap suc (length_placed a ps)

dropped : (a k : List ℕ) → drop (length a) (a ++ k) ≡ k
dropped [] k = refl
dropped (x ∷ a) k = dropped a k

behind_placed : (a : List ℕ) (ps : Paths) → behind (length a) (placed a ps) ≡ ps
behind_placed a [] = refl
behind_placed a (p ∷ ps) =
    let first = dropped a p.0 in
    let others = behind_placed a ps in
    λ i. (first i, p.1) ∷ others i

-- ---- a known trie behind a path
trie_is : (ps : Paths) → 2 ≤ length ps → front ps ≡ [] → CanWalk ps → whole ps ≡ Some (summary (branch_of ps))
trie_is ps many e h =
    let rest : cut ps ≡ ps = ap (λ (s : List ℕ). behind (length s) ps) e ∙ behind_none ps in
    whole_several ps many h ∙ ap (λ (s : List ℕ). Some (with_front s (summary (branch_of (cut ps))))) e ∙ ap (λ (r : Paths). Some (summary (branch_of r))) rest

whole_placed : (a : List ℕ) (there : Paths) (s : Summary) → 2 ≤ length there → front there ≡ [] → CanWalk there → CanWalk (placed a there) → whole there ≡ Some s → whole (placed a there) ≡ Some (with_front a s)
whole_placed a there s many e h g is =
    let shared : front (placed a there) ≡ a = front_placed a there (omega arith) ∙ ap (λ (k : List ℕ). a ++ k) e ∙ append-nil a in
    let rest : cut (placed a there) ≡ there = ap (λ (k : List ℕ). behind (length k) (placed a there)) shared ∙ behind_placed a there in
    let top : Some (summary (branch_of there)) ≡ Some s = sym (trie_is there many e h) ∙ is in
    let same : summary (branch_of there) ≡ s = cc in
    whole_several (placed a there) (omega (arith, length_placed a there)) g
    ∙ ap (λ (k : List ℕ). Some (with_front k (summary (branch_of (cut (placed a there)))))) shared
    ∙ ap (λ (r : Paths). Some (with_front a (summary (branch_of r)))) rest ∙ ap (λ (t : Summary). Some (with_front a t)) same

-- what stands alone
alone_is : (path : List ℕ) (k : Known) (there : Paths) → StandsFor k there → CanWalk (placed path there) → Some (alone path k) ≡ whole (placed path there)
alone_is path (Value size hash) there h g =
    let one : placed path there ≡ (path, h.value) ∷ [] = ap (placed path) h.is ∙ ap (λ (k : List ℕ). (k, h.value) ∷ []) (append-nil path) in
    sym (ap whole one ∙ whole_one ((path, h.value) ∷ []) refl ∙ ap (λ (n : ℕ). Some (summary (leaf_of path n (digest h.value)))) h.size_is ∙ ap (λ (d : Hash32). Some (summary (leaf_of path size d))) h.hash_is)
alone_is path (Trie hash usage) there h g = sym (whole_placed path there (record { hash = hash; usage = usage }) h.many h.parted h.order g h.whole_is)

-- ---- groups
pub first_front : (k : Known) (there : Paths) → StandsFor k there → (1 ≤ length there) × (front there ≡ [])
first_front (Value size hash) there h = (subst (λ (ps : Paths). 1 ≤ length ps) (sym h.is) (omega arith), ap front h.is)
first_front (Trie hash usage) there h = (let many = h.many in omega arith, h.parted)

group_some : (all : Paths) (p : Path) (ps : Paths) → IsGroup all p ps → 1 ≤ length ps
group_some all p ps g = let f = first_front (told p.1) g.there g.known in omega (arith, f.0, length_placed p.0 g.there, ap length g.is)

group_front : (all : Paths) (p : Path) (ps : Paths) → IsGroup all p ps → front ps ≡ p.0
group_front all p ps g =
    let f = first_front (told p.1) g.there g.known in
    ap front g.is ∙ front_placed p.0 g.there f.0 ∙ ap (λ (k : List ℕ). p.0 ++ k) f.1 ∙ append-nil p.0

spread_some : (all marks ps : Paths) → Spreads all marks ps → length marks ≤ length ps
spread_some all [] ps h = omega arith
spread_some all (p ∷ marks) ps h = omega (arith, ap length h.is, length-append h.first h.others, group_some all p h.first h.adds, spread_some all marks h.others h.more)

spread_front : (all marks ps : Paths) → 1 ≤ length marks → Spreads all marks ps → front ps ≡ front marks
spread_front all [] ps some h = absurd (omega arith)
spread_front all (p ∷ []) ps some h = ap front (h.is ∙ ap (λ (qs : Paths). h.first ++ qs) h.more ∙ append-nil h.first) ∙ group_front all p h.first h.adds
spread_front all (p ∷ q ∷ marks) ps some h =
    ap front h.is ∙ front-append h.first h.others (group_some all p h.first h.adds) (let more = spread_some all (q ∷ marks) h.others h.more in omega arith)
    ∙ ap (λ (k : List ℕ). common k (front h.others)) (group_front all p h.first h.adds) ∙ ap (common p.0) (spread_front all (q ∷ marks) h.others (omega arith) h.more)

-- ---- behind a front that all share
behind-append : (n : ℕ) (ps qs : Paths) → behind n (ps ++ qs) ≡ behind n ps ++ behind n qs
behind-append n [] qs = refl
behind-append n (p ∷ ps) qs = ap (λ (rs : Paths). (drop n p.0, p.1) ∷ rs) (behind-append n ps qs)

drop_begun : (s a k : List ℕ) → Starts s a → drop (length s) (a ++ k) ≡ drop (length s) a ++ k
drop_begun [] a k h = refl
drop_begun (x ∷ s) [] k h = absurd h
drop_begun (x ∷ s) (y ∷ a) k h = drop_begun s a k h.1

behind_begun : (s a : List ℕ) (ps : Paths) → Starts s a → behind (length s) (placed a ps) ≡ placed (drop (length s) a) ps
behind_begun s a [] h = refl
behind_begun s a (p ∷ ps) h =
    let first = drop_begun s a p.0 h in
    let others = behind_begun s a ps h in
    λ i. (first i, p.1) ∷ others i

all_begun : (s a : List ℕ) (ps : Paths) → Starts s a → AllBegin s ps → behind_all a ps ≡ behind_all (drop (length s) a) (behind (length s) ps)
all_begun [] a ps h g = ap (behind_all a) (sym (behind_none ps))
all_begun (x ∷ s) [] ps h g = absurd h
all_begun (x ∷ s) (y ∷ a) ps h g =
    let t = tails x s ps g in
    let first : under y ps ≡ behind 1 ps = ap (λ (z : ℕ). under z ps) (sym h.0) ∙ t.0 in
    let sum : 1 + length s ≡ suc (length s) = omega arith in
    ap (behind_all a) first ∙ all_begun s a (behind 1 ps) h.1 t.1
    ∙ ap (behind_all (drop (length s) a)) (behind_behind 1 (length s) ps ∙ ap (λ (n : ℕ). behind n ps) sum)

spread_behind : (s : List ℕ) (all marks ps : Paths) → AllBegin s all → AllBegin s marks → Spreads all marks ps → Spreads (behind (length s) all) (behind (length s) marks) (behind (length s) ps)
spread_behind s all [] ps a b h = ap (behind (length s)) h
spread_behind s all (p ∷ marks) ps a b h =
    record {
      first = behind (length s) h.first;
      others = behind (length s) h.others;
      is = ap (behind (length s)) h.is ∙ behind-append (length s) h.first h.others;
      adds = record {
        there = h.adds.there;
        is = ap (behind (length s)) h.adds.is ∙ behind_begun s p.0 h.adds.there b.0;
        known = h.adds.known;
        closed = λ t. subst (λ (qs : Paths). length qs ≤ length h.adds.there) (all_begun s p.0 all b.0 a) (h.adds.closed t);
      };
      more = spread_behind s all marks h.others a b.1 h.more;
    }

-- ---- no known trie stands here beside others
abbrev NoneHere : Paths → Type 0
NoneHere marks = AllByRecursion (λ (p : Path). p.0 ≡ [] → IsTrieKnown (told p.1) → ⊥) marks

none_from : (all : Paths) (n : ℕ) (marks ps : Paths) → n + length ps ≤ length all → 2 ≤ n + length marks → Spreads all marks ps → NoneHere marks
none_from all n [] ps len many h = tt
none_from all n (p ∷ marks) ps len many h =
    let first : length h.first ≡ length h.adds.there = ap length h.adds.is ∙ length_placed p.0 h.adds.there in
    let some = group_some all p h.first h.adds in
    let sum : length ps ≡ length h.first + length h.others = ap length h.is ∙ length-append h.first h.others in
    let rest = spread_some all marks h.others h.more in (
      (λ e t. let few : length all ≤ length h.adds.there = subst (λ (k : List ℕ). length (behind_all k all) ≤ length h.adds.there) e (h.adds.closed t) in absurd (omega arith)),
      none_from all (n + length h.first) marks h.others (omega arith) (omega arith) h.more,
    )

none_here : (marks ps : Paths) → 2 ≤ length marks → Spreads ps marks ps → NoneHere marks
none_here marks ps many h = none_from ps 0 marks ps (omega arith) (omega arith) h

-- ---- under a nibble
under-append : (n : ℕ) (ps qs : Paths) → under n (ps ++ qs) ≡ under n ps ++ under n qs
under-append n [] qs = refl
under-append n (([], v) ∷ ps) qs = under-append n ps qs
under-append n ((x ∷ k, v) ∷ ps) qs =
    elim (x == n) as (λ b. cond b ((k, v) ∷ under n (ps ++ qs)) (under n (ps ++ qs)) ≡ cond b ((k, v) ∷ under n ps) (under n ps) ++ under n qs) [
      | true ↦ ap (λ (rs : Paths). (k, v) ∷ rs) (under-append n ps qs)
      | false ↦ under-append n ps qs
    ]

under_same : (n x : ℕ) (k : List ℕ) (ps : Paths) → (x == n) ≡ true → under n (placed (x ∷ k) ps) ≡ placed k ps
under_same n x k [] e = refl
under_same n x k (p ∷ ps) e = ap (λ b. cond b ((k ++ p.0, p.1) ∷ under n (placed (x ∷ k) ps)) (under n (placed (x ∷ k) ps))) e ∙ ap (λ (rs : Paths). (k ++ p.0, p.1) ∷ rs) (under_same n x k ps e)

under_other : (n x : ℕ) (k : List ℕ) (ps : Paths) → (x == n) ≡ false → under n (placed (x ∷ k) ps) ≡ []
under_other n x k [] e = refl
under_other n x k (p ∷ ps) e = ap (λ b. cond b ((k ++ p.0, p.1) ∷ under n (placed (x ∷ k) ps)) (under n (placed (x ∷ k) ps))) e ∙ under_other n x k ps e

record IsHere (k : Known) (there : Paths) : Type 0 where
  value : List ℕ
  is : there ≡ ([], value) ∷ []
  field_is : field k ≡ Some (length value, digest value)

is_here : (k : Known) (there : Paths) → (IsTrieKnown k → ⊥) → StandsFor k there → IsHere k there
is_here (Value size hash) there bare h = record { value = h.value; is = h.is; field_is = λ i. Some (sym h.size_is i, sym h.hash_is i) }
is_here (Trie hash usage) there bare h = absurd (bare tt)

here_group : (all : Paths) (m : List ℕ) (first : Paths) (g : IsGroup all ([], m) first) → (IsTrieKnown (told m) → ⊥) → (v : List ℕ) × ((first ≡ ([], v) ∷ []) × (marked_field (Some m) ≡ value_field (Some v)))
here_group all m first g bare =
    let h = is_here (told m) g.there bare g.known in
    (h.value, (g.is ∙ ap (placed []) h.is, h.field_is))

spread_under : (n : ℕ) (all marks ps : Paths) → NoneHere marks → Spreads all marks ps → Spreads (under n all) (under n marks) (under n ps)
spread_under n all [] ps none h = ap (under n) h
spread_under n all (([], m) ∷ marks) ps none h =
    let g = here_group all m h.first h.adds (none.0 refl) in
    let gone : under n ps ≡ under n h.others = ap (under n) h.is ∙ under-append n h.first h.others ∙ ap (λ (qs : Paths). under n qs ++ under n h.others) g.1.0 in
    subst (λ (qs : Paths). Spreads (under n all) (under n marks) qs) (sym gone) (spread_under n all marks h.others none.1 h.more)
spread_under n all ((x ∷ k, m) ∷ marks) ps none h =
    let is : under n ps ≡ under n h.first ++ under n h.others = ap (under n) h.is ∙ under-append n h.first h.others in
    let more : Spreads (under n all) (under n marks) (under n h.others) = spread_under n all marks h.others none.1 h.more in
    elim (x == n) as (λ b. (x == n) ≡ b → Spreads (under n all) (cond b ((k, m) ∷ under n marks) (under n marks)) (under n ps)) [
      | true ↦ λ e. record {
        first = under n h.first;
        others = under n h.others;
        is = is;
        adds = record {
          there = h.adds.there;
          is = ap (under n) h.adds.is ∙ under_same n x k h.adds.there e;
          known = h.adds.known;
          closed = λ t. subst (λ (y : ℕ). length (behind_all k (under y all)) ≤ length h.adds.there) (eqb-true x n e) (h.adds.closed t);
        };
        more = more;
      }
      | false ↦ λ e.
          let gone : under n ps ≡ under n h.others = is ∙ ap (λ (qs : Paths). under n qs ++ under n h.others) h.adds.is ∙ ap (λ (qs : Paths). qs ++ under n h.others) (under_other n x k h.adds.there e) in
          subst (λ (qs : Paths). Spreads (under n all) (under n marks) qs) (sym gone) more
    ] refl

value_skip : (x : ℕ) (k : List ℕ) (ps qs : Paths) → value_here (placed (x ∷ k) ps ++ qs) ≡ value_here qs
value_skip x k [] qs = refl
value_skip x k (p ∷ ps) qs = value_skip x k ps qs

here_same : (all marks ps : Paths) → NoneHere marks → Spreads all marks ps → marked_field (value_here marks) ≡ value_field (value_here ps)
here_same all [] ps none h = ap (λ (qs : Paths). value_field (value_here qs)) (sym h)
here_same all (([], m) ∷ marks) ps none h =
    let g = here_group all m h.first h.adds (none.0 refl) in
    g.1.1 ∙ ap (λ (qs : Paths). value_field (value_here qs)) (sym (h.is ∙ ap (λ (qs : Paths). qs ++ h.others) g.1.0))
here_same all ((x ∷ k, m) ∷ marks) ps none h =
    let same : value_here ps ≡ value_here h.others = ap value_here (h.is ∙ ap (λ (qs : Paths). qs ++ h.others) h.adds.is) ∙ value_skip x k h.adds.there h.others in
    here_same all marks h.others none.1 h.more ∙ ap value_field (sym same)

-- ---- the whole
usage_same : (value : Option (List ℕ)) → field_usage (value_field value) ≡ value_usage value
usage_same None = refl
usage_same (Some v) = refl

branch_same : (f : Option (ℕ × Hash32)) (value : Option (List ℕ)) (below : List (Option Summary)) → f ≡ value_field value → branch_with f below ≡ branch value below
branch_same f value below e =
    ap (λ (g : Option (ℕ × Hash32)). branch_with g below) e ∙ ap (λ (u : ℕ). Branch (value_field value) (map hash_below below) (50 + u + sum_by usage_below below)) (usage_same value)

pub children_short : (n : ℕ) (ps : Paths) (nibble : ℕ) → IsShort (suc n) ps → IsShort n (under nibble (cut ps))
children_short n ps nibble h =
    all_under nibble (λ k. length k < suc n) (λ k. length k < n) (λ k lt. omega (arith, lt)) (cut ps)
    (all_behind (length (front ps)) (λ k. length k < suc n) (λ k. length k < suc n) (λ k lt. omega (arith, lt, length-drop (length (front ps)) k)) ps h)

pub split : (n : ℕ) (ps : Paths) → 2 ≤ length ps
    → marked_trie (suc n) ps ≡ Some (with_front (front ps) (summary (branch_with (marked_field (value_here (cut ps))) (map (λ nibble. marked_trie n (under nibble (cut ps))) sixteen))))
unfolding marked_trie
split n [] len = absurd (omega arith)
split n (p ∷ []) len = absurd (omega arith)
split n (p ∷ q ∷ ps) len = refl

pub none_marked : (n : ℕ) → marked_trie n [] ≡ None
unfolding marked_trie
none_marked n = refl

pub one_marked : (n : ℕ) (p : Path) → marked_trie n (p ∷ []) ≡ Some (alone p.0 (told p.1))
unfolding marked_trie
one_marked n p = refl

pub remade : (depth : ℕ) (marks ps : Paths) → IsShort depth marks → CanWalk ps → Spreads ps marks ps → marked_trie depth marks ≡ whole ps
remade depth [] ps s w h = none_marked depth ∙ sym (ap whole h ∙ whole_none [] refl)
remade depth (p ∷ []) ps s w h =
    let is : ps ≡ placed p.0 h.adds.there = h.is ∙ ap (λ (qs : Paths). h.first ++ qs) h.more ∙ append-nil h.first ∙ h.adds.is in
    one_marked depth p ∙ alone_is p.0 (told p.1) h.adds.there h.adds.known (subst CanWalk is w) ∙ ap whole (sym is)
remade zero (p ∷ q ∷ marks) ps s w h = absurd (omega (arith, s.0))
remade (suc n) (p ∷ q ∷ marks) ps s w h =
    let all = p ∷ q ∷ marks in
    let long = spread_some ps all ps h in
    let shared : front ps ≡ front all = spread_front ps all ps (omega arith) h in
    let begins : AllBegin (front all) ps = subst (λ (k : List ℕ). AllBegin k ps) shared (front_begins ps) in
    let rest_all : Spreads (behind (length (front all)) ps) (cut all) (behind (length (front all)) ps) = spread_behind (front all) ps all ps begins (front_begins all) h in
    let rest : Spreads (cut ps) (cut all) (cut ps) = subst (λ (k : List ℕ). Spreads (behind (length k) ps) (cut all) (behind (length k) ps)) (sym shared) rest_all in
    let none : NoneHere (cut all) = none_here (cut all) (cut ps) (omega (arith, length_behind (length (front all)) all)) rest in
    let below : map (λ nibble. marked_trie n (under nibble (cut all))) sixteen ≡ children (cut ps) =
    (λ i. map (λ nibble. remade n (under nibble (cut all)) (under nibble (cut ps)) (children_short n all nibble s) (walk_under nibble (cut ps) (walk_cut ps w)) (spread_under nibble (cut ps) (cut all) (cut ps) none rest) i) sixteen) in
    split n all (omega arith)
    ∙ ap (λ (xs : List (Option Summary)). Some (with_front (front all) (summary (branch_with (marked_field (value_here (cut all))) xs)))) below
    ∙ ap (λ (node : Node). Some (with_front (front all) (summary node))) (branch_same (marked_field (value_here (cut all))) (value_here (cut ps)) (children (cut ps)) (here_same (cut ps) (cut all) (cut ps) none rest))
    ∙ ap (λ (k : List ℕ). Some (with_front k (summary (branch_of (cut ps))))) (sym shared)
    ∙ sym (whole_several ps (omega arith) w)
