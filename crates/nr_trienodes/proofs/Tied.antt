-- The trie of a node's paths is the node: its hash and usage by the definition of the root, and how many nodes there are.
use Rattle.std.proofs.Common.{◌≡◌, ◌≢◌, ◌==◌, ◌&&◌, ◌<◌, ◌≤◌, ◌+◌, ◌*◌, ℕ, zero, suc, Bool, true, false, cond, List, [], ◌∷◌, ◌++◌, length, map, Option, Some, None, refl, ap, sym, subst, ◌∙◌, arith, eq-eqb, length-append}
use Rattle.std.proofs.lemmas.Bool.{ne_eqb, eqb-true}
use Rattle.std.proofs.lemmas.List.{append-nil, length-map}
use Rattle.std.proofs.lemmas.List.Sums.{sum_by-cons}
use Rattle.std.proofs.Math.Seq.{drop-append_seam}
use Rattle.std.specs.Prelude.{is_some, count_by, sum_by}
use Rattle.std.specs.List.{AllByRecursion, range_with_len}
use mathlib.Core.Bool.{and-false}
use Rattle.nr_triedef.specs.declared.hash.Summary.{Summary}
use Rattle.nr_triedef.specs.Node.{summary, key_part}
use Rattle.nr_triedef.specs.Root.{Paths, common, front, behind, value_here, under, leaf, leaf_with, branch, with_front, sixteen, trie, depth, summary_of}
use Rattle.nr_trienodes.specs.Shape.{Shape, child, shape_at}
use Rattle.nr_trienodes.specs.Tries.{in_front, own_path, paths_from, node_paths, paths_at, is_leaf, value_or_none, node_summary, summary_at, or_zero, node_count, count_at}
use Rattle.nr_trienodes.specs.Views.{Sound}
use Rattle.nr_trienodes.proofs.Sounds.{back_sound}
use Rattle.nr_trienodes.proofs.Steps.{Zipped, fold_two}

abbrev Path : Type 0
Path = List ℕ × List ℕ

-- ---- how many
count-none : {A : Type 0} (cs : List (Option A)) → count_by is_some (None ∷ cs) ≡ count_by is_some cs
count-none {A} cs = sum_by-cons (λ (c : Option A). cond {A = ℕ} (is_some c) 1 0) None cs ∙ omega arith

count-some : {A : Type 0} (a : A) (cs : List (Option A)) → count_by is_some (Some a ∷ cs) ≡ 1 + count_by is_some cs
count-some {A} a cs = sum_by-cons (λ (c : Option A). cond {A = ℕ} (is_some c) 1 0) (Some a) cs

length-front : (p : List ℕ) (ps : Paths) → length (in_front p ps) ≡ length ps
length-front p ps = length-map ps (λ (q : Path). (p ++ q.0, q.1))

length-own : (value : Option (List ℕ)) → length (own_path value) ≡ cond (is_some value) 1 0
length-own None = refl
length-own (Some value) = refl

-- ---- a node's paths
behind_front : (p : List ℕ) (ps : Paths) → behind (length p) (in_front p ps) ≡ ps
behind_front p [] = refl
behind_front p (q ∷ ps) = (λ i. (drop-append_seam p q.0 i, q.1) ∷ behind_front p ps i)

here_one : (n : ℕ) (ps qs : Paths) → value_here (in_front (n ∷ []) ps ++ qs) ≡ value_here qs
here_one n [] qs = refl
here_one n (p ∷ ps) qs = here_one n ps qs

here_from : (n : ℕ) (bs : List (Option Paths)) → value_here (paths_from n bs) ≡ None
here_from n [] = refl
here_from n (None ∷ bs) = here_from (suc n) bs
here_from n (Some ps ∷ bs) = here_one n ps (paths_from (suc n) bs) ∙ here_from (suc n) bs

here_own : (value : Option (List ℕ)) (bs : List (Option Paths)) → value_here (own_path value ++ paths_from 0 bs) ≡ value
here_own None bs = here_from 0 bs
here_own (Some value) bs = refl

abbrev those : Option Paths → Paths
those None = []
those (Some ps) = ps

under_same : (n m : ℕ) (ps qs : Paths) → n ≡ m → under m (in_front (n ∷ []) ps ++ qs) ≡ ps ++ under m qs
under_same n m [] qs e = refl
under_same n m (p ∷ ps) qs e = ap (λ b. cond b (p ∷ under m (in_front (n ∷ []) ps ++ qs)) (under m (in_front (n ∷ []) ps ++ qs))) (eq-eqb n m e) ∙ ap (λ (r : Paths). p ∷ r) (under_same n m ps qs e)

under_other : (n m : ℕ) (ps qs : Paths) → n ≢ m → under m (in_front (n ∷ []) ps ++ qs) ≡ under m qs
under_other n m [] qs ne = refl
under_other n m (p ∷ ps) qs ne = ap (λ b. cond b (p ∷ under m (in_front (n ∷ []) ps ++ qs)) (under m (in_front (n ∷ []) ps ++ qs))) (ne_eqb n m ne) ∙ under_other n m ps qs ne

under_less : (n m : ℕ) (bs : List (Option Paths)) → m < n → under m (paths_from n bs) ≡ []
under_less n m [] lt = refl
under_less n m (None ∷ bs) lt = under_less (suc n) m bs (omega arith)
under_less n m (Some ps ∷ bs) lt = under_other n m ps (paths_from (suc n) bs) (λ same. omega arith) ∙ under_less (suc n) m bs (omega arith)

under_from : (n i m : ℕ) (bs : List (Option Paths)) → m ≡ n + i → under m (paths_from n bs) ≡ those (child bs i)
under_from n i m [] e = refl
under_from n zero m (None ∷ bs) e = under_less (suc n) m bs (omega arith)
under_from n (suc i) m (None ∷ bs) e = under_from (suc n) i m bs (omega arith)
under_from n zero m (Some ps ∷ bs) e = under_same n m ps (paths_from (suc n) bs) (omega arith) ∙ ap (λ (r : Paths). ps ++ r) (under_less (suc n) m bs (omega arith)) ∙ append-nil ps
under_from n (suc i) m (Some ps ∷ bs) e = under_other n m ps (paths_from (suc n) bs) (λ same. omega arith) ∙ under_from (suc n) i m bs (omega arith)

under_own : (value : Option (List ℕ)) (m : ℕ) (bs : List (Option Paths)) → under m (own_path value ++ paths_from 0 bs) ≡ those (child bs m)
under_own None m bs = under_from 0 m m bs (omega arith)
under_own (Some value) m bs = under_from 0 m m bs (omega arith)

-- ---- what all share
common_front : (p a b : List ℕ) → common (p ++ a) (p ++ b) ≡ p ++ common a b
common_front [] a b = refl
common_front (x ∷ p) a b = ap (λ t. cond t (x ∷ common (p ++ a) (p ++ b)) []) (eq-eqb x x refl) ∙ ap (λ (r : List ℕ). x ∷ r) (common_front p a b)

front_front : (p : List ℕ) (q : Path) (ps : Paths) → front (in_front p (q ∷ ps)) ≡ p ++ front (q ∷ ps)
front_front p q [] = refl
front_front p q (r ∷ ps) = ap (common (p ++ q.0)) (front_front p r ps) ∙ common_front p q.0 (front (r ∷ ps))

abbrev Begins : ℕ → List ℕ → Type 0
Begins x [] = ⊥
Begins x (y ∷ key) = y ≡ x

abbrev AllBegin : ℕ → Paths → Type 0
AllBegin x ps = AllByRecursion (λ (p : Path). Begins x p.0) ps

common_begins : (x : ℕ) (a b : List ℕ) → Begins x (common a b) → Begins x a × Begins x b
common_begins x [] b h = absurd h
common_begins x (y ∷ a) [] h = absurd h
common_begins x (y ∷ a) (z ∷ b) h =
    elim (y == z) as (λ t. (y == z) ≡ t → Begins x (cond t (y ∷ common a b) []) → (y ≡ x) × (z ≡ x)) [
      | true ↦ λ e g. (g, sym (eqb-true y z e) ∙ g)
      | false ↦ λ e g. absurd g
    ] refl h

front_begins : (x : ℕ) (ps : Paths) → Begins x (front ps) → AllBegin x ps
front_begins x [] h = tt
front_begins x (p ∷ []) h = (h, tt)
front_begins x (p ∷ q ∷ ps) h = let b = common_begins x p.0 (front (q ∷ ps)) h in (b.0, front_begins x (q ∷ ps) b.1)

begins_behind : (x : ℕ) (ps qs : Paths) → AllBegin x (ps ++ qs) → AllBegin x qs
begins_behind x [] qs all = all
begins_behind x (p ∷ ps) qs all = begins_behind x ps qs all.1

from_begins : (x n : ℕ) (bs : List (Option Paths)) → x < n → 0 < length (paths_from n bs) → AllBegin x (paths_from n bs) → ⊥
from_begins x n [] lt some all = absurd (omega arith)
from_begins x n (None ∷ bs) lt some all = from_begins x (suc n) bs (omega arith) some all
from_begins x n (Some [] ∷ bs) lt some all = from_begins x (suc n) bs (omega arith) some all
from_begins x n (Some (p ∷ ps) ∷ bs) lt some all = let e : n ≡ x = all.0 in omega arith

front_one : (n : ℕ) (p : Path) (ps : Paths) (bs : List (Option Paths)) → 0 < length (paths_from (suc n) bs) → front (in_front (n ∷ []) (p ∷ ps) ++ paths_from (suc n) bs) ≡ []
front_one n p ps bs some =
    let all : Paths = in_front (n ∷ []) (p ∷ ps) ++ paths_from (suc n) bs in
    elim (front all) as (λ f. front all ≡ f → f ≡ []) [
      | [] ↦ λ e. refl
      | x ∷ f ↦ λ e.
          let begins : AllBegin x all = front_begins x all (subst (Begins x) (sym e) refl) in
          let same : n ≡ x = begins.0 in
          absurd (from_begins x (suc n) bs (omega arith) some (begins_behind x (in_front (n ∷ []) (p ∷ ps)) (paths_from (suc n) bs) begins))
    ] refl

-- ---- the trie
abbrev AllShort : ℕ → Paths → Type 0
AllShort d ps = AllByRecursion (λ (p : Path). length p.0 < d) ps

short_front : (d : ℕ) (p : List ℕ) (ps : Paths) → AllShort d (in_front p ps) → AllShort d ps
short_front d p [] all = tt
short_front d p (q ∷ ps) all = (omega (arith, all.0, length-append p q.0), short_front d p ps all.1)

short_one : (d n : ℕ) (ps : Paths) → AllShort (suc d) (in_front (n ∷ []) ps) → AllShort d ps
short_one d n [] all = tt
short_one d n (q ∷ ps) all = (omega (arith, all.0), short_one d n ps all.1)

short_first : (d : ℕ) (ps qs : Paths) → AllShort d (ps ++ qs) → AllShort d ps
short_first d [] qs all = tt
short_first d (p ∷ ps) qs all = (all.0, short_first d ps qs all.1)

short_behind : (d : ℕ) (ps qs : Paths) → AllShort d (ps ++ qs) → AllShort d qs
short_behind d [] qs all = all
short_behind d (p ∷ ps) qs all = short_behind d ps qs all.1

-- the trie of the paths, at each depth that is enough, is the node's
pub record IsTrie (ps : Paths) (s : Summary) : Type 0 where
  pub some : 0 < length ps
  pub is : (d : ℕ) → AllShort d ps → trie d ps ≡ Some s

many_from : (n : ℕ) (bs : List (Option Paths)) (ss : List (Option Summary)) → Zipped IsTrie bs ss → count_by is_some bs ≤ length (paths_from n bs)
many_from n [] [] h = omega arith
many_from n [] (s ∷ ss) h = absurd h
many_from n (b ∷ bs) [] h = absurd h
many_from n (None ∷ bs) (None ∷ ss) h = omega (arith, count-none bs, many_from (suc n) bs ss h)
many_from n (None ∷ bs) (Some s ∷ ss) h = absurd h
many_from n (Some ps ∷ bs) (None ∷ ss) h = absurd h
many_from n (Some ps ∷ bs) (Some s ∷ ss) h = omega (arith, count-some ps bs, many_from (suc n) bs ss h.1, h.0.some, length-append (in_front (n ∷ []) ps) (paths_from (suc n) bs), length-front (n ∷ []) ps)

count_zipped : (bs : List (Option Paths)) (ss : List (Option Summary)) → Zipped IsTrie bs ss → count_by is_some ss ≡ count_by is_some bs
count_zipped [] [] h = refl
count_zipped [] (s ∷ ss) h = absurd h
count_zipped (b ∷ bs) [] h = absurd h
count_zipped (None ∷ bs) (None ∷ ss) h = count-none ss ∙ count_zipped bs ss h ∙ sym (count-none bs)
count_zipped (None ∷ bs) (Some s ∷ ss) h = absurd h
count_zipped (Some ps ∷ bs) (None ∷ ss) h = absurd h
count_zipped (Some ps ∷ bs) (Some s ∷ ss) h = count-some s ss ∙ ap suc_of (count_zipped bs ss h.1) ∙ sym (count-some ps bs)
  where
    suc_of : ℕ → ℕ
    suc_of n = 1 + n

length_zipped : (bs : List (Option Paths)) (ss : List (Option Summary)) → Zipped IsTrie bs ss → length ss ≡ length bs
length_zipped [] [] h = refl
length_zipped [] (s ∷ ss) h = absurd h
length_zipped (b ∷ bs) [] h = absurd h
length_zipped (None ∷ bs) (None ∷ ss) h = ap suc (length_zipped bs ss h)
length_zipped (None ∷ bs) (Some s ∷ ss) h = absurd h
length_zipped (Some ps ∷ bs) (None ∷ ss) h = absurd h
length_zipped (Some ps ∷ bs) (Some s ∷ ss) h = ap suc (length_zipped bs ss h.1)

none_from : (n : ℕ) (bs : List (Option Paths)) → count_by is_some bs ≡ 0 → paths_from n bs ≡ []
none_from n [] e = refl
none_from n (None ∷ bs) e = none_from (suc n) bs (sym (count-none bs) ∙ e)
none_from n (Some ps ∷ bs) e = absurd (omega (arith, count-some ps bs))

front_from : (n : ℕ) (bs : List (Option Paths)) (ss : List (Option Summary)) → Zipped IsTrie bs ss → 2 ≤ count_by is_some bs → front (paths_from n bs) ≡ []
front_from n [] ss h two = refl
front_from n (b ∷ bs) [] h two = absurd h
front_from n (None ∷ bs) (None ∷ ss) h two = front_from (suc n) bs ss h (omega (arith, count-none bs))
front_from n (None ∷ bs) (Some s ∷ ss) h two = absurd h
front_from n (Some ps ∷ bs) (None ∷ ss) h two = absurd h
front_from n (Some [] ∷ bs) (Some s ∷ ss) h two = absurd (omega (arith, h.0.some))
front_from n (Some (p ∷ ps) ∷ bs) (Some s ∷ ss) h two = front_one n p ps bs (omega (arith, count-some (p ∷ ps) bs, many_from (suc n) bs ss h.1))

front_own : (value : Option (List ℕ)) (bs : List (Option Paths)) (ss : List (Option Summary)) → Zipped IsTrie bs ss → 2 ≤ cond (is_some value) 1 0 + count_by is_some bs → front (own_path value ++ paths_from 0 bs) ≡ []
front_own None bs ss h two = front_from 0 bs ss h (omega arith)
front_own (Some value) bs ss h two = first (paths_from 0 bs) (omega (arith, many_from 0 bs ss h))
  where
    first : (ps : Paths) → 0 < length ps → front (([], value) ∷ ps) ≡ []
    first [] some = absurd (omega arith)
    first (p ∷ ps) some = refl

child_is : (d : ℕ) (bs : List (Option Paths)) (ss : List (Option Summary)) (n i : ℕ) → Zipped IsTrie bs ss → AllShort (suc d) (paths_from n bs) → trie d (those (child bs i)) ≡ child ss i
unfolding trie
child_is d [] [] n i h short = refl
child_is d [] (s ∷ ss) n i h short = absurd h
child_is d (b ∷ bs) [] n i h short = absurd h
child_is d (None ∷ bs) (None ∷ ss) n zero h short = refl
child_is d (None ∷ bs) (None ∷ ss) n (suc i) h short = child_is d bs ss (suc n) i h short
child_is d (None ∷ bs) (Some s ∷ ss) n i h short = absurd h
child_is d (Some ps ∷ bs) (None ∷ ss) n i h short = absurd h
child_is d (Some ps ∷ bs) (Some s ∷ ss) n zero h short = h.0.is d (short_one d n ps (short_first (suc d) (in_front (n ∷ []) ps) (paths_from (suc n) bs) short))
child_is d (Some ps ∷ bs) (Some s ∷ ss) n (suc i) h short = child_is d bs ss (suc n) i h.1 (short_behind (suc d) (in_front (n ∷ []) ps) (paths_from (suc n) bs) short)

each_child : {A : Type 0} (f : ℕ → Option A) (cs : List (Option A)) (n : ℕ) → ((i : ℕ) → f (n + i) ≡ child cs i) → map f (range_with_len n (length cs)) ≡ cs
each_child f [] n h = refl
each_child {A} f (c ∷ cs) n h =
    let one : f n ≡ c = ap f (let e : n ≡ n + 0 = omega arith in e) ∙ h 0 in
    (λ i. one i ∷ each_child f cs (n + 1) (λ j. ap f (let e : n + 1 + j ≡ n + suc j = omega arith in e) ∙ h (suc j)) i)

split : (n : ℕ) (ps : Paths) → 2 ≤ length ps → trie (suc n) ps ≡ Some (with_front (front ps) (summary (branch (value_here (behind (length (front ps)) ps)) (map (λ m. trie n (under m (behind (length (front ps)) ps))) sixteen))))
unfolding trie
split n [] len = absurd (omega arith)
split n (p ∷ []) len = absurd (omega arith)
split n (p ∷ q ∷ ps) len = refl

trie_one : (n : ℕ) (ps : Paths) (p : Path) → ps ≡ p ∷ [] → trie n ps ≡ Some (summary (leaf p))
unfolding trie
trie_one n ps p e = ap (trie n) e

front_is : (part : List ℕ) (inner : Paths) → 0 < length inner → front inner ≡ [] → front (in_front part inner) ≡ part
front_is part [] some e = absurd (omega arith)
front_is part (p ∷ ps) some e = front_front part p ps ∙ ap (λ (r : List ℕ). part ++ r) e ∙ append-nil part

several : (part : List ℕ) (value : Option (List ℕ)) (bs : List (Option Paths)) (ss : List (Option Summary)) → Zipped IsTrie bs ss → length bs ≡ 16 → 2 ≤ cond (is_some value) 1 0 + count_by is_some bs → (d : ℕ) → AllShort d (in_front part (own_path value ++ paths_from 0 bs))
    → trie d (in_front part (own_path value ++ paths_from 0 bs)) ≡ Some (with_front part (summary (branch value ss)))
several part value bs ss h len two zero short = absurd (none (in_front part (own_path value ++ paths_from 0 bs)) (omega (arith, length-front part (own_path value ++ paths_from 0 bs), length-append (own_path value) (paths_from 0 bs), length-own value, many_from 0 bs ss h)) short)
  where
    none : (ps : Paths) → 0 < length ps → AllShort 0 ps → ⊥
    none [] some all = omega arith
    none (p ∷ ps) some all = let lt : length p.0 < 0 = all.0 in omega arith
several part value bs ss h len two (suc d) short =
    let inner : Paths = own_path value ++ paths_from 0 bs in
    let more : 2 ≤ length inner = omega (arith, length-append (own_path value) (paths_from 0 bs), length-own value, many_from 0 bs ss h) in
    let shared : front (in_front part inner) ≡ part = front_is part inner (omega arith) (front_own value bs ss h two) in
    let rest : behind (length (front (in_front part inner))) (in_front part inner) ≡ inner = ap (λ f. behind (length f) (in_front part inner)) shared ∙ behind_front part inner in
    let below : map (λ m. trie d (under m inner)) sixteen ≡ ss =
    (λ i. map (λ m. trie d (under_own value m bs i)) sixteen)
    ∙ (λ i. map (λ m. child_is d bs ss 0 m h (short_behind (suc d) (own_path value) (paths_from 0 bs) (short_front (suc d) part inner short)) i) sixteen)
    ∙ ap (λ n. map (child ss) (range_with_len 0 n)) (sym (length_zipped bs ss h ∙ len))
    ∙ each_child (child ss) ss 0 (λ i. ap (child ss) (let e : 0 + i ≡ i = omega arith in e)) in
    split d (in_front part inner) (omega (arith, length-front part inner))
    ∙ (λ i. Some (with_front (shared i) (summary (branch (value_here (rest i)) (map (λ m. trie d (under m (rest i))) sixteen)))))
    ∙ (λ i. Some (with_front part (summary (branch (here_own value bs i) (below i)))))

alone : (part : List ℕ) (value : List ℕ) (bs : List (Option Paths)) → count_by is_some bs ≡ 0 → in_front part (own_path (Some value) ++ paths_from 0 bs) ≡ (part, value) ∷ []
alone part value bs none = ap (λ (r : Paths). in_front part (([], value) ∷ r)) (none_from 0 bs none) ∙ ap (λ (k : List ℕ). let r : Paths = (k, value) ∷ [] in r) (append-nil part)

and_true : (b : Bool) → (b && true) ≡ true → b ≡ true
and_true true e = refl
and_true false e = e

and_false : (b : Bool) → (b && false) ≡ true → ⊥
and_false true e = cc
and_false false e = cc

leaf_is : (part : List ℕ) (value : Option (List ℕ)) (bs : List (Option Paths)) → is_leaf value (count_by is_some bs) ≡ true → IsTrie (in_front part (own_path value ++ paths_from 0 bs)) (summary (leaf_with (key_part part true) (value_or_none value)))
leaf_is part None bs e = absurd (and_false (count_by is_some bs == 0) e)
leaf_is part (Some value) bs e =
    let none : count_by is_some bs ≡ 0 = eqb-true (count_by is_some bs) 0 (and_true (count_by is_some bs == 0) e) in
    record { some = omega arith; is = λ d short. trie_one d (in_front part (own_path (Some value) ++ paths_from 0 bs)) (part, value) (alone part value bs none) }

node_is : (s : Shape) (bs : List (Option Paths)) (ss : List (Option Summary)) → Zipped IsTrie bs ss → length bs ≡ 16 → (is_leaf s.value (count_by is_some bs) ≡ false → 2 ≤ cond (is_some s.value) 1 0 + count_by is_some bs) → IsTrie (node_paths s bs) (node_summary s ss)
node_is s bs ss h len linked =
    let inner : Paths = own_path s.value ++ paths_from 0 bs in
    let by_kind = elim (is_leaf s.value (count_by is_some bs)) as (λ b. is_leaf s.value (count_by is_some bs) ≡ b → IsTrie (node_paths s bs) (cond b (summary (leaf_with (key_part s.part true) (value_or_none s.value))) (with_front s.part (summary (branch s.value ss))))) [
      | true ↦ λ e. leaf_is s.part s.value bs e
      | false ↦ λ e.
          let two : 2 ≤ cond (is_some s.value) 1 0 + count_by is_some bs = linked e in
          record {
            some = omega (arith, length-front s.part inner, length-append (own_path s.value) (paths_from 0 bs), length-own s.value, many_from 0 bs ss h);
            is = several s.part s.value bs ss h len two;
          }
    ] in
    subst (λ n. IsTrie (node_paths s bs) (cond (is_leaf s.value n) (summary (leaf_with (key_part s.part true) (value_or_none s.value))) (with_front s.part (summary (branch s.value ss))))) (sym (count_zipped bs ss h)) (by_kind refl)

linked_as : (value : Option (List ℕ)) (n m : ℕ) → m ≡ n → (is_leaf value n ≡ false → 2 ≤ cond (is_some value) 1 0 + n) → is_leaf value m ≡ false → 2 ≤ cond (is_some value) 1 0 + m
linked_as value n m e h = subst (λ k. is_leaf value k ≡ false → 2 ≤ cond (is_some value) 1 0 + k) (sym e) h

pub trie_at : (nodes : List Shape) → Sound nodes → (id : ℕ) → id < length nodes → IsTrie (paths_at nodes id) (summary_at nodes id)
trie_at nodes sound =
    fold_two IsTrie node_paths [] node_summary (summary_of None) nodes (back_sound nodes sound) (λ id lt bs ss count len zipped.
    let st = sound id lt in
    node_is (shape_at nodes id) bs ss zipped (len ∙ st.sixteen) (linked_as (shape_at nodes id).value (count_by is_some (shape_at nodes id).below) (count_by is_some bs) count st.linked))

pub short_depth : (ps : Paths) (d : ℕ) → depth ps ≤ d → AllShort d ps
short_depth [] d le = tt
short_depth (p ∷ ps) d le = (omega (arith, le), short_depth ps d (omega (arith, le)))

-- ---- fewer than two nodes for each path
abbrev AreFew : Paths → ℕ → Type 0
AreFew ps n = n + 1 ≤ 2 * length ps

few_from : (n : ℕ) (bs : List (Option Paths)) (ns : List (Option ℕ)) → Zipped AreFew bs ns → sum_by or_zero ns + count_by is_some bs ≤ 2 * length (paths_from n bs)
few_from n [] [] h = omega arith
few_from n [] (m ∷ ns) h = absurd h
few_from n (b ∷ bs) [] h = absurd h
few_from n (None ∷ bs) (None ∷ ns) h = omega (arith, sum_by-cons or_zero None ns, count-none bs, few_from (suc n) bs ns h)
few_from n (None ∷ bs) (Some m ∷ ns) h = absurd h
few_from n (Some ps ∷ bs) (None ∷ ns) h = absurd h
few_from n (Some ps ∷ bs) (Some m ∷ ns) h = omega (arith, sum_by-cons or_zero (Some m) ns, count-some ps bs, h.0, few_from (suc n) bs ns h.1, length-append (in_front (n ∷ []) ps) (paths_from (suc n) bs), length-front (n ∷ []) ps)

two_links : (value : Option (List ℕ)) (n : ℕ) → (is_leaf value n ≡ false → 2 ≤ cond (is_some value) 1 0 + n) → 2 ≤ 2 * cond (is_some value) 1 0 + n
two_links None n h = let two : 2 ≤ 0 + n = h (and-false (n == 0)) in omega arith
two_links (Some value) n h = omega arith

pub few_at : (nodes : List Shape) → Sound nodes → (id : ℕ) → id < length nodes → count_at nodes id + 1 ≤ 2 * length (paths_at nodes id)
few_at nodes sound =
    fold_two AreFew node_paths [] node_count 0 nodes (back_sound nodes sound) (λ id lt bs ns count len zipped.
    let s : Shape = shape_at nodes id in
    let st = sound id lt in
    let two : 2 ≤ 2 * cond (is_some s.value) 1 0 + count_by is_some bs = two_links s.value (count_by is_some bs) (linked_as s.value (count_by is_some s.below) (count_by is_some bs) count st.linked) in
    omega (arith, few_from 0 bs ns zipped, length-front s.part (own_path s.value ++ paths_from 0 bs), length-append (own_path s.value) (paths_from 0 bs), length-own s.value))
