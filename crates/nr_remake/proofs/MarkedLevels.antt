-- The trie of marks at every depth above their paths, and what a branch of marks is made of.
use Rattle.std.proofs.Common.{◌≡◌, ◌≤◌, ◌<◌, ◌+◌, ◌-◌, ℕ, zero, suc, List, [], ◌∷◌, ◌++◌, length, map, drop, Option, Some, None, refl, ap, sym, subst, ◌∙◌, arith, Bool, false, cond, get_or, eq-eqb}
use Rattle.std.specs.List.{range_with_len}
use Rattle.std.proofs.lemmas.List.{drop_all}
use Rattle.std.proofs.lemmas.List.FromFn.{map-range_with_len_more}
use Rattle.nr_triedef.specs.Node.{summary}
use Rattle.nr_triedef.specs.Root.{Paths, common, front, value_here, under, with_front, sixteen, depth}
use Rattle.nr_triedef.specs.declared.hash.Summary.{Summary}
use Rattle.nr_store.specs.Tries.{CanWalk, cut, whole}
use Rattle.nr_remake.specs.Marks.{alone, told, IsShort, marked_field, branch_with, marked_trie, marked_whole, mark, folded, Spreads}
use Rattle.nr_remake.proofs.Spreading.{children_short, split, none_marked, one_marked, remade, common_assoc}
use Rattle.nr_remake.proofs.MergedMarks.{told_mark}
use Rattle.nr_remake.specs.Merging.{is_before}
use Rattle.nr_walk.specs.declared.walking.Known.{Known}

common_nil : (a : List ℕ) → common a [] ≡ []
common_nil [] = refl
common_nil (x ∷ a) = refl

pub ended : (a b : List ℕ) (n : ℕ) → length b ≤ n → n + length (common (drop n a) (drop n b)) ≡ length (common a b) → n ≡ length (common a b)
ended a b n past so_far =
    let d : drop n b ≡ [] = drop_all n b past in
    let e : length (common (drop n a) (drop n b)) ≡ 0 = ap (λ (k : List ℕ). length (common (drop n a) k)) d ∙ ap length (common_nil (drop n a)) in
    omega arith

short_below : (ps : Paths) (n : ℕ) → depth ps ≤ n → IsShort n ps
short_below [] n h = tt
short_below (p ∷ ps) n h = (omega (arith, h), short_below ps n (omega (arith, h)))

same_marked : (n m : ℕ) (ps : Paths) → IsShort n ps → IsShort m ps → marked_trie n ps ≡ marked_trie m ps
same_marked n m [] h g = none_marked n ∙ sym (none_marked m)
same_marked n m (p ∷ []) h g = one_marked n p ∙ sym (one_marked m p)
same_marked zero m (p ∷ q ∷ ps) h g = absurd (omega (arith, h.0))
same_marked (suc n) zero (p ∷ q ∷ ps) h g = absurd (omega (arith, g.0))
same_marked (suc n) (suc m) (p ∷ q ∷ ps) h g =
    let all = p ∷ q ∷ ps in
    split n all (omega arith)
    ∙ (λ i. Some (with_front (front all) (summary (branch_with (marked_field (value_here (cut all))) (map (λ nibble. same_marked n m (under nibble (cut all)) (children_short n all nibble h) (children_short m all nibble g) i) sixteen)))))
    ∙ sym (split m all (omega arith))

pub marked_none : (ps : Paths) → length ps ≡ 0 → marked_whole ps ≡ None
unfolding marked_whole
marked_none [] none = none_marked 1
marked_none (p ∷ ps) none = absurd (omega arith)

pub marked_one : (p : List ℕ × List ℕ) → marked_whole (p ∷ []) ≡ Some (alone p.0 (told p.1))
unfolding marked_whole
marked_one p = one_marked (depth (p ∷ [])) p

abbrev pub marked_children : Paths → List (Option Summary)
marked_children rest = map (λ nibble. marked_whole (under nibble rest)) sixteen

levels : (ps : Paths) → 2 ≤ length ps → depth ps ≡ suc (depth ps - 1)
levels [] many = absurd (omega arith)
levels (p ∷ ps) many = omega arith

children_are : (ps : Paths) → 2 ≤ length ps → map (λ nibble. marked_trie (depth ps - 1) (under nibble (cut ps))) sixteen ≡ marked_children (cut ps)
unfolding marked_whole
children_are ps many =
    let n = depth ps - 1 in
    let here : IsShort (suc n) ps = subst (λ m. IsShort m ps) (levels ps many) (short_below ps (depth ps) (omega arith)) in
    λ i. map (λ nibble. same_marked n (depth (under nibble (cut ps))) (under nibble (cut ps)) (children_short n ps nibble here) (short_below (under nibble (cut ps)) (depth (under nibble (cut ps))) (omega arith)) i) sixteen

pub marked_several : (ps : Paths) → 2 ≤ length ps → marked_whole ps ≡ Some (with_front (front ps) (summary (branch_with (marked_field (value_here (cut ps))) (marked_children (cut ps)))))
unfolding marked_whole
marked_several ps many =
    ap (λ n. marked_trie n ps) (levels ps many) ∙ split (depth ps - 1) ps many
    ∙ ap (λ below. Some (with_front (front ps) (summary (branch_with (marked_field (value_here (cut ps))) below)))) (children_are ps many)

-- the trie of marks is that of the paths for which they stand
pub marked_is : (marks ps : Paths) → CanWalk ps → Spreads ps marks ps → marked_whole marks ≡ whole ps
unfolding marked_whole
marked_is marks ps w h = remade (depth marks) marks ps (short_below marks (depth marks) (omega arith)) w h

-- ---- children as they are made
pub made_more : (rest : Paths) (k : ℕ) (new old : List (Option Summary)) (child : Option Summary) → old ≡ map (λ nibble. marked_whole (under nibble rest)) (range_with_len 0 k) → child ≡ marked_whole (under k rest)
    → new ≡ old ++ child ∷ [] → new ≡ map (λ nibble. marked_whole (under nibble rest)) (range_with_len 0 (k + 1))
made_more rest k new old child before is e =
    e ∙ ap (λ (l : List (Option Summary)). l ++ child ∷ []) before ∙ ap (λ c. map (λ nibble. marked_whole (under nibble rest)) (range_with_len 0 k) ++ c ∷ []) is
    ∙ sym (map-range_with_len_more (λ nibble. marked_whole (under nibble rest)) 0 k k (omega arith))

pub made_all : (rest : Paths) (made : List (Option Summary)) → made ≡ map (λ nibble. marked_whole (under nibble rest)) (range_with_len 0 (length made)) → length made ≡ 16 → made ≡ marked_children rest
made_all rest made e is = e ∙ ap (λ m. map (λ nibble. marked_whole (under nibble rest)) (range_with_len 0 m)) is

-- a branch with its front, made of all that it needs
pub marked_closed : (ps rest : Paths) (made : List (Option Summary)) (shared : List ℕ) (part found : Summary) → 2 ≤ length ps → rest ≡ cut ps → made ≡ marked_children rest → shared ≡ front ps
    → part ≡ summary (branch_with (marked_field (value_here rest)) made) → found ≡ with_front shared part → Some found ≡ marked_whole ps
marked_closed ps rest made shared part found many r m s e f =
    let one : found ≡ with_front shared (summary (branch_with (marked_field (value_here rest)) made)) = f ∙ ap (with_front shared) e in
    let two : with_front shared (summary (branch_with (marked_field (value_here rest)) made)) ≡ with_front (front ps) (summary (branch_with (marked_field (value_here rest)) (marked_children rest))) =
    (λ i. with_front (s i) (summary (branch_with (marked_field (value_here rest)) (m i)))) in
    let three : with_front (front ps) (summary (branch_with (marked_field (value_here rest)) (marked_children rest))) ≡ with_front (front ps) (summary (branch_with (marked_field (value_here (cut ps))) (marked_children (cut ps)))) =
    (λ i. with_front (front ps) (summary (branch_with (marked_field (value_here (r i))) (marked_children (r i))))) in
    ap (λ (x : Summary). Some x) (one ∙ two ∙ three) ∙ sym (marked_several ps many)

-- ---- the longest front, path after path
common_self : (a : List ℕ) → common a a ≡ a
common_self [] = refl
common_self (x ∷ a) = ap (λ t. cond t (x ∷ common a a) []) (eq-eqb x x refl) ∙ ap (λ (k : List ℕ). x ∷ k) (common_self a)

folded_all : (k : List ℕ) (ps : Paths) → 1 ≤ length ps → folded k ps ≡ common k (front ps)
folded_all k [] some = absurd (omega arith)
folded_all k (p ∷ []) some = refl
folded_all k (p ∷ q ∷ ps) some = folded_all (common k p.0) (q ∷ ps) (omega arith) ∙ sym (common_assoc k p.0 (front (q ∷ ps)))

pub folded_first : (ps : Paths) (p : List ℕ × List ℕ) (k : List ℕ) → 0 < length ps → p ≡ get_or ps 0 p → k ≡ p.0 → folded k (drop 0 ps) ≡ front ps
folded_first [] p k some is e = absurd (omega arith)
folded_first (q ∷ []) p k some is e = ap (λ (a : List ℕ). common a q.0) (e ∙ ap (λ (r : List ℕ × List ℕ). r.0) is) ∙ common_self q.0
folded_first (q ∷ r ∷ ps) p k some is e =
    folded_all k (q ∷ r ∷ ps) (omega arith) ∙ ap (λ (a : List ℕ). common a (common q.0 (front (r ∷ ps)))) (e ∙ ap (λ (s : List ℕ × List ℕ). s.0) is)
    ∙ common_assoc q.0 q.0 (front (r ∷ ps)) ∙ ap (λ (a : List ℕ). common a (front (r ∷ ps))) (common_self q.0)

-- ---- a single mark
pub one_found : (ps : Paths) (p : List ℕ × List ℕ) (path : List ℕ) (k : Known) (found : Summary) → length ps < 2 → 1 ≤ length ps → p ≡ get_or ps 0 p → path ≡ p.0 → mark k ≡ p.1 → found ≡ alone path k → Some found ≡ marked_whole ps
one_found [] p path k found few some is e f g = absurd (omega arith)
one_found (q ∷ []) p path k found few some is e f g =
    let at : path ≡ q.0 = e ∙ ap (λ (r : List ℕ × List ℕ). r.0) is in
    let known : k ≡ told q.1 = sym (told_mark k) ∙ ap told (f ∙ ap (λ (r : List ℕ × List ℕ). r.1) is) in
    ap (λ (s : Summary). Some s) (g ∙ ap (λ (a : List ℕ). alone a k) at ∙ ap (alone q.0) known) ∙ sym (marked_one q)
one_found (q ∷ r ∷ ps) p path k found few some is e f g = absurd (omega arith)

-- no path stands before the empty one
pub none_before : (path end : List ℕ) (total : Bool) → length end < 1 → is_before path end ≡ total → false ≡ total
none_before [] [] total few h = h
none_before (x ∷ path) [] total few h = h
none_before path (y ∷ end) total few h = absurd (omega arith)
