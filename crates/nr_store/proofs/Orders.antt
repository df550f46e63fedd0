-- Keys in the order of their nibbles: what is left of them is in order too, those that go on with one nibble stand together, and the first and the last share what all do.
use Rattle.std.proofs.Common.{◌≡◌, ◌==◌, ◌<◌, ◌≤◌, ◌+◌, ◌-◌, ◌/◌, ◌%◌, ℕ, zero, suc, true, false, cond, List, [], ◌∷◌, length, take, drop, get_or, Some, None, refl, ap, sym, subst, ◌∙◌, ◌⊎◌, inl, inr, arith, eq-eqb, is_some}
use mathlib.Core.Bool.{false≢true}
use Rattle.std.proofs.lemmas.Bool.{cases_lt, ltb-true, ltb-false, lt-ltb, ne_eqb, eqb-true}
use Rattle.std.proofs.lemmas.List.{drop-drop}
use Rattle.std.proofs.Math.ListN.{get_or-map}
use Rattle.std.specs.List.{AllByRecursion}
use Rattle.std.specs.declared.cmp.Ordering.TheVariants.{Less, Equal, Greater}
use Rattle.std.specs.Ordering.{nat_cmp, is_lt, ordering_then}
use Rattle.std.specs.Cmp.{ranked}
use Rattle.nr_triedef.specs.Node.{nibbles, IsNibbles}
use Rattle.nr_triedef.specs.Root.{Paths, common, front, behind, under, value_here}
use Rattle.nr_store.specs.Tries.{first, is_below, Before, Rise, CanWalk, cut}
use Rattle.nr_store.proofs.Held.{R}
use Rattle.nr_store.proofs.Links.{Begins, AllBegin, Differ, front_begins, all_under, all_behind, small_drop}

abbrev Path : Type 0
Path = List ℕ × List ℕ

-- ---- the order
before_itself : (a : List ℕ) → Before a a → ⊥
before_itself [] h = h
before_itself (x ∷ a) h = elim h [ inl lt ↦ absurd (omega arith) | inr both ↦ before_itself a both.1 ]

differ_all : (a : List ℕ) (ps : Paths) → AllByRecursion (λ (q : Path). Before a q.0) ps → AllByRecursion (λ (q : Path). a ≡ q.0 → ⊥) ps
differ_all a [] h = tt
differ_all a (q ∷ ps) h = (λ e. before_itself a (subst (Before a) (sym e) h.0), differ_all a ps h.1)

pub differ_rising : (ps : Paths) → Rise ps → Differ ps
differ_rising [] h = tt
differ_rising (p ∷ ps) h = (differ_all p.0 ps h.0, differ_rising ps h.1)

-- ---- what is left behind a front that all share
before_behind : (s a b : List ℕ) → Begins s a → Begins s b → Before a b → Before (drop (length s) a) (drop (length s) b)
before_behind [] a b f g h = h
before_behind (x ∷ s) [] b f g h = absurd f
before_behind (x ∷ s) (y ∷ a) [] f g h = absurd g
before_behind (x ∷ s) (y ∷ a) (z ∷ b) f g h = let e : y ≡ z = sym f.0 ∙ g.0 in elim h [ inl lt ↦ absurd (omega arith) | inr both ↦ before_behind s a b f.1 g.1 both.1 ]

before_all : (s a : List ℕ) (ps : Paths) → Begins s a → AllBegin s ps → AllByRecursion (λ (q : Path). Before a q.0) ps → AllByRecursion (λ (q : Path). Before (drop (length s) a) q.0) (behind (length s) ps)
before_all s a [] f g h = tt
before_all s a (q ∷ ps) f g h = (before_behind s a q.0 f g.0 h.0, before_all s a ps f g.1 h.1)

rise_behind : (s : List ℕ) (ps : Paths) → AllBegin s ps → Rise ps → Rise (behind (length s) ps)
rise_behind s [] f h = tt
rise_behind s (p ∷ ps) f h = (before_all s p.0 ps f.0 f.1 h.0, rise_behind s ps f.1 h.1)

pub walk_cut : (ps : Paths) → CanWalk ps → CanWalk (cut ps)
walk_cut ps h = record { order = rise_behind (front ps) ps (front_begins ps) h.order; small = all_behind (length (front ps)) IsNibbles IsNibbles (small_drop (length (front ps))) ps h.small }

-- ---- what is left under a nibble
before_under : (x n : ℕ) (k j : List ℕ) → x ≡ n → Before (x ∷ k) (n ∷ j) → Before k j
before_under x n k j e h = elim h [ inl lt ↦ absurd (omega arith) | inr both ↦ both.1 ]

rise_under : (n : ℕ) (ps : Paths) → Rise ps → Rise (under n ps)
rise_under n [] h = tt
rise_under n (([], v) ∷ ps) h = rise_under n ps h.1
rise_under n ((x ∷ k, v) ∷ ps) h =
    elim (x == n) as (λ b. (x == n) ≡ b → Rise (cond b ((k, v) ∷ under n ps) (under n ps))) [
      | true ↦ λ e. (all_under n (Before (x ∷ k)) (Before k) (λ j. before_under x n k j (eqb-true x n e)) ps h.0, rise_under n ps h.1)
      | false ↦ λ e. rise_under n ps h.1
    ] refl

pub walk_under : (n : ℕ) (ps : Paths) → CanWalk ps → CanWalk (under n ps)
walk_under n ps h = record { order = rise_under n ps h.order; small = all_under n IsNibbles IsNibbles (λ k small i. small (suc i)) ps h.small }

-- ---- those below a nibble stand in front
abbrev pub AllBelow : ℕ → Paths → Type 0
AllBelow n ps = AllByRecursion (λ (p : Path). is_below n p.0 ≡ true) ps

abbrev pub NoneBelow : ℕ → Paths → Type 0
NoneBelow n ps = AllByRecursion (λ (p : Path). is_below n p.0 ≡ false) ps

below_before : (n : ℕ) (a b : List ℕ) → Before a b → is_below n b ≡ true → is_below n a ≡ true
below_before n [] b h e = refl
below_before n (x ∷ a) [] h e = absurd h
below_before n (x ∷ a) (y ∷ b) h e = let lt : y < n = ltb-true y n e in elim h [ inl less ↦ lt-ltb x n (omega arith) | inr both ↦ let same : x ≡ y = both.0 in lt-ltb x n (omega arith) ]

all_at : (P : Path → Type 0) (ps : Paths) (i : ℕ) (d : Path) → i < length ps → AllByRecursion P ps → P (get_or ps i d)
all_at P [] i d lt h = absurd (omega arith)
all_at P (p ∷ ps) zero d lt h = h.0
all_at P (p ∷ ps) (suc i) d lt h = all_at P ps i d (omega arith) h.1

at_behind : (o : ℕ) (es : Paths) (i : ℕ) (d : Path) → get_or (behind o es) i (drop o d.0, d.1) ≡ (drop o (get_or es i d).0, (get_or es i d).1)
at_behind o es i d = get_or-map (λ (p : Path). (drop o p.0, p.1)) es i d

pub parted : (n o : ℕ) (es : Paths) → Rise (behind o es) → (i j : ℕ) (d : Path) → i ≤ j → j < length es → is_below n (drop o (get_or es j d).0) ≡ true → is_below n (drop o (get_or es i d).0) ≡ true
parted n o [] h i j d le lt e = absurd (omega arith)
parted n o (p ∷ es) h zero zero d le lt e = e
parted n o (p ∷ es) h zero (suc j) d le lt e =
    let at = at_behind o es j d in
    let before : Before (drop o p.0) (drop o (get_or es j d).0) = subst (λ (q : Path). Before (drop o p.0) q.0) at (all_at (λ (q : Path). Before (drop o p.0) q.0) (behind o es) j (drop o d.0, d.1) (omega (arith, length-behind o es)) h.0) in
    below_before n (drop o p.0) (drop o (get_or es j d).0) before e
  where
    length-behind : (o : ℕ) (es : Paths) → length (behind o es) ≡ length es
    length-behind o [] = refl
    length-behind o (p ∷ es) = ap suc (length-behind o es)
parted n o (p ∷ es) h (suc i) zero d le lt e = absurd (omega arith)
parted n o (p ∷ es) h (suc i) (suc j) d le lt e = parted n o es h.1 i j d (omega arith) (omega arith) e

pub taken_below : (n o : ℕ) (es : Paths) (i : ℕ) → ((k : ℕ) (d : Path) → 0 ≤ k → k < i → is_below n (drop o (get_or es k d).0) ≡ true) → AllBelow n (take i (behind o es))
taken_below n o [] zero h = tt
taken_below n o [] (suc i) h = tt
taken_below n o (p ∷ es) zero h = tt
taken_below n o (p ∷ es) (suc i) h = (h 0 p (omega arith) (omega arith), taken_below n o es i (λ k d le lt. h (suc k) d (omega arith) (omega arith)))

pub dropped_above : (n o : ℕ) (es : Paths) (i : ℕ) → ((k : ℕ) (d : Path) → i ≤ k → k < length es → is_below n (drop o (get_or es k d).0) ≡ false) → NoneBelow n (drop i (behind o es))
dropped_above n o [] zero h = tt
dropped_above n o [] (suc i) h = tt
dropped_above n o (p ∷ es) zero h = (h 0 p (omega arith) (omega arith), dropped_above n o es 0 (λ k d le lt. h (suc k) d (omega arith) (omega arith)))
dropped_above n o (p ∷ es) (suc i) h = dropped_above n o es i (λ k d le lt. h (suc k) d (omega arith) (omega arith))

-- what is below a nibble is below the next
below_more : (n : ℕ) (a : List ℕ) → is_below n a ≡ true → is_below (n + 1) a ≡ true
below_more n [] e = refl
below_more n (x ∷ a) e = let lt : x < n = ltb-true x n e in lt-ltb x (n + 1) (omega arith)

pub reach_more : (n : ℕ) (ps : Paths) (a b : ℕ) → a ≤ length ps → AllBelow n (take a ps) → NoneBelow (n + 1) (drop b ps) → a ≤ b
reach_more n ps zero b le h g = omega arith
reach_more n [] (suc a) b le h g = absurd (omega arith)
reach_more n (p ∷ ps) (suc a) zero le h g = absurd (false≢true (sym g.0 ∙ below_more n p.0 h.0))
reach_more n (p ∷ ps) (suc a) (suc b) le h g = let r = reach_more n ps a b (omega arith) h.1 g in omega arith

skipped : (n x : ℕ) (k v : List ℕ) (ps : Paths) → (x ≡ n → ⊥) → under n ((x ∷ k, v) ∷ ps) ≡ under n ps
skipped n x k v ps ne = ap (λ b. cond b ((k, v) ∷ under n ps) (under n ps)) (ne_eqb x n ne)

kept : (n x : ℕ) (k v : List ℕ) (ps : Paths) → x ≡ n → under n ((x ∷ k, v) ∷ ps) ≡ (k, v) ∷ under n ps
kept n x k v ps e = ap (λ b. cond b ((k, v) ∷ under n ps) (under n ps)) (eq-eqb x n e)

under_taken : (n : ℕ) (ps : Paths) (a b c : ℕ) → b ≡ a + c → AllBelow n (take a ps) → NoneBelow n (drop a ps) → AllBelow (n + 1) (take b ps) → NoneBelow (n + 1) (drop b ps) → behind 1 (take c (drop a ps)) ≡ under n ps
under_taken n [] zero b zero e f g h k = refl
under_taken n [] zero b (suc c) e f g h k = refl
under_taken n [] (suc a) b zero e f g h k = refl
under_taken n [] (suc a) b (suc c) e f g h k = refl
under_taken n (([], v) ∷ ps) zero b c e f g h k = absurd (false≢true (sym g.0))
under_taken n ((x ∷ key, v) ∷ ps) zero zero zero e f g h k =
    let over : n + 1 ≤ x = ltb-false x (n + 1) k.0 in
    under_taken n ps 0 0 0 refl tt g.1 tt k.1 ∙ sym (skipped n x key v ps (λ e. omega arith))
under_taken n ((x ∷ key, v) ∷ ps) zero zero (suc c) e f g h k = absurd (omega arith)
under_taken n ((x ∷ key, v) ∷ ps) zero (suc b) zero e f g h k = absurd (omega arith)
under_taken n ((x ∷ key, v) ∷ ps) zero (suc b) (suc c) e f g h k =
    let low : n ≤ x = ltb-false x n g.0 in
    let high : x < n + 1 = ltb-true x (n + 1) h.0 in
    ap (λ (r : Paths). (key, v) ∷ r) (under_taken n ps 0 b c (omega arith) tt g.1 h.1 k) ∙ sym (kept n x key v ps (omega arith))
under_taken n (p ∷ ps) (suc a) zero c e f g h k = absurd (omega arith)
under_taken n (([], v) ∷ ps) (suc a) (suc b) c e f g h k = under_taken n ps a b c (omega arith) f.1 g h.1 k
under_taken n ((x ∷ key, v) ∷ ps) (suc a) (suc b) c e f g h k =
    let low : x < n = ltb-true x n f.0 in
    under_taken n ps a b c (omega arith) f.1 g h.1 k ∙ sym (skipped n x key v ps (λ e. omega arith))

-- ---- slices
pub behind_none : (ps : Paths) → behind 0 ps ≡ ps
behind_none [] = refl
behind_none (p ∷ ps) = ap (λ (r : Paths). p ∷ r) (behind_none ps)

pub behind_behind : (o n : ℕ) (es : Paths) → behind n (behind o es) ≡ behind (o + n) es
behind_behind o n [] = refl
behind_behind o n (p ∷ es) = λ i. (drop-drop n o p.0 i, p.1) ∷ behind_behind o n es i

behind_taken : (o c : ℕ) (es : Paths) → take c (behind o es) ≡ behind o (take c es)
behind_taken o zero [] = refl
behind_taken o (suc c) [] = refl
behind_taken o zero (p ∷ es) = refl
behind_taken o (suc c) (p ∷ es) = ap (λ (r : Paths). (drop o p.0, p.1) ∷ r) (behind_taken o c es)

behind_dropped : (o a : ℕ) (es : Paths) → drop a (behind o es) ≡ behind o (drop a es)
behind_dropped o zero es = refl
behind_dropped o (suc a) [] = refl
behind_dropped o (suc a) (p ∷ es) = behind_dropped o a es

-- the slice from a to b of what goes on behind o
pub under_slice : (n o : ℕ) (es ps : Paths) (a b : ℕ) → behind o es ≡ ps → a ≤ b → AllBelow n (take a ps) → NoneBelow n (drop a ps) → AllBelow (n + 1) (take b ps) → NoneBelow (n + 1) (drop b ps) → behind (o + 1) (take (b - a) (drop a es)) ≡ under n ps
under_slice n o es ps a b view le f g h k =
    sym (behind_behind o 1 (take (b - a) (drop a es)))
    ∙ ap (behind 1) (sym (behind_taken o (b - a) (drop a es)) ∙ ap (take (b - a)) (sym (behind_dropped o a es)) ∙ ap (λ (ps : Paths). take (b - a) (drop a ps)) view)
    ∙ under_taken n ps a b (b - a) (omega arith) f g h k

none_left : (o : ℕ) (l : Paths) → length l ≡ 0 → behind o l ≡ []
none_left o [] e = refl
none_left o (p ∷ l) e = absurd (omega arith)

pub under_empty : (n o : ℕ) (es ps : Paths) (a b : ℕ) → behind o es ≡ ps → a ≤ b → AllBelow n (take a ps) → NoneBelow n (drop a ps) → AllBelow (n + 1) (take b ps) → NoneBelow (n + 1) (drop b ps) → length (take (b - a) (drop a es)) ≡ 0 → behind 0 (take (b - a) (drop a es)) ≡ under n ps
under_empty n o es ps a b view le f g h k none =
    none_left 0 (take (b - a) (drop a es)) none ∙ sym (none_left (o + 1) (take (b - a) (drop a es)) none) ∙ under_slice n o es ps a b view le f g h k

long_enough : (n o : ℕ) (k : List ℕ) → is_below n (drop o k) ≡ false → o < length k
long_enough n zero [] e = absurd (false≢true (sym e))
long_enough n (suc o) [] e = absurd (false≢true (sym e))
long_enough n zero (x ∷ k) e = omega arith
long_enough n (suc o) (x ∷ k) e = let r = long_enough n o k e in omega arith

first_goes_on : (n o : ℕ) (l : Paths) (c : ℕ) (p : Path) → NoneBelow n (behind o l) → 1 ≤ length (take c l) → p ≡ get_or (take c l) 0 p → o < length p.0
first_goes_on n o [] zero p h some is = absurd (omega arith)
first_goes_on n o [] (suc c) p h some is = absurd (omega arith)
first_goes_on n o (q ∷ l) zero p h some is = absurd (omega arith)
first_goes_on n o (q ∷ l) (suc c) p h some is = subst (λ (r : Path). o < length r.0) (sym is) (long_enough n o q.0 h.0)

pub slice_goes_on : (n o : ℕ) (es ps : Paths) (a c : ℕ) (p : Path) → behind o es ≡ ps → NoneBelow n (drop a ps) → 1 ≤ length (take c (drop a es)) → p ≡ get_or (take c (drop a es)) 0 p → o < length p.0
slice_goes_on n o es ps a c p view h some is =
    first_goes_on n o (drop a es) c p (subst (NoneBelow n) (ap (drop a) (sym view) ∙ behind_dropped o a es) h) some is

-- ---- the first and the last share what all do
common_between : (a b c : List ℕ) → Before a b → Before b c → common a (common b c) ≡ common a c
common_between [] b c f g = refl
common_between (x ∷ a) [] c f g = absurd f
common_between (x ∷ a) (y ∷ b) [] f g = absurd g
common_between (x ∷ a) (y ∷ b) (z ∷ c) f g = elim g [
  | inl less ↦
      let apart : x ≡ z → ⊥ = λ e. elim f [ inl lt ↦ absurd (omega arith) | inr both ↦ let same : x ≡ y = both.0 in absurd (omega arith) ] in
      ap (λ t. common (x ∷ a) (cond t (y ∷ common b c) [])) (ne_eqb y z (λ e. omega arith)) ∙ sym (ap (λ t. cond t (x ∷ common a c) []) (ne_eqb x z apart))
  | inr same ↦
      ap (λ t. common (x ∷ a) (cond t (y ∷ common b c) [])) (eq-eqb y z same.0)
      ∙ elim f [
        | inl less ↦ let yz : y ≡ z = same.0 in ap (λ t. cond t (x ∷ common a (common b c)) []) (ne_eqb x y (λ e. omega arith)) ∙ sym (ap (λ t. cond t (x ∷ common a c) []) (ne_eqb x z (λ e. omega arith)))
        | inr both ↦ let xz : x ≡ z = both.0 ∙ same.0 in ap (λ t. cond t (x ∷ common a (common b c)) []) (eq-eqb x y both.0) ∙ ap (λ (r : List ℕ). x ∷ r) (common_between a b c both.1 same.1) ∙ sym (ap (λ t. cond t (x ∷ common a c) []) (eq-eqb x z xz))
      ]
]

front_last : (p q : Path) (ps : Paths) (d : Path) → Rise (p ∷ q ∷ ps) → front (p ∷ q ∷ ps) ≡ common p.0 (get_or (q ∷ ps) (length ps) d).0
front_last p q [] d h = refl
front_last p q (r ∷ ps) d h =
    ap (common p.0) (front_last q r ps d h.1) ∙ common_between p.0 q.0 (get_or (r ∷ ps) (length ps) d).0 h.0.0 (all_at (λ (s : Path). Before q.0 s.0) (r ∷ ps) (length ps) d (omega arith) h.1.0)

front_ends : (ps : Paths) (d e : Path) → 2 ≤ length ps → Rise ps → front ps ≡ common (get_or ps 0 d).0 (get_or ps (length ps - 1) e).0
front_ends [] d e many h = absurd (omega arith)
front_ends (p ∷ []) d e many h = absurd (omega arith)
front_ends (p ∷ q ∷ ps) d e many h = let is : suc (suc (length ps)) - 1 ≡ suc (length ps) = omega arith in rw is (front_last p q ps e h)

pub front_parting : (o : ℕ) (es : Paths) (a z : Path) → 2 ≤ length (behind o es) → Rise (behind o es) → a ≡ get_or es 0 a → z ≡ get_or es (length es - 1) z → front (behind o es) ≡ common (drop o a.0) (drop o z.0)
front_parting o es a z many h f g =
    let len : length (behind o es) ≡ length es = length_all es in
    front_ends (behind o es) (drop o a.0, a.1) (drop o z.0, z.1) many h
    ∙ ap (λ n. common (get_or (behind o es) 0 (drop o a.0, a.1)).0 (get_or (behind o es) (n - 1) (drop o z.0, z.1)).0) len
    ∙ ap (λ (p : Path). common p.0 (get_or (behind o es) (length es - 1) (drop o z.0, z.1)).0) (at_behind o es 0 a ∙ ap (λ (p : Path). (drop o p.0, p.1)) (sym f))
    ∙ ap (λ (p : Path). common (drop o a.0) p.0) (at_behind o es (length es - 1) z ∙ ap (λ (p : Path). (drop o p.0, p.1)) (sym g))
  where
    length_all : (es : Paths) → length (behind o es) ≡ length es
    length_all [] = refl
    length_all (p ∷ es) = ap suc (length_all es)

pub common_taken : (a b : List ℕ) → take (length (common a b)) a ≡ common a b
common_taken [] b = refl
common_taken (x ∷ a) [] = refl
common_taken (x ∷ a) (y ∷ b) = elim (x == y) as (λ t. take (length (cond t (x ∷ common a b) [])) (x ∷ a) ≡ cond t (x ∷ common a b) []) [ true ↦ ap (λ (r : List ℕ). x ∷ r) (common_taken a b) | false ↦ refl ]

-- an element under another name
pub parting_named : (o end : ℕ) (a b y z : Path) → a ≡ b → y ≡ z → end ≡ o + length (common (drop o b.0) (drop o z.0)) → end ≡ o + length (common (drop o a.0) (drop o y.0))
parting_named o end a b y z f g e = e ∙ (λ i. o + length (common (drop o (sym f i).0) (drop o (sym g i).0)))

pub front_taken : (o : ℕ) (es : Paths) (a z : Path) (end : ℕ) → 2 ≤ length (behind o es) → Rise (behind o es) → a ≡ get_or es 0 a → z ≡ get_or es (length es - 1) z → end ≡ o + length (common (drop o a.0) (drop o z.0)) → take (end - o) (drop o a.0) ≡ front (behind o es)
front_taken o es a z end many h f g e =
    let n : end - o ≡ length (common (drop o a.0) (drop o z.0)) = omega arith in
    ap (λ m. take m (drop o a.0)) n ∙ common_taken (drop o a.0) (drop o z.0) ∙ sym (front_parting o es a z many h f g)

pub cut_taken : (o : ℕ) (es : Paths) (a z : Path) (end : ℕ) → 2 ≤ length (behind o es) → Rise (behind o es) → a ≡ get_or es 0 a → z ≡ get_or es (length es - 1) z → end ≡ o + length (common (drop o a.0) (drop o z.0)) → behind end es ≡ cut (behind o es)
cut_taken o es a z end many h f g e =
    ap (λ n. behind n es) (e ∙ ap (λ (k : List ℕ). o + length k) (sym (front_parting o es a z many h f g))) ∙ sym (behind_behind o (length (front (behind o es))) es)

pub begins_small : (s k : List ℕ) → Begins s k → IsNibbles k → IsNibbles s
begins_small [] k b h = λ i. omega arith
begins_small (x ∷ s) [] b h = absurd b
begins_small (x ∷ s) (y ∷ k) b h = more x s (let low : y < 16 = h 0 in let same : x ≡ y = b.0 in omega arith) (begins_small s k b.1 (λ i. h (suc i)))
  where
    more : (x : ℕ) (s : List ℕ) → x < 16 → IsNibbles s → IsNibbles (x ∷ s)
    more x s low rest zero = low
    more x s low rest (suc i) = rest i

pub front_small : (ps : Paths) → CanWalk ps → IsNibbles (front ps)
front_small [] h = λ i. omega arith
front_small (p ∷ ps) h = begins_small (front (p ∷ ps)) p.0 (front_begins (p ∷ ps)).0 h.small.0

-- ---- only the first key can end
none_ends : (a : List ℕ) (ps : Paths) → AllByRecursion (λ (q : Path). Before a q.0) ps → value_here ps ≡ None
none_ends a [] h = refl
none_ends a (([], v) ∷ ps) h = absurd h.0
none_ends a ((x ∷ k, v) ∷ ps) h = none_ends a ps h.1

pub some_there : (n : ℕ) → false ≡ (n == 0) → 0 < n
some_there zero e = absurd (false≢true e)
some_there (suc n) e = omega arith

pub value_nothing : (o : ℕ) (es ps : Paths) → behind o es ≡ ps → length es ≡ 0 → value_here ps ≡ None
value_nothing o [] ps view e = ap value_here (sym view)
value_nothing o (q ∷ es) ps view e = absurd (omega arith)

pub value_first : (o : ℕ) (es : Paths) (p : Path) → 0 < length es → p ≡ get_or es 0 p → is_some (first (drop o p.0)) ≡ false → value_here (behind o es) ≡ Some p.1
value_first o [] p some is e = absurd (omega arith)
value_first o (q ∷ es) p some is e = ended (drop o q.0) q.1 (ap (λ (r : Path). is_some (first (drop o r.0))) (sym is) ∙ e) ∙ ap (λ (r : Path). Some r.1) (sym is)
  where
    ended : (k v : List ℕ) → is_some (first k) ≡ false → value_here ((k, v) ∷ behind o es) ≡ Some v
    ended [] v e = refl
    ended (x ∷ k) v e = absurd (false≢true (sym e))

pub value_none : (o : ℕ) (es : Paths) (p : Path) → Rise (behind o es) → 0 < length es → p ≡ get_or es 0 p → is_some (first (drop o p.0)) ≡ true → value_here (behind o es) ≡ None
value_none o [] p h some is e = absurd (omega arith)
value_none o (q ∷ es) p h some is e = goes (drop o q.0) q.1 (ap (λ (r : Path). is_some (first (drop o r.0))) (sym is) ∙ e) h.0
  where
    goes : (k v : List ℕ) → is_some (first k) ≡ true → AllByRecursion (λ (r : Path). Before k r.0) (behind o es) → value_here ((k, v) ∷ behind o es) ≡ None
    goes [] v e g = absurd (false≢true e)
    goes (x ∷ k) v e g = none_ends (x ∷ k) (behind o es) g

-- ---- keys in the order of their bytes are in the order of their nibbles
pub heads : (y z : ℕ) (k j : List ℕ) → R (y ∷ k) (z ∷ j) ≡ Less → (y < z) ⊎ ((y ≡ z) × (R k j ≡ Less))
heads y z k j h =
    elim (nat_cmp y z) as (λ r. r ≡ nat_cmp y z → ordering_then r (R k j) ≡ Less → (y < z) ⊎ ((y ≡ z) × (R k j ≡ Less))) [
      | Less ↦ λ e l. inl (ranked y z Less e)
      | Equal ↦ λ e l. inr (ranked y z Equal e, l)
      | Greater ↦ λ e l. absurd (false≢true (ap is_lt l))
    ] refl h

pub nibbles_before : (a b : List ℕ) → R a b ≡ Less → Before (nibbles a) (nibbles b)
nibbles_before [] [] h = absurd (false≢true (ap is_lt h))
nibbles_before [] (y ∷ b) h = tt
nibbles_before (x ∷ a) [] h = absurd (false≢true (ap is_lt h))
nibbles_before (x ∷ a) (y ∷ b) h = elim (heads x y a b h) [
  | inl less ↦ elim (cases_lt (x / 16) (y / 16)) [
    | inl high ↦ inl high
    | inr low ↦ inr (omega arith, inl (omega arith))
  ]
  | inr both ↦ inr (ap (λ b. b / 16) both.0, inr (ap (λ b. b % 16) both.0, nibbles_before a b both.1))
]
