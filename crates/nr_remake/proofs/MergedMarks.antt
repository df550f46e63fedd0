-- What is kept, merged with the new paths, stands for the paths after the change.
use Rattle.std.proofs.Common.{◌≡◌, ◌==◌, ◌≤◌, ℕ, Bool, true, false, cond, List, [], ◌∷◌, ◌++◌, length, refl, sym, ap, subst, ◌∙◌, append_assoc, arith, length-append, inl, inr}
use Rattle.std.specs.Prelude.{◌⊎◌, ◌||◌, ◌&&◌, not, nat_lt}
use Rattle.std.specs.List.{AllByRecursion, filter}
use Rattle.std.proofs.lemmas.Bool.{eqb-true, eqb-false, ltb-true, ltb-false, or_cases, and_parts}
use Rattle.std.proofs.lemmas.List.{append-nil}
use Rattle.nr_triedef.specs.Node.{digest}
use Rattle.nr_triedef.specs.Root.{Paths, under}
use Rattle.nr_store.specs.Tries.{Before, Rise, CanWalk}
use Rattle.nr_walk.specs.declared.searched.Searched.{Searched}
use Rattle.nr_walk.specs.declared.walking.Known.{Known}
use Rattle.nr_walk.specs.declared.walking.Known.TheVariants.{Value, Trie}
use Rattle.nr_walk.specs.declared.walking.Kept.{Kept}
use Rattle.nr_walk.specs.declared.walking.Gain.{Gain}
use Rattle.nr_walk.specs.declared.walking.Gain.TheVariants.{Found, Beside}
use Rattle.nr_walk.specs.Searched.{looks, finds}
use Rattle.nr_walk.specs.Shown.{placed, behind_all, IsTrieKnown, StandsFor, IsBeside, Shows}
use Rattle.nr_walk.proofs.Searches.{not_found}
use Rattle.nr_remake.specs.Marks.{mark, told, IsGroup, Spreads}
use Rattle.nr_remake.specs.Merging.{searched_in, others_of, AreReplaced, kept_in, marks_of, marked, is_before, lower, upper, merge, AllBeside, IsKept}
use Rattle.nr_remake.proofs.Spreading.{first_front, length_placed}

abbrev Path : Type 0
Path = List ℕ × List ℕ

-- ---- the order of paths
irreflexive : (a : List ℕ) → Before a a → ⊥
irreflexive [] h = h
irreflexive (x ∷ a) (inl lt) = absurd (omega arith)
irreflexive (x ∷ a) (inr h) = irreflexive a h.1

asymmetric : (a b : List ℕ) → Before a b → Before b a → ⊥
asymmetric [] [] h g = h
asymmetric [] (y ∷ b) h g = g
asymmetric (x ∷ a) [] h g = h
asymmetric (x ∷ a) (y ∷ b) (inl lt) (inl gt) = absurd (omega arith)
asymmetric (x ∷ a) (y ∷ b) (inl lt) (inr g) = absurd (omega (arith, g.0))
asymmetric (x ∷ a) (y ∷ b) (inr h) (inl gt) = absurd (omega (arith, h.0))
asymmetric (x ∷ a) (y ∷ b) (inr h) (inr g) = asymmetric a b h.1 g.1

longer : (x p r : List ℕ) → Before x p → Before x (p ++ r)
longer x [] r h = absurd h
longer [] (y ∷ p) r h = tt
longer (x ∷ k) (y ∷ p) r (inl lt) = inl lt
longer (x ∷ k) (y ∷ p) r (inr h) = inr (h.0, longer k p r h.1)

-- what stands between two paths that begin with p begins with it
between : (p a b x : List ℕ) → Before (p ++ a) x → Before x (p ++ b) → (s : List ℕ) × (x ≡ p ++ s)
between [] a b x h g = (x, refl)
between (y ∷ p) a b [] h g = absurd h
between (y ∷ p) a b (z ∷ x) (inl lt) (inl gt) = absurd (omega arith)
between (y ∷ p) a b (z ∷ x) (inl lt) (inr g) = absurd (omega (arith, g.0))
between (y ∷ p) a b (z ∷ x) (inr h) (inl gt) = absurd (omega (arith, h.0))
between (y ∷ p) a b (z ∷ x) (inr h) (inr g) =
    let rest = between p a b x h.1 g.1 in
    let first : z ≡ y = g.0 in
    (rest.0, λ i. first i ∷ rest.1 i)

is_before_true : (a b : List ℕ) → is_before a b ≡ true → Before a b
is_before_true [] [] h = absurd cc
is_before_true [] (y ∷ b) h = tt
is_before_true (x ∷ a) [] h = absurd cc
is_before_true (x ∷ a) (y ∷ b) h =
    elim (or_cases (nat_lt x y) ((x == y) && is_before a b) h) [
      | inl e ↦ inl (ltb-true x y e)
      | inr e ↦ let two = and_parts (x == y) (is_before a b) e in inr (eqb-true x y two.0, is_before_true a b two.1)
    ]

is_before_false : (a b : List ℕ) → is_before a b ≡ false → (a ≡ b) ⊎ Before b a
is_before_false [] [] h = inl refl
is_before_false [] (y ∷ b) h = absurd cc
is_before_false (x ∷ a) [] h = inr tt
is_before_false (x ∷ a) (y ∷ b) h =
    elim (nat_lt x y) as (λ t. nat_lt x y ≡ t → (t || ((x == y) && is_before a b)) ≡ false → (x ∷ a ≡ y ∷ b) ⊎ Before (y ∷ b) (x ∷ a)) [
      | true ↦ λ e g. absurd cc
      | false ↦ λ e g. elim (x == y) as (λ t. (x == y) ≡ t → (t && is_before a b) ≡ false → (x ∷ a ≡ y ∷ b) ⊎ Before (y ∷ b) (x ∷ a)) [
        | true ↦ λ f w.
            let same = eqb-true x y f in
            elim (is_before_false a b w) [ inl r ↦ inl (λ i. same i ∷ r i) | inr r ↦ inr (inr (sym same, r)) ]
        | false ↦ λ f w. inr (inl (omega (arith, ltb-false x y e, eqb-false x y f)))
      ] refl g
    ] refl h

-- ---- lists
all_filter : (P : Path → Type 0) (test : Path → Bool) (ps : Paths) → AllByRecursion P ps → AllByRecursion P (filter test ps)
all_filter P test [] h = tt
all_filter P test (p ∷ ps) h = elim (test p) as (λ b. AllByRecursion P (cond b (p ∷ filter test ps) (filter test ps))) [ true ↦ (h.0, all_filter P test ps h.1) | false ↦ all_filter P test ps h.1 ]

all_left : (P : Path → Type 0) (ps qs : Paths) → AllByRecursion P (ps ++ qs) → AllByRecursion P ps
all_left P [] qs h = tt
all_left P (p ∷ ps) qs h = (h.0, all_left P ps qs h.1)

under_filter : (n : ℕ) (f : List ℕ → Bool) (ps : Paths) → under n (filter (λ (p : Path). f p.0) ps) ≡ filter (λ (p : Path). f (n ∷ p.0)) (under n ps)
under_filter n f [] = refl
under_filter n f (([], v) ∷ ps) = elim (f []) as (λ b. under n (cond b (([], v) ∷ filter (λ (p : Path). f p.0) ps) (filter (λ (p : Path). f p.0) ps)) ≡ filter (λ (p : Path). f (n ∷ p.0)) (under n ps)) [ true ↦ under_filter n f ps | false ↦ under_filter n f ps ]
under_filter n f ((x ∷ k, v) ∷ ps) =
    let kept = filter (λ (p : Path). f p.0) ps in
    let found = filter (λ (p : Path). f (n ∷ p.0)) (under n ps) in
    let more : under n kept ≡ found = under_filter n f ps in
    elim (x == n) as (λ t. (x == n) ≡ t → under n (cond (f (x ∷ k)) ((x ∷ k, v) ∷ kept) kept) ≡ filter (λ (p : Path). f (n ∷ p.0)) (cond t ((k, v) ∷ under n ps) (under n ps))) [
      | true ↦ λ e.
          let same : f (x ∷ k) ≡ f (n ∷ k) = ap (λ (y : ℕ). f (y ∷ k)) (eqb-true x n e) in
          let each : (b : Bool) → under n (cond b ((x ∷ k, v) ∷ kept) kept) ≡ cond b ((k, v) ∷ found) found =
          λ b. elim b as (λ c. under n (cond c ((x ∷ k, v) ∷ kept) kept) ≡ cond c ((k, v) ∷ found) found) [
            | true ↦ ap (λ t. cond t ((k, v) ∷ under n kept) (under n kept)) e ∙ ap (λ (qs : Paths). (k, v) ∷ qs) more
            | false ↦ more
          ] in
          ap (λ b. under n (cond b ((x ∷ k, v) ∷ kept) kept)) same ∙ each (f (n ∷ k))
      | false ↦ λ e. elim (f (x ∷ k)) as (λ c. under n (cond c ((x ∷ k, v) ∷ kept) kept) ≡ found) [
        | true ↦ ap (λ t. cond t ((k, v) ∷ under n kept) (under n kept)) e ∙ more
        | false ↦ more
      ]
    ] refl

-- where the test holds of all that begins with a place, the same stands there
same_place : (place : List ℕ) (f : List ℕ → Bool) (ps : Paths) → ((k : List ℕ) → f (place ++ k) ≡ true) → behind_all place (filter (λ (p : Path). f p.0) ps) ≡ behind_all place ps
same_place [] f [] h = refl
same_place [] f (p ∷ ps) h = ap (λ b. cond b (p ∷ filter (λ (p : Path). f p.0) ps) (filter (λ (p : Path). f p.0) ps)) (h p.0) ∙ ap (λ (qs : Paths). p ∷ qs) (same_place [] f ps h)
same_place (x ∷ place) f ps h = ap (behind_all place) (under_filter x f ps) ∙ same_place place (λ k. f (x ∷ k)) (under x ps) h

-- ---- what is kept stands for the paths that aren't searched
others_all : (searched : List Searched) (ps qs : Paths) → AllByRecursion (λ (p : Path). finds searched p.0 ≡ false) ps → others_of searched (ps ++ qs) ≡ ps ++ others_of searched qs
others_all searched [] qs h = refl
others_all searched (p ∷ ps) qs h =
    ap (λ b. cond (not b) (p ∷ others_of searched (ps ++ qs)) (others_of searched (ps ++ qs))) h.0 ∙ ap (λ (rs : Paths). p ∷ rs) (others_all searched ps qs h.1)

pub shows_beside : (searched : List Searched) (top : Paths) (gains : List Gain) (ps : Paths) → Shows searched top gains ps → AllBeside searched top (kept_in gains) (others_of searched ps)
shows_beside searched top [] ps h = ap (others_of searched) h
shows_beside searched top (Found e ∷ gains) ps h =
    let one : ps ≡ (h.adds.path, h.adds.value) ∷ h.others = h.is ∙ ap (λ (qs : Paths). qs ++ h.others) h.adds.is in
    let gone : others_of searched ps ≡ others_of searched h.others =
    ap (others_of searched) one ∙ ap (λ b. cond (not b) ((h.adds.path, h.adds.value) ∷ others_of searched h.others) (others_of searched h.others)) h.adds.found in
    subst (λ (qs : Paths). AllBeside searched top (kept_in gains) qs) (sym gone) (shows_beside searched top gains h.others h.more)
shows_beside searched top (Beside k ∷ gains) ps h =
    record {
      first = h.first;
      others = others_of searched h.others;
      is = ap (others_of searched) h.is ∙ others_all searched h.first h.others h.adds.apart;
      adds = h.adds;
      more = shows_beside searched top gains h.others h.more;
    }

-- ---- where a group stands among the new paths
abbrev AllPlaced : List ℕ → Paths → Type 0
AllPlaced path ps = AllByRecursion (λ (q : Path). (r : List ℕ) × (q.0 ≡ path ++ r)) ps

all_placed : (path : List ℕ) (ps : Paths) → AllPlaced path (placed path ps)
all_placed path [] = tt
all_placed path (p ∷ ps) = ((p.0, refl), all_placed path ps)

kind : (k : Known) (there : Paths) → StandsFor k there → ((v : List ℕ) × (there ≡ ([], v) ∷ [])) ⊎ IsTrieKnown k
kind (Value size hash) there h = inl (h.value, h.is)
kind (Trie hash usage) there h = inr tt

group_length : (searched : List Searched) (top : Paths) (k : Kept) (first : Paths) → IsBeside searched top k first → 1 ≤ length first
group_length searched top k first g = let f = first_front k.known g.there g.known in omega (arith, f.0, length_placed k.path g.there, ap length g.is)

group_placed : (searched : List Searched) (top : Paths) (k : Kept) (first : Paths) → IsBeside searched top k first → AllPlaced k.path first
group_placed searched top k first g = subst (AllPlaced k.path) (sym g.is) (all_placed k.path g.there)

record IsRest (searched : List Searched) (first others ps : Paths) : Type 0 where
  post : Paths
  is : ps ≡ first ++ post
  rest : others_of searched post ≡ others
  same : searched_in searched post ≡ searched_in searched ps
  order : Rise post

-- once a group has begun nothing stands in it
rest_of : (searched : List Searched) (path h a : List ℕ) → h ≡ path ++ a → (first others : Paths) → (1 ≤ length first → (x s : List ℕ) → finds searched x ≡ true → x ≡ path ++ s → ⊥) → (ps : Paths) → Rise ps
    → AllByRecursion (λ (q : Path). Before h q.0) ps → AllPlaced path first → others_of searched ps ≡ first ++ others → IsRest searched first others ps
rest_of searched path h a is [] others bare ps order behind at e = record { post = ps; is = refl; rest = e; same = refl; order = order }
rest_of searched path h a is (f ∷ fs) others bare [] order behind at e = absurd cc
rest_of searched path h a is (f ∷ fs) others bare (g ∷ ps) order behind at e =
    let r = elim (finds searched g.0) as (λ b. finds searched g.0 ≡ b → cond (not b) (g ∷ others_of searched ps) (others_of searched ps) ≡ f ∷ (fs ++ others)
    → (post : Paths) × ((g ∷ ps ≡ f ∷ (fs ++ post)) × ((others_of searched post ≡ others) × ((searched_in searched post ≡ cond b (g ∷ searched_in searched ps) (searched_in searched ps)) × Rise post)))) [
      | true ↦ λ t w.
          let all : AllByRecursion (λ (q : Path). Before g.0 q.0) (f ∷ (fs ++ others)) = subst (λ (qs : Paths). AllByRecursion (λ (q : Path). Before g.0 q.0) qs) w (all_filter (λ (q : Path). Before g.0 q.0) (λ (p : Path). not (finds searched p.0)) ps order.0) in
          let b = between path a at.0.0 g.0 (subst (λ (x : List ℕ). Before x g.0) is behind.0) (subst (λ (x : List ℕ). Before g.0 x) at.0.1 all.0) in
          absurd (bare (omega arith) g.0 b.0 t b.1)
      | false ↦ λ t w.
          let first : g ≡ f = cc in
          let tail : others_of searched ps ≡ fs ++ others = cc in
          let r = rest_of searched path h a is fs others (λ long. bare (omega arith)) ps order.1 behind.1 at.1 tail in
          (r.post, ((λ i. first i ∷ r.is i), (r.rest, (r.same, r.order))))
    ] refl e in
    record { post = r.0; is = r.1.0; rest = r.1.1.0; same = r.1.1.1.0; order = r.1.1.1.1 }

none_lower : (path h a : List ℕ) → h ≡ path ++ a → (ps : Paths) → AllByRecursion (λ (q : Path). Before h q.0) ps → (lower path ps ≡ []) × (upper path ps ≡ ps)
none_lower path h a is [] b = (refl, refl)
none_lower path h a is (x ∷ ps) b =
    let after : is_before x.0 path ≡ false =
    elim (is_before x.0 path) as (λ t. is_before x.0 path ≡ t → t ≡ false) [
      | true ↦ λ e.
          let sooner : Before x.0 h = subst (λ (y : List ℕ). Before x.0 y) (sym is) (longer x.0 path a (is_before_true x.0 path e)) in
          absurd (asymmetric h x.0 b.0 sooner)
      | false ↦ λ e. refl
    ] refl in
    (ap (λ t. cond t (x ∷ lower path ps) []) after, ap (λ t. cond t (upper path ps) (x ∷ ps)) after)

not_after : (searched : List Searched) (path h : List ℕ) (there : Paths) → (h ≡ path) ⊎ Before path h → finds searched h ≡ true → ((v : List ℕ) × (there ≡ ([], v) ∷ [])) ⊎ (looks searched path ≡ false) → 1 ≤ length there
    → AllByRecursion (λ (q : Path). Before h q.0) (placed path there) → ⊥
not_after searched path h [] o t kinds some b = absurd (omega arith)
not_after searched path h (p ∷ there) o t (inl v) some b =
    let same : p.0 ≡ [] = cc in
    let at : Before h path = subst (λ (x : List ℕ). Before h x) (ap (λ (k : List ℕ). path ++ k) same ∙ append-nil path) b.0 in
    elim o [ inl e ↦ irreflexive path (subst (λ (x : List ℕ). Before x path) e at) | inr g ↦ asymmetric h path at g ]
not_after searched path h (p ∷ there) o t (inr shut) some b =
    elim o [
      | inl e ↦
          let f : finds searched (path ++ []) ≡ false = not_found searched path [] shut in
          let same : h ≡ path ++ [] = e ∙ sym (append-nil path) in
          let found : finds searched (path ++ []) ≡ true = ap (finds searched) (sym same) ∙ t in
          absurd cc
      | inr g ↦
          let b = between path [] p.0 h (subst (λ (x : List ℕ). Before x h) (sym (append-nil path)) g) b.0 in
          let f : finds searched (path ++ b.0) ≡ false = not_found searched path b.0 shut in
          let found : finds searched (path ++ b.0) ≡ true = ap (finds searched) (sym b.1) ∙ t in
          absurd cc
    ]

-- a searched path that stands before a group stands before the group's place
stands_before : (searched : List Searched) (top : Paths) (k : Kept) (first others ps : Paths) (h : Path) → IsBeside searched top k first → finds searched h.0 ≡ true → AllByRecursion (λ (q : Path). Before h.0 q.0) ps
    → others_of searched ps ≡ first ++ others → is_before h.0 k.path ≡ true
stands_before searched top k first others ps h g t b e =
    let all : AllByRecursion (λ (q : Path). Before h.0 q.0) first =
    all_left (λ (q : Path). Before h.0 q.0) first others (subst (λ (qs : Paths). AllByRecursion (λ (q : Path). Before h.0 q.0) qs) e (all_filter (λ (q : Path). Before h.0 q.0) (λ (p : Path). not (finds searched p.0)) ps b)) in
    let all_there : AllByRecursion (λ (q : Path). Before h.0 q.0) (placed k.path g.there) = subst (λ (qs : Paths). AllByRecursion (λ (q : Path). Before h.0 q.0) qs) g.is all in
    elim (is_before h.0 k.path) as (λ u. is_before h.0 k.path ≡ u → u ≡ true) [
      | true ↦ λ u. refl
      | false ↦ λ u. absurd (not_after searched k.path h.0 g.there (is_before_false h.0 k.path u) t (elim (kind k.known g.there g.known) [ inl v ↦ inl v | inr w ↦ inr (g.shut w) ]) (first_front k.known g.there g.known).0 all_there)
    ] refl

record IsCut (searched : List Searched) (path : List ℕ) (first others new ps : Paths) : Type 0 where
  post : Paths
  is : ps ≡ lower path new ++ (first ++ post)
  rest : others_of searched post ≡ others
  next : searched_in searched post ≡ upper path new
  order : Rise post

cut_here : (searched : List Searched) (top : Paths) (k : Kept) (first others : Paths) (h : Path) (ps : Paths) → IsBeside searched top k first → 1 ≤ length first → AllPlaced k.path first → Rise (h ∷ ps)
    → h ∷ others_of searched ps ≡ first ++ others → IsCut searched k.path first others (searched_in searched ps) (h ∷ ps)
cut_here searched top k [] others h ps g some at order e = absurd (omega arith)
cut_here searched top k (f ∷ fs) others h ps g some at order e =
    let first : h ≡ f = cc in
    let tail : others_of searched ps ≡ fs ++ others = cc in
    let place : h.0 ≡ k.path ++ at.0.0 = ap (λ (p : Path). p.0) first ∙ at.0.1 in
    let bare : 1 ≤ length fs → (x s : List ℕ) → finds searched x ≡ true → x ≡ k.path ++ s → ⊥ =
    λ long x s t is. elim (kind k.known g.there g.known) [
      | inl v ↦ absurd (omega (arith, ap length v.1, length_placed k.path g.there, ap length g.is))
      | inr w ↦
          let shut : finds searched (k.path ++ s) ≡ false = not_found searched k.path s (g.shut w) in
          let found : finds searched (k.path ++ s) ≡ true = ap (finds searched) (sym is) ∙ t in
          absurd cc
    ] in
    let r = rest_of searched k.path h.0 at.0.0 place fs others bare ps order.1 order.0 at.1 tail in
    let n = none_lower k.path h.0 at.0.0 place (searched_in searched ps) (all_filter (λ (q : Path). Before h.0 q.0) (λ (p : Path). finds searched p.0) ps order.0) in
    record {
      post = r.post;
      is = (λ i. first i ∷ r.is i) ∙ ap (λ (qs : Paths). qs ++ (f ∷ (fs ++ r.post))) (sym n.0);
      rest = r.rest;
      next = r.same ∙ sym n.1;
      order = r.order;
    }

cut_at : (searched : List Searched) (top : Paths) (k : Kept) (first others : Paths) → IsBeside searched top k first → (ps : Paths) → Rise ps → others_of searched ps ≡ first ++ others
    → IsCut searched k.path first others (searched_in searched ps) ps
cut_at searched top k first others g [] order e = absurd (omega (arith, ap length e, length-append first others, group_length searched top k first g))
cut_at searched top k first others g (h ∷ ps) order e =
    elim (finds searched h.0) as (λ b. finds searched h.0 ≡ b → cond (not b) (h ∷ others_of searched ps) (others_of searched ps) ≡ first ++ others
    → IsCut searched k.path first others (cond b (h ∷ searched_in searched ps) (searched_in searched ps)) (h ∷ ps)) [
      | true ↦ λ t w.
          let c = cut_at searched top k first others g ps order.1 w in
          let less : is_before h.0 k.path ≡ true = stands_before searched top k first others ps h g t order.0 w in
          record {
            post = c.post;
            is =
                ap (λ (qs : Paths). h ∷ qs) c.is
                ∙ ap (λ u. cond u (h ∷ lower k.path (searched_in searched ps)) [] ++ (first ++ c.post)) (sym less);
            rest = c.rest;
            next = c.next ∙ ap (λ u. cond u (upper k.path (searched_in searched ps)) (h ∷ searched_in searched ps)) (sym less);
            order = c.order;
          }
      | false ↦ λ t w. cut_here searched top k first others h ps g (group_length searched top k first g) (group_placed searched top k first g) order w
    ] refl e

-- ---- all of them
pub told_mark : (k : Known) → told (mark k) ≡ k
told_mark (Value size hash) = refl
told_mark (Trie hash usage) = refl

spread_values : (all ps : Paths) → Spreads all (marked ps) ps
spread_values all [] = refl
spread_values all (p ∷ ps) =
    record {
      first = p ∷ [];
      others = ps;
      is = refl;
      adds = record {
        there = ([], p.1) ∷ [];
        is = ap (λ (k : List ℕ). (k, p.1) ∷ []) (sym (append-nil p.0));
        known = record { value = p.1; is = refl; size_is = refl; hash_is = refl };
        closed = λ t. absurd t;
      };
      more = spread_values all ps;
    }

Spreads-append : (all marks more ps qs : Paths) → Spreads all marks ps → Spreads all more qs → Spreads all (marks ++ more) (ps ++ qs)
Spreads-append all [] more ps qs h g = subst (λ (rs : Paths). Spreads all more (rs ++ qs)) (sym h) g
Spreads-append all (m ∷ marks) more ps qs h g =
    record { first = h.first; others = h.others ++ qs; is = ap (λ (rs : Paths). rs ++ qs) h.is ∙ append_assoc h.first h.others qs; adds = h.adds; more = Spreads-append all marks more h.others qs h.more g }

lower-marked : (path : List ℕ) (ps : Paths) → lower path (marked ps) ≡ marked (lower path ps)
lower-marked path [] = refl
lower-marked path (p ∷ ps) =
    elim (is_before p.0 path) as (λ b. cond b ((p.0, mark (Value (length p.1) (digest p.1))) ∷ lower path (marked ps)) [] ≡ marked (cond b (p ∷ lower path ps) [])) [
      | true ↦ ap (λ (qs : Paths). (p.0, mark (Value (length p.1) (digest p.1))) ∷ qs) (lower-marked path ps)
      | false ↦ refl
    ]

upper-marked : (path : List ℕ) (ps : Paths) → upper path (marked ps) ≡ marked (upper path ps)
upper-marked path [] = refl
upper-marked path (p ∷ ps) =
    elim (is_before p.0 path) as (λ b. cond b (upper path (marked ps)) (marked (p ∷ ps)) ≡ marked (cond b (upper path ps) (p ∷ ps))) [ true ↦ upper-marked path ps | false ↦ refl ]

all_searched : (searched : List Searched) (ps : Paths) → others_of searched ps ≡ [] → searched_in searched ps ≡ ps
all_searched searched [] h = refl
all_searched searched (p ∷ ps) h =
    elim (finds searched p.0) as (λ b. cond (not b) (p ∷ others_of searched ps) (others_of searched ps) ≡ [] → cond b (p ∷ searched_in searched ps) (searched_in searched ps) ≡ p ∷ ps) [
      | true ↦ λ e. ap (λ (qs : Paths). p ∷ qs) (all_searched searched ps e)
      | false ↦ λ e. absurd cc
    ] h

group_is : (searched : List Searched) (top all : Paths) (k : Kept) (first : Paths) → ((place : List ℕ) → looks searched place ≡ false → behind_all place all ≡ behind_all place top) → IsBeside searched top k first
    → IsGroup all (k.path, mark k.known) first
group_is searched top all k first same g =
    record {
      there = g.there;
      is = g.is;
      known = subst (λ (x : Known). StandsFor x g.there) (sym (told_mark k.known)) g.known;
      closed = λ t.
          let w : IsTrieKnown k.known = subst IsTrieKnown (told_mark k.known) t in
          let e : length (behind_all k.path all) ≡ length g.there = ap length (same k.path (g.shut w) ∙ g.closed w) in
          omega arith;
    }

merged_all : (searched : List Searched) (top all : Paths) → ((place : List ℕ) → looks searched place ≡ false → behind_all place all ≡ behind_all place top) → (ks : List Kept) (others ps : Paths) → Rise ps
    → others_of searched ps ≡ others → AllBeside searched top ks others → Spreads all (merge (marks_of ks) (marked (searched_in searched ps))) ps
merged_all searched top all same [] others ps order e h =
    let whole = all_searched searched ps (e ∙ h) in
    subst (λ (qs : Paths). Spreads all (marked qs) ps) (sym whole) (spread_values all ps)
merged_all searched top all same (k ∷ ks) others ps order e h =
    let new = searched_in searched ps in
    let c = cut_at searched top k h.first h.others h.adds ps order (e ∙ h.is) in
    let more : Spreads all (merge (marks_of ks) (marked (upper k.path new))) c.post =
    subst (λ (qs : Paths). Spreads all (merge (marks_of ks) (marked qs)) c.post) c.next (merged_all searched top all same ks h.others c.post c.order c.rest h.more) in
    let marks = (k.path, mark k.known) ∷ merge (marks_of ks) (upper k.path (marked new)) in
    let behind : Spreads all marks (h.first ++ c.post) =
    record {
      first = h.first;
      others = c.post;
      is = refl;
      adds = group_is searched top all k h.first same h.adds;
      more = subst (λ (qs : Paths). Spreads all (merge (marks_of ks) qs) c.post) (sym (upper-marked k.path new)) more;
    } in
    let front : Spreads all (lower k.path (marked new)) (lower k.path new) = subst (λ (qs : Paths). Spreads all qs (lower k.path new)) (sym (lower-marked k.path new)) (spread_values all (lower k.path new)) in
    subst (λ (qs : Paths). Spreads all (lower k.path (marked new) ++ marks) qs) (sym c.is) (Spreads-append all (lower k.path (marked new)) marks (lower k.path new) (h.first ++ c.post) front behind)

same_below : (searched : List Searched) (ps new : Paths) → AreReplaced searched ps new → (place : List ℕ) → looks searched place ≡ false → behind_all place new ≡ behind_all place ps
same_below searched ps new r place h =
    let none : (k : List ℕ) → not (finds searched (place ++ k)) ≡ true = λ k. ap not (not_found searched place k h) in
    sym (same_place place (λ k. not (finds searched k)) new none) ∙ ap (behind_all place) r ∙ same_place place (λ k. not (finds searched k)) ps none

pub kept_merged : (searched : List Searched) (ks : List Kept) (ps new : Paths) → IsKept searched ps ks → CanWalk new → AreReplaced searched ps new → Spreads new (merge (marks_of ks) (marked (searched_in searched new))) new
kept_merged searched ks ps new h w r = merged_all searched ps new (same_below searched ps new r) ks (others_of searched ps) new w.order r h
