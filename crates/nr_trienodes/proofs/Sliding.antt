-- Nodes that are slid to lower places under new names.
use Rattle.std.proofs.Common.{◌≡◌, ◌≢◌, ◌<◌, ◌≤◌, ◌+◌, ℕ, zero, suc, true, false, cond, List, [], ◌∷◌, length, take, map, get_or, set, Option, Some, None, refl, ap, sym, ◌∙◌, subst, inl, inr, add-one, arith}
use mathlib.Core.Bool.{false≢true}
use Rattle.std.specs.Prelude.{is_some, count_by, ◌⊎◌}
use Rattle.std.proofs.Math.Nat.{eq-or-lt_of_le}
use Rattle.std.proofs.lemmas.List.{length-set, get_or-set_same, get_or-set_other, get_or_default}
use Rattle.std.proofs.lemmas.List.Sums.{sum_by-cons}
use Rattle.nr_trienodes.specs.Shape.{Shape, shape_at, child}
use Rattle.nr_trienodes.specs.Naming.{Names, new_name, renamed, with_names, HaveOwn, IsKept, IsNamed, AreNamed, IsClosed, IsSlid, Slides}
use Rattle.nr_trienodes.specs.Roots.{AreOldestKept}
use Rattle.std.specs.List.{SwappedAt}
use Rattle.std.proofs.lemmas.List.{length-take, get_or-take}
use Rattle.nr_trienodes.specs.Views.{shape, shapes, Sound}
use Rattle.nr_trienodes.specs.declared.nodes.Node.{Node}
use Rattle.nr_trienodes.proofs.Folds.{Back}
use Rattle.nr_trienodes.proofs.Renaming.{old_child}
use Rattle.nr_trienodes.proofs.Sounds.{back_sound}
use Rattle.nr_trienodes.proofs.Views.{shapes_at, shapes-length}

-- names that are the same at the children make the same node
names_same : (a b : Names) (s : Shape) → ((x c : ℕ) → child s.below x ≡ Some c → new_name a c ≡ new_name b c) → with_names a s ≡ with_names b s
names_same a b s same = ap (λ (cs : List (Option ℕ)). record s { below = cs }) (each s.below same)
  where
    each : (cs : List (Option ℕ)) → ((x c : ℕ) → child cs x ≡ Some c → new_name a c ≡ new_name b c) → map (renamed a) cs ≡ map (renamed b) cs
    each [] h = refl
    each (None ∷ cs) h = ap (λ (t : List (Option ℕ)). None ∷ t) (each cs (λ x c e. h (suc x) c e))
    each (Some c ∷ cs) h = (λ i. h 0 c refl i ∷ each cs (λ x d e. h (suc x) d e) i)

count_take : (marks : Names) (n : ℕ) → n < length marks → count_by is_some (take (suc n) marks) ≡ count_by is_some (take n marks) + cond (is_some (new_name marks n)) 1 0
count_take [] n lt = absurd (omega arith)
count_take (x ∷ marks) zero lt = omega (arith, sum_by-cons (λ (o : Option ℕ). cond {A = ℕ} (is_some o) 1 0) x [])
count_take (x ∷ marks) (suc n) lt = omega (arith, sum_by-cons (λ (o : Option ℕ). cond {A = ℕ} (is_some o) 1 0) x (take (suc n) marks), sum_by-cons (λ (o : Option ℕ). cond {A = ℕ} (is_some o) 1 0) x (take n marks), count_take marks n (omega arith))

same_of : {A : Type 0} (a b : A) (o : Option A) → o ≡ Some a → o ≡ Some b → a ≡ b
same_of a b o e f = cc

-- names of their own change nothing
names_own : (names : Names) (s : Shape) → ((x c : ℕ) → child s.below x ≡ Some c → new_name names c ≡ Some c) → with_names names s ≡ s
names_own names s own = ap (λ (cs : List (Option ℕ)). record s { below = cs }) (each s.below own)
  where
    each : (cs : List (Option ℕ)) → ((x c : ℕ) → child cs x ≡ Some c → new_name names c ≡ Some c) → map (renamed names) cs ≡ cs
    each [] h = refl
    each (None ∷ cs) h = ap (λ (t : List (Option ℕ)). None ∷ t) (each cs (λ x c e. h (suc x) c e))
    each (Some c ∷ cs) h = (λ i. h 0 c refl i ∷ each cs (λ x d e. h (suc x) d e) i)

own_shape : (nodes : List Shape) (names : Names) (oldest id : ℕ) → Back nodes → HaveOwn names oldest → id < oldest → id < length nodes → with_names names (shape_at nodes id) ≡ shape_at nodes id
own_shape nodes names oldest id back own low lt = names_own names (shape_at nodes id) (λ x c e. let less : c < id = back id lt x c e in own c (omega arith))

-- where the first nodes are all kept, there are as many
count_kept : (marks : Names) (n : ℕ) → n ≤ length marks → ((id : ℕ) → id < n → IsKept marks id) → count_by is_some (take n marks) ≡ n
count_kept marks zero le kept = refl
count_kept marks (suc n) le kept =
    let one : cond {A = ℕ} (is_some (new_name marks n)) 1 0 ≡ 1 = ap (λ b. cond {A = ℕ} b 1 0) (kept n (omega arith)) in
    omega (arith, count_take marks n (omega arith), one, count_kept marks n (omega arith) (λ id lt. kept id (omega arith)))

-- the oldest nodes stay
pub slides_start : (nodes : List Shape) (marks : Names) (oldest : ℕ) → Sound nodes → length marks ≡ length nodes → oldest ≤ length nodes → HaveOwn marks oldest → Slides nodes marks nodes marks oldest oldest
slides_start nodes marks oldest sound long le own = record {
  within = omega arith;
  many = sym (count_kept marks oldest (omega arith) (λ id lt. ap is_some (own id lt)));
  same = refl;
  long = refl;
  named = λ c name lt e.
      let is : name ≡ c = same_of name c (new_name marks c) e (own c lt) in
      (omega arith, ap (shape_at nodes) is ∙ sym (own_shape nodes marks oldest c (back_sound nodes sound) own lt (omega arith)));
  onto = λ name lt. (name, lt, own name lt);
  rise = λ c d m n less lt e f.
      let low : c < oldest = omega arith in
      let first : m ≡ c = same_of m c (new_name marks c) e (own c low) in
      let second : n ≡ d = same_of n d (new_name marks d) f (own d lt) in
      omega arith;
  kept = λ c lt. refl;
  marked = λ c le. refl;
  rest = λ i le lt. refl;
}

-- behind nodes that all have their own names the next name is a node's own
pub own_next : (nodes : List Shape) (marks : Names) (now : List Shape) (names : Names) (id next : ℕ) → id ≤ length marks → Slides nodes marks now names id next → HaveOwn names id → next ≡ id
own_next nodes marks now names id next le h own = h.many ∙ count_kept marks id le (λ c lt. sym (h.kept c lt) ∙ ap is_some (own c lt))

-- under names of their own nodes are what they were
pub oldest_kept : (old new : List Shape) (names : Names) (oldest : ℕ) → Sound old → AreNamed names old new → HaveOwn names oldest → AreOldestKept old new oldest
oldest_kept old new names oldest sound are own id low lt =
    let it : IsNamed names old new id id = are.each id id lt (own id low) in
    (it.there, it.shape ∙ own_shape old names oldest id (back_sound old sound) own low lt)

-- a node that isn't kept
pub slides_passed : (nodes : List Shape) (marks : Names) (now : List Shape) (names : Names) (id next : ℕ) → id < length marks → Slides nodes marks now names id next → is_some (new_name names id) ≡ false → Slides nodes marks now names (id + 1) next
slides_passed nodes marks now names id next lt h none = subst (λ n. Slides nodes marks now names n next) (sym (add-one id)) (record {
  within = omega (arith, h.within);
  many = h.many ∙ sym (omega (arith, count_take marks id lt, none_here));
  same = h.same;
  long = h.long;
  named = λ c name less e. elim (before c less) as (λ _. (name < next) × (shape_at now name ≡ with_names names (shape_at nodes c))) [ inl is ↦ absurd (not_here c is name e) | inr l ↦ h.named c name l e ];
  onto = λ name less. let c = h.onto name less in let below : c.0 < id = c.1 in (c.0, omega arith, c.2);
  rise = λ c d m n less l e f. elim (before d l) as (λ _. m < n) [ inl is ↦ absurd (not_here d is n f) | inr k ↦ h.rise c d m n less k e f ];
  kept = λ c less. elim (before c less) as (λ _. is_some (new_name names c) ≡ is_some (new_name marks c)) [ inl is ↦ ap is_some (h.marked c (omega arith)) | inr l ↦ h.kept c l ];
  marked = λ c le. h.marked c (omega arith);
  rest = λ i le l. h.rest i (omega arith) l;
})
  where
    before : (c : ℕ) → c < suc id → (c ≡ id) ⊎ (c < id)
    before c l = eq-or-lt_of_le (omega arith)

    not_here : (c : ℕ) → c ≡ id → (name : ℕ) → new_name names c ≡ Some name → ⊥
    not_here c is name e = false≢true (sym none ∙ ap (λ i. is_some (new_name names i)) (sym is) ∙ ap is_some e)

    none_here : cond {A = ℕ} (is_some (new_name marks id)) 1 0 ≡ 0
    none_here = ap (λ b. cond {A = ℕ} b 1 0) (ap is_some (sym (h.marked id (omega arith))) ∙ none)

-- a node that is kept
pub slides_on : (nodes : List Shape) (marks : Names) (now new : List Shape) (names : Names) (id next : ℕ) → Back nodes
    → length marks ≡ length nodes → id < length nodes → Slides nodes marks now names id next
    → is_some (new_name names id) ≡ true → IsSlid (set names id (Some next)) now new id next
    → Slides nodes marks new (set names id (Some next)) (id + 1) (next + 1)
slides_on nodes marks now new names id next back long lt h some slid = subst (λ n. Slides nodes marks new (set names id (Some next)) n (next + 1)) (sym (add-one id)) (record {
  within = omega (arith, h.within);
  many = omega (arith, h.many, count_take marks id (omega arith), one_here);
  same = slid.same ∙ h.same;
  long = length-set names id (Some next) ∙ h.long;
  named = λ c name less e. elim (before c less) as (λ _. (name < next + 1) × (shape_at new name ≡ with_names (set names id (Some next)) (shape_at nodes c))) [
    | inl is ↦
        let same : name ≡ next = same_of name next (new_name (set names id (Some next)) id) (ap (new_name (set names id (Some next))) (sym is) ∙ e) at_id in
        (omega arith, ap (shape_at new) same ∙ slid.here ∙ ap (with_names (set names id (Some next))) (h.rest id (omega arith) lt ∙ ap (shape_at nodes) (sym is)))
    | inr l ↦
        let old = h.named c name l (sym (at_other c (λ is. omega arith)) ∙ e) in
        let low : name < next = old.0 in (
          omega arith,
          slid.others name (omega (arith, h.within, h.same)) (λ is. omega (arith, h.within)) (λ is. omega arith)
              ∙ old.1
              ∙ names_same names (set names id (Some next)) (shape_at nodes c) (λ x d f. let less : d < c = back c (omega arith) x d f in sym (at_other d (λ is. omega arith))),
        )
  ];
  onto = λ name less. elim (eq-or-lt_of_le (low name less)) as (λ _. (c : ℕ) × (c < suc id) × (new_name (set names id (Some next)) c ≡ Some name)) [
    | inl is ↦ (id, omega arith, at_id ∙ ap (λ (n : ℕ). Some n) (sym is))
    | inr l ↦ let c = h.onto name l in let below : c.0 < id = c.1 in (c.0, omega arith, at_other c.0 (λ is. omega arith) ∙ c.2)
  ];
  rise = λ c d m n less l e f. elim (before d l) as (λ _. m < n) [
    | inl is ↦
        let low : c < id = omega arith in
        let old = h.named c m low (sym (at_other c (λ s. omega arith)) ∙ e) in
        let below : m < next = old.0 in
        let same : n ≡ next = same_of n next (new_name (set names id (Some next)) id) (ap (new_name (set names id (Some next))) (sym is) ∙ f) at_id in
        omega arith
    | inr k ↦ h.rise c d m n less k (sym (at_other c (λ s. omega arith)) ∙ e) (sym (at_other d (λ s. omega arith)) ∙ f)
  ];
  kept = λ c less. elim (before c less) as (λ _. is_some (new_name (set names id (Some next)) c) ≡ is_some (new_name marks c)) [
    | inl is ↦ ap (λ i. is_some (new_name (set names id (Some next)) i)) is ∙ ap is_some at_id ∙ sym some ∙ ap is_some (h.marked id (omega arith)) ∙ ap (λ i. is_some (new_name marks i)) (sym is)
    | inr l ↦ ap is_some (at_other c (λ s. omega arith)) ∙ h.kept c l
  ];
  marked = λ c le. at_other c (λ s. omega arith) ∙ h.marked c (omega arith);
  rest = λ i le l. slid.others i (omega (arith, h.same)) (λ s. omega arith) (λ s. omega (arith, h.within)) ∙ h.rest i (omega arith) l;
})
  where
    before : (c : ℕ) → c < suc id → (c ≡ id) ⊎ (c < id)
    before c l = eq-or-lt_of_le (omega arith)

    low : (name : ℕ) → name < next + 1 → name ≤ next
    low name l = omega arith

    at_id : new_name (set names id (Some next)) id ≡ Some next
    at_id = get_or-set_same names id (Some next) None (omega (arith, h.long))

    at_other : (c : ℕ) → c ≢ id → new_name (set names id (Some next)) c ≡ new_name names c
    at_other c ne = get_or-set_other names id c (Some next) None ne

    one_here : cond {A = ℕ} (is_some (new_name marks id)) 1 0 ≡ 1
    one_here = ap (λ b. cond {A = ℕ} b 1 0) (ap is_some (sym (h.marked id (omega arith))) ∙ some)

-- all of them
pub slides_named : (nodes : List Shape) (marks : Names) (now new : List Shape) (names : Names) (next : ℕ) → Back nodes → length marks ≡ length nodes → IsClosed nodes marks 0 → Slides nodes marks now names (length nodes) next → length new ≡ next → ((i : ℕ) → i < next → shape_at new i ≡ shape_at now i) → AreNamed names nodes new
slides_named nodes marks now new names next back long closed h len same = record {
  each = λ id name lt e.
      let it = h.named id name lt e in
      let less : name < next = it.0 in
      record {
        there = omega arith;
        shape = same name less ∙ it.1;
        below = λ x c f.
            let older : c < id = back id lt x c f in
            let first : c < length nodes = omega arith in
            let kept : is_some (new_name names c) ≡ true = h.kept c first ∙ closed id (omega arith) lt (sym (h.kept id lt) ∙ ap is_some e) x c f in
            some_name (new_name names c) refl kept (λ k g. h.rise c id k name older lt g e);
      };
  onto = λ name lt. h.onto name (omega arith);
}
  where
    some_name : {P : ℕ → Type 0} {o : Option ℕ} (q : Option ℕ) → o ≡ q → is_some q ≡ true → ((k : ℕ) → o ≡ Some k → P k) → (k : ℕ) × (o ≡ Some k) × P k
    some_name None is some f = absurd (false≢true some)
    some_name (Some k) is some f = (k, is, f k is)

-- children that are older than a node have names below the next one
pub low_names : (names now : Names) (cs : List (Option ℕ)) (id next : ℕ) → now ≡ set names id (Some next)
    → ((x c : ℕ) → child cs x ≡ Some c → c < id) → ((c name : ℕ) → c < id → new_name names c ≡ Some name → name < next)
    → (x name : ℕ) → child (map (renamed now) cs) x ≡ Some name → name < next
low_names names now cs id next is older low x name e =
    let old = old_child now cs x name e in
    let less : old.0 < id = older x old.0 old.1 in
    low old.0 name less
    (sym (ap (λ (t : Names). new_name t old.0) is ∙ get_or-set_other names id old.0 (Some next) None (λ same. omega arith))
    ∙ old.2)

-- ---- a node moved
pub moved : (nodes new : List Node) (id to : ℕ) (n m : Node) (names : Names) → id < length nodes → to ≤ id → n ≡ get_or nodes id n → shape m ≡ with_names names (shape n) → SwappedAt (set nodes id m) new to id → IsSlid names (shapes nodes) (shapes new) id to
moved nodes new id to n m names lt le e is swapped =
    let len : length new ≡ length nodes = ap length (swapped.3 m) ∙ length-set (set (set nodes id m) to (get_or (set nodes id m) id m)) id (get_or (set nodes id m) to m) ∙ length-set (set nodes id m) to (get_or (set nodes id m) id m) ∙ length-set nodes id m in
    record {
      same = shapes-length new ∙ len ∙ sym (shapes-length nodes);
      here = shapes_at new to m (omega arith) (sym (swapped.0 m ∙ get_or-set_same nodes id m m lt)) ∙ is ∙ ap (with_names names) (sym (shapes_at nodes id n lt e));
      others = λ i less ne no_to. each i (omega (arith, shapes-length nodes)) len ne no_to;
    }
  where
    each : (i : ℕ) → i < length nodes → length new ≡ length nodes → i ≢ id → i ≢ to → shape_at (shapes new) i ≡ shape_at (shapes nodes) i
    each i less len ne other =
        let x : Node = get_or nodes i m in
        let old : x ≡ get_or nodes i x = get_or_default nodes i m x less in
        let now : x ≡ get_or new i x = old ∙ sym (swapped.2 i x other ne ∙ get_or-set_other nodes id i m x ne) in
        shapes_at new i x (omega arith) now ∙ sym (shapes_at nodes i x less old)

-- ---- the first nodes alone
pub shape_take : (nodes taken : List Node) (n i : ℕ) → taken ≡ take n nodes → n ≤ length nodes → i < n → shape_at (shapes taken) i ≡ shape_at (shapes nodes) i
shape_take [] taken n i e le lt = absurd (omega arith)
shape_take (m ∷ nodes) taken n i e le lt =
    let x : Node = get_or (m ∷ nodes) i m in
    let first : i < length (m ∷ nodes) = omega arith in
    let old : x ≡ get_or (m ∷ nodes) i x = get_or_default (m ∷ nodes) i m x first in
    let len : length taken ≡ n = ap length e ∙ omega (arith, length-take n (m ∷ nodes)) in
    let now : x ≡ get_or taken i x = old ∙ sym (ap (λ (t : List Node). get_or t i x) e ∙ get_or-take n (m ∷ nodes) i x lt) in
    shapes_at taken i x (omega arith) now ∙ sym (shapes_at (m ∷ nodes) i x first old)

pub slides_end : (before nodes taken : List Node) (marks names : Names) (id next : ℕ) → Sound (shapes before)
    → length marks ≡ length (shapes before) → IsClosed (shapes before) marks 0
    → Slides (shapes before) marks (shapes nodes) names id next → id ≡ length (shapes before)
    → taken ≡ take next nodes → AreNamed names (shapes before) (shapes taken)
slides_end before nodes taken marks names id next sound long closed h e is =
    let all : Slides (shapes before) marks (shapes nodes) names (length (shapes before)) next = subst (λ n. Slides (shapes before) marks (shapes nodes) names n next) e h in
    let le : next ≤ length nodes = omega (arith, h.within, h.same, shapes-length nodes) in
    slides_named (shapes before) marks (shapes nodes) (shapes taken) names next (back_sound (shapes before) sound) long closed all
    (shapes-length taken ∙ ap length is ∙ omega (arith, length-take next nodes))
    (λ i lt. shape_take nodes taken next i is le lt)
