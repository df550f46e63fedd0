-- A change of one key: what a node stands for with another value, with another child, and split in two.
use Rattle.std.proofs.Common.{◌≡◌, ◌≢◌, ◌==◌, ◌<◌, ◌≤◌, ◌++◌, ℕ, zero, suc, true, false, List, [], ◌∷◌, length, set, map, replicate, Option, Some, None, refl, ap, sym, ◌∙◌, subst, eq-eqb, length-append, append_assoc, arith}
use Rattle.std.specs.Option.{option_map}
use Rattle.std.proofs.lemmas.Bool.{eqb-true}
use Rattle.nr_trienodes.specs.Shape.{Shape, no_children, child, shape_at, fold}
use Rattle.nr_trienodes.specs.Tries.{Answer, nothing, answer, stripped, asked, given, found, found_in}
use Rattle.nr_trienodes.specs.Turns.{Sets, Extends, stands_for}
use Rattle.nr_trienodes.proofs.Folds.{not_same, shape_append, fold_append, fold_newest, child-map}
use Rattle.nr_trienodes.proofs.Keys.{stripped_is}

pub stripped_one : (p k q r : List ℕ) → stripped p k ≡ Some r → stripped p q ≡ Some r → q ≡ k
stripped_one p k q r e f = stripped_is p q r f ∙ sym (stripped_is p k r e)

pub stripped_self : (p : List ℕ) → stripped p p ≡ Some []
stripped_self [] = refl
stripped_self (x ∷ p) = rw (eq-eqb x x refl) (stripped_self p)

-- ---- arenas that grow
pub extends_refl : (nodes : List Shape) → Extends nodes nodes
extends_refl nodes = record { more = []; is = refl }

pub extends_one : (old new : List Shape) (s : Shape) → new ≡ s ∷ old → Extends old new
extends_one old new s e = record { more = s ∷ []; is = e }

pub extends_trans : (a b c : List Shape) → Extends a b → Extends b c → Extends a c
extends_trans a b c h k = record { more = k.more ++ h.more; is = k.is ∙ ap (λ (l : List Shape). k.more ++ l) h.is ∙ sym (append_assoc k.more h.more a) }

pub extends_longer : (old new : List Shape) → Extends old new → length old ≤ length new
extends_longer old new h = omega (arith, ap length h.is, length-append h.more old)

pub extends_shape : (old new : List Shape) (id : ℕ) → Extends old new → id < length old → shape_at new id ≡ shape_at old id
extends_shape old new id h lt = ap (λ (l : List Shape). shape_at l id) h.is ∙ shape_append h.more old id lt

pub extends_fold : {A : Type 0} (f : Shape → List (Option A) → A) (none : A) (old new : List Shape) (id : ℕ) → Extends old new → id < length old → fold f none new id ≡ fold f none old id
extends_fold f none old new id h lt = ap (λ (l : List Shape). fold f none l id) h.is ∙ fold_append f none h.more old id lt

-- ---- children
pub child-set : (cs : List (Option ℕ)) (x : ℕ) (c : Option ℕ) → x < length cs → child (set cs x c) x ≡ c
child-set [] x c lt = absurd (omega arith)
child-set (d ∷ cs) zero c lt = refl
child-set (d ∷ cs) (suc x) c lt = child-set cs x c (omega arith)

pub child-set_other : (cs : List (Option ℕ)) (x : ℕ) (c : Option ℕ) (y : ℕ) → y ≢ x → child (set cs x c) y ≡ child cs y
child-set_other [] x c y ne = refl
child-set_other (d ∷ cs) zero c zero ne = absurd (ne refl)
child-set_other (d ∷ cs) zero c (suc y) ne = refl
child-set_other (d ∷ cs) (suc x) c zero ne = refl
child-set_other (d ∷ cs) (suc x) c (suc y) ne = child-set_other cs x c y (λ same. ne (ap suc same))

pub child-none : (n x : ℕ) → child {A = ℕ} (replicate n None) x ≡ None
child-none zero x = refl
child-none (suc n) zero = refl
child-none (suc n) (suc x) = child-none n x

-- what a child answers
abbrev pub asked_in : List Shape → Option ℕ → Answer
asked_in nodes c key = asked (option_map (found nodes) c) key

pub asked_found : (nodes : List Shape) (c : Option ℕ) (key : List ℕ) → asked_in nodes c key ≡ found_in nodes c key
asked_found nodes None key = refl
asked_found nodes (Some c) key = refl

pub given_on : (nodes : List Shape) (value : Option (List ℕ)) (below : List (Option ℕ)) (x : ℕ) (rest : List ℕ) → given value (map (option_map (found nodes)) below) (Some (x ∷ rest)) ≡ found_in nodes (child below x) rest
given_on nodes value below x rest = ap (λ (o : Option Answer). asked o rest) (child-map (found nodes) below x) ∙ asked_found nodes (child below x) rest

-- ---- another value
valued_other : (f : List (Option Answer)) (v w : Option (List ℕ)) (m : Option (List ℕ)) → m ≢ Some [] → given w f m ≡ given v f m
valued_other f v w None ne = refl
valued_other f v w (Some []) ne = absurd (ne refl)
valued_other f v w (Some (x ∷ q)) ne = refl

pub sets_value : (nodes : List Shape) (part : List ℕ) (v w : Option (List ℕ)) (below : List (Option ℕ)) (key : List ℕ) → stripped part key ≡ Some [] → Sets (stands_for nodes part v below) (stands_for nodes part w below) key w
sets_value nodes part v w below key e =
    record {
      here = ap (given w (map (option_map (found nodes)) below)) e;
      other = λ q ne. valued_other (map (option_map (found nodes)) below) v w (stripped part q) (λ h. ne (stripped_one part key q [] e h));
    }

-- ---- another child
childed_other : (old new : List Shape) (value : Option (List ℕ)) (below : List (Option ℕ)) (x : ℕ) (c : Option ℕ)
    (rest : List ℕ) (m : Option (List ℕ)) → x < length below
    → ((d : ℕ) (q : List ℕ) → ((y : ℕ) × (child below y ≡ Some d)) → found new d q ≡ found old d q)
    → ((r : List ℕ) → r ≢ rest → found_in new c r ≡ found_in old (child below x) r) → m ≢ Some (x ∷ rest)
    → given value (map (option_map (found new)) (set below x c)) m ≡ given value (map (option_map (found old)) below) m
childed_other old new value below x c rest None lt same other ne = refl
childed_other old new value below x c rest (Some []) lt same other ne = refl
childed_other old new value below x c rest (Some (y ∷ r)) lt same other ne =
    given_on new value (set below x c) y r
    ∙ elim (y == x) as (λ b. (y == x) ≡ b → found_in new (child (set below x c) y) r ≡ found_in old (child below y) r) [
      | true ↦ λ e.
          let eq : y ≡ x = eqb-true y x e in
          subst (λ z. found_in new (child (set below x c) z) r ≡ found_in old (child below z) r) (sym eq) (ap (λ o. found_in new o r) (child-set below x c lt) ∙ other r (λ h. ne (λ i. Some (eq i ∷ h i))))
      | false ↦ λ e. ap (λ o. found_in new o r) (child-set_other below x c y (not_same y x e)) ∙ each (child below y) (λ d f. same d r (y, f))
    ] refl
    ∙ sym (given_on old value below y r)
  where
    each : (o : Option ℕ) → ((d : ℕ) → o ≡ Some d → found new d r ≡ found old d r) → found_in new o r ≡ found_in old o r
    each None h = refl
    each (Some d) h = h d refl

pub sets_child : (old new : List Shape) (part : List ℕ) (value : Option (List ℕ)) (below : List (Option ℕ)) (x : ℕ)
    (c : Option ℕ) (rest key : List ℕ) (o : Option (List ℕ)) → x < length below
    → ((d : ℕ) (q : List ℕ) → ((y : ℕ) × (child below y ≡ Some d)) → found new d q ≡ found old d q)
    → stripped part key ≡ Some (x ∷ rest) → Sets (found_in old (child below x)) (found_in new c) rest o
    → Sets (stands_for old part value below) (stands_for new part value (set below x c)) key o
sets_child old new part value below x c rest key o lt same e sets =
    record {
      here = ap (given value (map (option_map (found new)) (set below x c))) e ∙ given_on new value (set below x c) x rest ∙ ap (λ d. found_in new d rest) (child-set below x c lt) ∙ sets.here;
      other = λ q ne. childed_other old new value below x c rest (stripped part q) lt same sets.other (λ h. ne (stripped_one part key q (x ∷ rest) e h));
    }

-- ---- a new leaf
pub sets_leaf : (old new : List Shape) (id usage : ℕ) (key value : List ℕ) → new ≡ record { part = key; value = Some value; below = no_children; usage = usage; hash = None } ∷ old → id ≡ length old → Sets (found_in old None) (found_in new (Some id)) key (Some value)
sets_leaf old new id usage key value e ei =
    let s : Shape = record { part = key; value = Some value; below = no_children; usage = usage; hash = None } in
    let is = λ (q : List ℕ). ap (λ (l : List Shape). found l id q) e ∙ ap (λ n. found (s ∷ old) n q) ei ∙ ap (λ (f : Answer). f q) (fold_newest answer nothing s old) in
    record {
      here = is key ∙ ap (given (Some value) (map (option_map (found old)) no_children)) (stripped_self key);
      other = λ q ne. is q ∙ only (stripped key q) (λ h. ne (stripped_one key key q [] (stripped_self key) h));
    }
  where
    only : (m : Option (List ℕ)) → m ≢ Some [] → given (Some value) (map (option_map (found old)) no_children) m ≡ None
    only None ne = refl
    only (Some []) ne = absurd (ne refl)
    only (Some (x ∷ q)) ne = given_on old (Some value) no_children x q ∙ ap (λ c. found_in old c q) (child-none 16 x)
