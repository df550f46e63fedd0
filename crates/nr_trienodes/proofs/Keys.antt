-- A key nibble by nibble, and a part that it goes along.
use Rattle.std.proofs.Common.{◌≡◌, ◌≢◌, ◌==◌, ◌<◌, ◌≤◌, ◌+◌, ◌*◌, ◌/◌, ◌%◌, ◌^◌, ℕ, zero, suc, true, false, cond, List, [], ◌∷◌, ◌++◌, length, take, drop, get_or, Some, None, refl, ap, sym, ◌∙◌, subst, eq-eqb, add-one, length-append, arith}
use Rattle.std.proofs.lemmas.Bool.{ne_eqb, eqb-true}
use Rattle.std.proofs.Math.ListN.{drop_of_length-le}
use Rattle.nr_triedef.specs.Node.{nibbles}
use Rattle.nr_trienodes.specs.Shape.{Shape, shape_at, child}
use Rattle.nr_trienodes.specs.Tries.{stripped}
use Rattle.nr_trienodes.specs.Turns.{left, IsNext, Matches, GoesBy, Takes}

pub length-nibbles : (key : List ℕ) → length (nibbles key) ≡ 2 * length key
length-nibbles [] = refl
length-nibbles (b ∷ key) = omega (arith, length-nibbles key)

pub left_end : (key : List ℕ) (at : ℕ) → length key ≤ at / 2 → left key at ≡ []
left_end key at le = drop_of_length-le (nibbles key) (let few : length (nibbles key) ≤ at = omega (arith, length-nibbles key) in few)

high : (key : List ℕ) (at : ℕ) → at / 2 < length key → at % 2 ≡ 0 → left key at ≡ get_or key (at / 2) 0 / 16 ∷ left key (suc at)
high [] at lt even = absurd (omega arith)
high (b ∷ key) zero lt even = refl
high (b ∷ key) (suc zero) lt even = absurd (omega arith)
high (b ∷ key) (suc (suc at)) lt even =
    let half : suc (suc at) / 2 ≡ suc (at / 2) = omega arith in
    high key at (omega arith) (omega arith) ∙ ap (λ n. get_or (b ∷ key) n 0 / 16 ∷ left key (suc at)) (sym half)

low : (key : List ℕ) (at : ℕ) → at / 2 < length key → at % 2 ≡ 1 → left key at ≡ get_or key (at / 2) 0 % 16 ∷ left key (suc at)
low [] at lt odd = absurd (omega arith)
low (b ∷ key) zero lt odd = absurd (omega arith)
low (b ∷ key) (suc zero) lt odd = refl
low (b ∷ key) (suc (suc at)) lt odd =
    let half : suc (suc at) / 2 ≡ suc (at / 2) = omega arith in
    low key at (omega arith) (omega arith) ∙ ap (λ n. get_or (b ∷ key) n 0 % 16 ∷ left key (suc at)) (sym half)

pub next_high : (key : List ℕ) (at b : ℕ) → at / 2 < length key → at % 2 ≡ 0 → b ≡ get_or key (at / 2) 0 → b < 256 → at + 1 < 2 ^ 64 → IsNext key at (b / 16)
next_high key at b lt even e byte room =
    record { is = high key at lt even ∙ (λ i. sym e i / 16 ∷ left key (sym (add-one at) i)); small = omega arith; room = room }

pub next_low : (key : List ℕ) (at b : ℕ) → at / 2 < length key → at % 2 ≡ 1 → b ≡ get_or key (at / 2) 0 → at + 1 < 2 ^ 64 → IsNext key at (b % 16)
next_low key at b lt odd e room =
    record { is = low key at lt odd ∙ (λ i. sym e i % 16 ∷ left key (sym (add-one at) i)); small = omega arith; room = room }

-- ---- a part
take_more : (p k r : List ℕ) (n x : ℕ) → n < length p → get_or p n 0 ≡ x → stripped (take n p) k ≡ Some (x ∷ r) → stripped (take (suc n) p) k ≡ Some r
take_more [] k r n x lt e f = absurd (omega arith)
take_more (y ∷ p) [] r zero x lt e f = absurd cc
take_more (y ∷ p) (z ∷ k) r zero x lt e f =
    let head : z ≡ x = cc in
    let tail : k ≡ r = cc in
    rw (eq-eqb y z (e ∙ sym head)) (ap (λ (l : List ℕ). Some l) tail)
take_more (y ∷ p) [] r (suc n) x lt e f = absurd cc
take_more (y ∷ p) (z ∷ k) r (suc n) x lt e f =
    elim (y == z) as (λ b. cond b (stripped (take n p) k) None ≡ Some (x ∷ r) → cond b (stripped (take (suc n) p) k) None ≡ Some r) [
      | true ↦ λ g. take_more p k r n x (omega arith) e g
      | false ↦ λ g. absurd cc
    ] f

-- a part that doesn't go on as the key does is no front of it
pub goes_off : (p k : List ℕ) (n : ℕ) → n < length p → ((x : ℕ) (rest : List ℕ) → k ≡ x ∷ rest → x ≢ get_or p n 0) → stripped (drop n p) k ≡ None
goes_off [] k n lt off = absurd (omega arith)
goes_off (y ∷ p) [] zero lt off = refl
goes_off (y ∷ p) (x ∷ k) zero lt off = rw (ne_eqb y x (λ same. off x k refl (sym same)))
goes_off (y ∷ p) k (suc n) lt off = goes_off p k n (omega arith) off

-- n nibbles of the part are those of the key, up to a place
pub record Along (part key : List ℕ) (at n place : ℕ) : Type 0 where
  pub count : place ≡ at + n
  pub front : stripped (take n part) (left key at) ≡ Some (left key place)

pub along_more : (part key : List ℕ) (at n place x : ℕ) → Along part key at n place → n < length part → x ≡ get_or part n 0 → IsNext key place x → Along part key at (n + 1) (place + 1)
along_more part key at n place x a lt e next =
    record {
      count = omega (arith, a.count);
      front = subst (λ m. stripped (take m part) (left key at) ≡ Some (left key (place + 1))) (sym (add-one n)) (take_more part (left key at) (left key (place + 1)) n x lt (sym e) (a.front ∙ ap (λ (l : List ℕ). Some l) next.is));
    }

matches : (part key : List ℕ) (at n place : ℕ) → Along part key at n place → n ≤ length part → place < 2 ^ 64 → (n < length part → (x : ℕ) (rest : List ℕ) → left key place ≡ x ∷ rest → x ≢ get_or part n 0) → Matches part key at n
matches part key at n place a le room differ =
    record {
      within = le;
      front = subst (λ m. stripped (take n part) (left key at) ≡ Some (left key m)) a.count a.front;
      differ = λ lt x rest e. differ lt x rest (ap (left key) a.count ∙ e);
      room = subst (λ m. m < 2 ^ 64) a.count room;
    }

pub matches_none : (part key : List ℕ) (at n place : ℕ) → Along part key at n place → n < length part → place < 2 ^ 64 → left key place ≡ [] → Matches part key at n
matches_none part key at n place a lt room none = matches part key at n place a (omega arith) room (λ more x rest e. absurd cc)

pub matches_off : (part key : List ℕ) (at n place x y : ℕ) → Along part key at n place → n < length part → place < 2 ^ 64 → IsNext key place x → y ≡ get_or part n 0 → x ≢ y → Matches part key at n
matches_off part key at n place x y a lt room next e ne = matches part key at n place a (omega arith) room (λ more z rest f same. let is : x ∷ left key (place + 1) ≡ z ∷ rest = sym next.is ∙ f in let head : x ≡ z = cc in ne (head ∙ same ∙ sym e))

pub matches_all : (part key : List ℕ) (at n place : ℕ) → Along part key at n place → n ≡ length part → place < 2 ^ 64 → Matches part key at n
matches_all part key at n place a e room = matches part key at n place a (omega arith) room (λ more x rest f. absurd (omega arith))

take_all : (p : List ℕ) (n : ℕ) → length p ≤ n → take n p ≡ p
take_all [] zero le = refl
take_all [] (suc n) le = refl
take_all (x ∷ p) zero le = absurd (omega arith)
take_all (x ∷ p) (suc n) le = ap (λ (l : List ℕ). x ∷ l) (take_all p n (omega arith))

whole : (part key : List ℕ) (at n : ℕ) → Matches part key at n → length part ≤ n → stripped part (left key at) ≡ Some (left key (at + n))
whole part key at n m le = subst (λ (p : List ℕ). stripped p (left key at) ≡ Some (left key (at + n))) (take_all part n le) m.front

pub ends_here : (s : Shape) (part key : List ℕ) (at n place : ℕ) → part ≡ s.part → Matches part key at n → length part ≤ n → place ≡ at + n → left key place ≡ [] → stripped s.part (left key at) ≡ Some []
ends_here s part key at n place e m le p none =
    subst (λ (q : List ℕ). stripped q (left key at) ≡ Some []) e (whole part key at n m le ∙ ap (λ k. Some (left key k)) (sym p) ∙ ap (λ (l : List ℕ). Some l) none)

pub goes_by : (s : Shape) (part key : List ℕ) (at n place next x : ℕ) → part ≡ s.part → Matches part key at n → length part ≤ n → place ≡ at + n → next ≡ place + 1 → IsNext key place x → GoesBy s key at x next
goes_by s part key at n place next x e m le p q nx =
    record {
      part = subst (λ (r : List ℕ). stripped r (left key at) ≡ Some (x ∷ left key next)) e (whole part key at n m le ∙ ap (λ k. Some (left key k)) (sym p) ∙ ap (λ (l : List ℕ). Some l) (nx.is ∙ ap (λ k. x ∷ left key k) (sym q)));
      small = nx.small;
    }

-- ---- the way down
pub stripped_is : (p k r : List ℕ) → stripped p k ≡ Some r → k ≡ p ++ r
stripped_is [] k r e = cc
stripped_is (x ∷ p) [] r e = absurd cc
stripped_is (x ∷ p) (y ∷ k) r e =
    elim (x == y) as (λ b. (x == y) ≡ b → cond b (stripped p k) None ≡ Some r → y ∷ k ≡ (x ∷ p) ++ r) [
      | true ↦ λ t h. let same : x ≡ y = eqb-true x y t in let more : k ≡ p ++ r = stripped_is p k r h in cc
      | false ↦ λ t h. absurd cc
    ] refl e

pub left_less : (s : Shape) (key : List ℕ) (at x next : ℕ) → GoesBy s key at x next → length (left key next) + 1 ≤ length (left key at)
left_less s key at x next by = omega (arith, ap length (stripped_is s.part (left key at) (x ∷ left key next) by.part), length-append s.part (x ∷ left key next))

pub takes : (nodes : List Shape) (id : ℕ) (key : List ℕ) (at x next below : ℕ) → id < length nodes → GoesBy (shape_at nodes id) key at x next → child (shape_at nodes id).below x ≡ Some below → Takes nodes id (left key at) x below (left key next)
takes nodes id key at x next below lt by down = record { there = lt; small = by.small; part = by.part; down = down }
