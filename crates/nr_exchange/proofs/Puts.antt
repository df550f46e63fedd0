-- What a seat holds while lists are put into places.
use Rattle.std.proofs.Common.{◌≡◌, ℕ, ◌+◌, ◌-◌, ◌≤◌, List, [], ◌∷◌, ◌++◌, length, map, refl, sym, ap, ◌∙◌, arith, add-one, length-append}
use Rattle.std.proofs.lemmas.List.{append_assoc, append-nil}
use Rattle.std.specs.Prelude.{Option, Some, slice_get}
use mathlib.Core.Option.{some-injective}
use lib.ListN.{get_elem?}
use Rattle.atomic_table.specs.Table.{Me, rest, turned}
use Rattle.nr_exchange.specs.Plan.{Plan, list_of}
use Rattle.nr_exchange.specs.Places.{place, spaces, carry}

-- a list of pairs whose first parts are known
pub record Heads {A : Type 0} (l : List (ℕ × A)) (k : ℕ) (ks : List ℕ) : Type 0 where
  pub value : A
  pub others : List (ℕ × A)
  pub list_is : l ≡ (k, value) ∷ others
  pub others_are : map (λ x. x.0) others ≡ ks

heads : {A : Type 0} (l : List (ℕ × A)) (k : ℕ) (ks : List ℕ) → map (λ x. x.0) l ≡ k ∷ ks → Heads l k ks
heads [] k ks e = absurd (cc)
heads (x ∷ xs) k ks e =
    let first : x.0 ≡ k = some-injective x.0 k (ap (λ (m : List ℕ). get_elem? m 0) e) in
    record { value = x.1; others = xs; list_is = λ i. (first i, x.1) ∷ xs; others_are = ap tail e }
  where
    tail : List ℕ → List ℕ
    tail [] = []
    tail (y ∷ ys) = ys

no_heads : {A : Type 0} (l : List (ℕ × A)) → map (λ x. x.0) l ≡ [] → l ≡ []
no_heads [] e = refl
no_heads (x ∷ xs) e = absurd (cc)

last_of : {A : Type 0} (xs rest : List A) (x : A) → slice_get ((xs ++ x ∷ []) ++ rest) (length xs) ≡ Some x
last_of [] rest x = refl
last_of (y ∷ xs) rest x = last_of xs rest x

module _ {P L : Type 0} (p : Plan L) (s m h : ℕ) where
  -- the lists from d on are in their places, and the others are left
  pub record IsPutting (m₀ me : Me (Option L) P) (left : List L) (d : ℕ) : Type 0 where
    pub front : List (ℕ × Option L)
    pub back : List (ℕ × Option L)
    pub done : List L
    pub me_is : me ≡ (m₀.0, front ++ back)
    pub front_is : map (λ x. x.0) front ≡ spaces p s m d
    pub back_is : back ++ carry p s m h d ≡ carry p s m h p.shards
    pub left_is : left ++ done ≡ p.lists s h
    pub as_many : length left ≡ d

  pub puts_first : (m₀ : Me (Option L) P) (left : List L) (d : ℕ) → d ≡ p.shards → map (λ x. x.0) m₀.1 ≡ spaces p s m p.shards → left ≡ p.lists s h → length left ≡ p.shards → IsPutting m₀ m₀ left d
  puts_first m₀ left d is places lists all = record {
    front = m₀.1;
    back = [];
    done = [];
    me_is = λ i. (m₀.0, sym (append-nil m₀.1) i);
    front_is = places ∙ ap (spaces p s m) (sym is);
    back_is = ap (carry p s m h) is;
    left_is = append-nil left ∙ lists;
    as_many = all ∙ sym is;
  }

  -- the next list is put into the place that lies in front, which then goes behind the others
  pub record Puts (m₀ me : Me (Option L) P) (left left' : List L) (x : L) (d d' : ℕ) : Type 0 where
    pub was : d ≡ d' + 1
    pub old : (y : Option L) × (me.1 ≡ (place p s d' m, y) ∷ rest me.1)
    pub next : (me' : Me (Option L) P) → me' ≡ (me.0, turned ((place p s d' m, Some x) ∷ rest me.1)) → IsPutting m₀ me' left' d'

  pub puts_next : (m₀ me : Me (Option L) P) (left left' : List L) (x : L) (d d' : ℕ) → IsPutting m₀ me left d → left ≡ left' ++ x ∷ [] → d' ≡ d - 1 → Puts m₀ me left left' x d d'
  puts_next m₀ me left left' x d d' put is next_d =
      let long : length left ≡ length left' + 1 = ap length is ∙ length-append left' (x ∷ []) in
      let many : length left ≡ d = put.as_many in
      let was : d ≡ d' + 1 = omega arith in
      let many' : length left' ≡ d' = omega arith in
      let k : ℕ = place p s d' m in
      let y : ℕ × Option L = (k, Some x) in
      let hd : Heads put.front k (spaces p s m d') = heads put.front k (spaces p s m d') (put.front_is ∙ ap (spaces p s m) (was ∙ add-one d')) in
      let shape : me.1 ≡ (k, hd.value) ∷ (hd.others ++ put.back) = ap (λ (o : Me (Option L) P). o.1) put.me_is ∙ ap (λ (l : List (ℕ × Option L)). l ++ put.back) hd.list_is in
      let rest_is : rest me.1 ≡ hd.others ++ put.back = ap rest shape in
      let all : (left' ++ x ∷ []) ++ put.done ≡ p.lists s h = ap (λ (l : List L). l ++ put.done) (sym is) ∙ put.left_is in
      let found : list_of p s h d' ≡ Some x = ap (slice_get (p.lists s h)) (sym many') ∙ (ap (λ (l : List L). slice_get l (length left')) (sym all) ∙ last_of left' put.done x) in
      record {
        was = was;
        old = (hd.value, shape ∙ ap (λ (l : List (ℕ × Option L)). (k, hd.value) ∷ l) (sym rest_is));
        next = λ me' e. record {
          front = hd.others;
          back = put.back ++ y ∷ [];
          done = x ∷ put.done;
          me_is = e ∙ (λ i. ((put.me_is i).0, (ap (λ (l : List (ℕ × Option L)). l ++ y ∷ []) rest_is ∙ append_assoc hd.others put.back (y ∷ [])) i));
          front_is = hd.others_are;
          back_is = append_assoc put.back (y ∷ []) (carry p s m h d') ∙ (ap (λ (o : Option L). put.back ++ ((k, o) ∷ carry p s m h d')) (sym found) ∙ (ap (λ (j : ℕ). put.back ++ carry p s m h j) (sym (was ∙ add-one d')) ∙ put.back_is));
          left_is = sym (append_assoc left' (x ∷ []) put.done) ∙ all;
          as_many = many';
        };
      }

  pub puts_within : (m₀ me : Me (Option L) P) (left : List L) (d : ℕ) → IsPutting m₀ me left d → length (p.lists s h) ≡ p.shards → d ≤ p.shards
  puts_within m₀ me left d put all =
      let a : length left ≡ d = put.as_many in
      let b : length (left ++ put.done) ≡ length left + length put.done = length-append left put.done in
      let c : length (left ++ put.done) ≡ p.shards = ap length put.left_is ∙ all in
      omega arith

  pub puts_done : (m₀ me : Me (Option L) P) (left : List L) (d : ℕ) → IsPutting m₀ me left d → left ≡ [] → me ≡ (m₀.0, carry p s m h p.shards)
  puts_done m₀ me left d put none =
      let zero_is : d ≡ 0 = sym put.as_many ∙ ap length none in
      let front : put.front ≡ [] = no_heads put.front (put.front_is ∙ ap (spaces p s m) zero_is) in
      let back : put.back ≡ carry p s m h p.shards = sym (append-nil put.back) ∙ (ap (λ (j : ℕ). put.back ++ carry p s m h j) (sym zero_is) ∙ put.back_is) in
      put.me_is ∙ (λ i. (m₀.0, front i ++ back i))
