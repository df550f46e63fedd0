-- The exchange as it is made, and how a port is split off.
use Rattle.std.proofs.Common.{◌≡◌, ◌≢◌, ◌⊎◌, ℕ, zero, suc, ◌+◌, ◌^◌, ◌<◌, ◌≤◌, le_refl, List, [], ◌∷◌, ◌++◌, map, length, set, get_or, replicate, false, refl, sym, ap, ◌∙◌, subst, inl, inr, ⊎_elim, arith, length-set, length-append}
use Rattle.std.specs.Prelude.{Option, None}
use mathlib.Core.Option.{some, some-injective, some-ne-none}
use lib.ListN.{get_elem?}
use Rattle.atomic_table.specs.Table.{opening, Splits}
use Rattle.atomic_table.proofs.Lists.{at_set, at_longer, set_here}
use Rattle.nr_exchange.specs.declared.note.Link.{Link}
use Rattle.nr_exchange.specs.declared.note.Room.{Room}
use Rattle.nr_exchange.specs.declared.note.Note.{Note}
use Rattle.nr_exchange.specs.Plan.{Plan, chunks_to}
use Rattle.nr_exchange.specs.Places.{place, places, taken_word, words}
use Rattle.nr_exchange.specs.Notes.{no_link, no_room, mark, link, room, number, abandoned, out, link_of, room_of, fresh, one_made}
use Rattle.nr_exchange.specs.Rule.{IsNote, IsLink, ExchangeRule}
use Rattle.nr_exchange.proofs.Noted.{noted_rel, noted_snoc}
use Rattle.nr_exchange.proofs.PlaceLemmas.{place_below}
use Rattle.nr_exchange.proofs.Keeps.{still_known}

fresh_rooms : (n j : ℕ) → get_or (replicate n no_room) j no_room ≡ no_room
fresh_rooms zero j = refl
fresh_rooms (suc n) zero = refl
fresh_rooms (suc n) (suc j) = fresh_rooms n j

fresh_links : (n j : ℕ) → get_or (replicate n no_link) j no_link ≡ no_link
fresh_links zero j = refl
fresh_links (suc n) zero = refl
fresh_links (suc n) (suc j) = fresh_links n j

long_of : {A : Type 0} (n : ℕ) (a : A) → length (replicate n a) ≡ n
long_of zero a = refl
long_of (suc n) a = ap suc (long_of n a)

at_end : {A : Type 0} (l : List A) (a b : A) (j : ℕ) → get_elem? (l ++ a ∷ []) j ≡ some b → (get_elem? l j ≡ some b) ⊎ ((j ≡ length l) × (a ≡ b))
at_end [] a b zero e = inr (refl, some-injective a b e)
at_end [] a b (suc j) e = absurd (some-ne-none b (sym e))
at_end (x ∷ xs) a b zero e = inl e
at_end (x ∷ xs) a b (suc j) e = ⊎_elim (λ t. inl t) (λ t. inr (ap suc t.0, t.1)) (at_end xs a b j e)

module _ {P L : Type 0} (run : P) (p : Plan L) where
  forks : (id : ℕ) (v : Note P) → v.shard ≡ 0 → v.made < p.shards → v.run ≡ run → Splits (ExchangeRule run p) id v (one_made v) (fresh run p.shards v.made 0)
  forks id v first fits is_run s r at =
      let u : Note P = one_made v in
      let w : Note P = fresh run p.shards v.made 0 in
      let before : List (Note P) = set s.views id u in
      let views : List (Note P) = before ++ w ∷ [] in
      let old = r.notes id v at in
      let zero_is : id ≡ 0 = sym old.of_shard ∙ first in
      let at_zero : get_elem? s.views 0 ≡ some v = subst (λ (k : ℕ). get_elem? s.views k ≡ some v) zero_is at in
      let count : v.made ≡ length s.views = r.made v at_zero in
      let long : length views ≡ v.made + 1 = length-append before (w ∷ []) ∙ (let a = length-set s.views id u in omega arith) in
      let numbers : (j : ℕ) → number views j ≡ number s.views j = λ j. noted_snoc (λ x. x.number) 0 before j w refl ∙ noted_rel (λ x. x.number) 0 (λ x y. y ≡ x) (λ x. refl) s.views id j v u at refl in
      let marks : (j : ℕ) → abandoned views j ≡ abandoned s.views j = λ j. noted_snoc (λ x. x.abandoned) false before j w refl ∙ noted_rel (λ x. x.abandoned) false (λ x y. y ≡ x) (λ x. refl) s.views id j v u at refl in
      let outs : (j : ℕ) → out views j ≡ out s.views j = λ j. noted_snoc (λ x. x.out) 0 before j w refl ∙ noted_rel (λ x. x.out) 0 (λ x y. y ≡ x) (λ x. refl) s.views id j v u at refl in
      let links : (d j : ℕ) → link_of views d j ≡ link_of s.views d j = λ d j. noted_snoc (λ x. link x j) no_link before d w (fresh_links p.shards j) ∙ noted_rel (λ x. link x j) no_link (λ x y. y ≡ x) (λ x. refl) s.views id d v u at refl in
      let rooms : (j d : ℕ) → room_of views j d ≡ room_of s.views j d = λ j d. noted_snoc (λ x. room x d) no_room before j w (fresh_rooms p.shards d) ∙ noted_rel (λ x. room x d) no_room (λ x y. y ≡ x) (λ x. refl) s.views id j v u at refl in
      let at_front : get_elem? views 0 ≡ some u = at_longer before (w ∷ []) 0 u (subst (λ (k : ℕ). get_elem? (set s.views k u) 0 ≡ some u) (sym zero_is) (set_here s.views 0 u (within s.views v at_zero))) in
      record {
        words = r.words;
        places = r.places;
        small = r.small;
        seats = omega arith;
        made = λ x e. ap (λ (y : Note P). y.made) (sym (some-injective u x (sym at_front ∙ e))) ∙ sym long;
        notes = λ j x e. ⊎_elim
            (λ (t : get_elem? before j ≡ some x). ⊎_elim
            (λ (q : (j ≡ id) × (u ≡ x)). subst (λ (y : ℕ × Note P). IsNote run p y.0 y.1) (λ k. (sym q.0 k, q.1 k)) record { of_run = old.of_run; of_shard = old.of_shard; linked = old.linked; roomed = old.roomed; within = old.within })
            (λ (q : (j ≢ id) × (get_elem? s.views j ≡ some x)). r.notes j x q.1)
            (at_set s.views id j u x t))
            (λ (t : (j ≡ length before) × (w ≡ x)). subst (λ (y : Note P). IsNote run p j y) t.1 record { of_run = refl; of_shard = (let a = length-set s.views id u in let b = t.0 in omega arith); linked = long_of p.shards no_link; roomed = long_of p.shards no_room; within = omega arith })
            (at_end before w x j e);
        shown = λ i lt. r.shown i lt ∙ (λ k. sym (numbers i) k + mark (sym (marks i) k));
        links = λ d j. subst (λ (l : Link). IsLink run p views l j) (sym (links d j)) (still_known run p s.views views (link_of s.views d j) j (let a = numbers j in omega arith) (λ e. marks j ∙ e) (r.links d j));
        taken = λ a d lta ltd. r.taken a d lta ltd ∙ sym (ap (λ (l : Link). l.given) (links d a));
        rings = λ a d lta ltd. let e = r.rings a d lta ltd in record {
          known = subst (λ (x : Link × Room). x.1.taken ≤ x.0.given) (λ k. (sym (links d a) k, sym (rooms a d) k)) e.known;
          ahead = subst (λ (x : Link × ℕ). chunks_to p a x.1 ≤ x.0.given + 8) (λ k. (sym (links d a) k, sym (numbers a) k)) e.ahead;
          room = λ below. subst (λ (x : Link × ℕ). chunks_to p a x.1 < x.0.given + 8) (λ k. (sym (links d a) k, sym (numbers a) k)) (e.room (subst (λ (y : ℕ). d < y) (outs a) below));
        };
        placed = record {
          lists = λ a h d lta ltd there below le. r.placed.lists a h d lta ltd there (subst (λ (l : Link). l.claimed < h) (links d a) below) (let e = numbers a in omega arith);
          free = λ a d n lta ltd above below held. r.placed.free a d n lta ltd (subst (λ (y : ℕ). chunks_to p a y ≤ n) (numbers a) above) (subst (λ (l : Link). n < l.given + 8) (links d a) below) (λ e. subst (λ (y : ℕ). y ≤ d) (outs a) (held (e ∙ ap (chunks_to p a) (sym (numbers a)))));
        };
      }
    where
      within : (l : List (Note P)) (x : Note P) → get_elem? l 0 ≡ some x → 0 < length l
      within [] x e = absurd (some-ne-none x (sym e))
      within (y ∷ ys) x e = omega arith

  abbrev pub vacant : ℕ → List (Option L)
  vacant n = replicate n None

  nothing_yet : (n k : ℕ) → k < n → get_elem? (map some (vacant n)) k ≡ some (some None)
  nothing_yet zero k lt = absurd (omega arith)
  nothing_yet (suc n) zero lt = refl
  nothing_yet (suc n) (suc k) lt = nothing_yet n k (omega arith)

  long_map : {A B : Type 0} (f : A → B) (l : List A) → length (map f l) ≡ length l
  long_map f [] = refl
  long_map f (x ∷ xs) = ap suc (long_map f xs)

  zero_at : (n i : ℕ) → get_or (replicate n zero) i zero ≡ zero
  zero_at zero i = refl
  zero_at (suc n) zero = refl
  zero_at (suc n) (suc i) = zero_at n i

  pub begins : (n : ℕ) → 0 < p.shards → p.heights < 2 ^ 32 → n ≡ places p → ExchangeRule run p (opening (replicate (words p) 0) (vacant n) (fresh run p.shards 0 1))
  begins n some_shard small is =
      let w : Note P = fresh run p.shards 0 1 in
      let views : List (Note P) = w ∷ [] in
      let mine : (j : ℕ) → link w j ≡ no_link = fresh_links p.shards in
      let links : (d a : ℕ) → link_of views d a ≡ no_link = λ d a. noted_snoc (λ (x : Note P). link x a) no_link [] d w (mine a) in
      let rooms : (a d : ℕ) → room_of views a d ≡ no_room = λ a d. noted_snoc (λ (x : Note P). room x d) no_room [] a w (fresh_rooms p.shards d) in
      let numbers : (a : ℕ) → number views a ≡ 0 = λ a. noted_snoc (λ (x : Note P). x.number) 0 [] a w refl in
      let one : (j : ℕ) (x : Note P) → get_elem? views j ≡ some x → (j ≡ 0) × (w ≡ x) = only w in
      record {
        words = long_of (words p) 0;
        places = long_map some (vacant n) ∙ (long_of {A = Option L} n None ∙ is);
        small = small;
        seats = omega arith;
        made = λ x e. ap (λ (y : Note P). y.made) (sym (some-injective w x e));
        notes = λ j x e. subst (λ (y : ℕ × Note P). IsNote run p y.0 y.1) (λ k. (sym (one j x e).0 k, (one j x e).1 k)) record { of_run = refl; of_shard = refl; linked = long_of p.shards no_link; roomed = long_of p.shards no_room; within = omega arith };
        shown = λ i lt. zero_at (words p) i ∙ (λ k. sym (noted_snoc (λ (x : Note P). x.number) 0 [] i w refl) k + mark (sym (noted_snoc (λ (x : Note P). x.abandoned) false [] i w refl) k));
        links = λ d j. subst (λ (l : Link). IsLink run p views l j) (sym (noted_snoc (λ (x : Note P). link x j) no_link [] d w (mine j))) record { claimed_seen = le_refl 0; seen_shown = omega arith; mark_shown = λ e. absurd (cc); given_claimed = omega arith };
        taken = λ a d lta ltd. zero_at (words p) (taken_word p a d) ∙ sym (ap (λ (l : Link). l.given) (links d a));
        rings = λ a d lta ltd. record {
          known = subst (λ (x : Link × Room). x.1.taken ≤ x.0.given) (λ k. (sym (links d a) k, sym (rooms a d) k)) (le_refl 0);
          ahead = subst (λ (x : ℕ). chunks_to p a x ≤ (link_of views d a).given + 8) (sym (numbers a)) (omega arith);
          room = λ below. subst (λ (x : ℕ). chunks_to p a x < (link_of views d a).given + 8) (sym (numbers a)) (omega arith);
        };
        placed = record {
          lists = λ a h d lta ltd there below le. absurd (let e : number views a ≡ 0 = numbers a in omega arith);
          free = λ a d k lta ltd above below held. (None, nothing_yet n (place p a d k) (let b = place_below p a d k lta ltd in let q : ℕ = place p a d k in let t : ℕ = places p in let b' : q < t = b in let e : n ≡ t = is in let g : q < n = omega arith in g));
        };
      }
    where
      only : (x : Note P) (j : ℕ) (y : Note P) → get_elem? (x ∷ []) j ≡ some y → (j ≡ 0) × (x ≡ y)
      only x zero y e = (refl, some-injective x y e)
      only x (suc j) y e = absurd (some-ne-none y (sym e))

pub forks_for : {P L : Type 0} (plan : P → Plan L) (run : P) (id : ℕ) (v : Note P) (made : ℕ) → v ≡ fresh run (plan run).shards 0 made → made < (plan run).shards
    → Splits (ExchangeRule run (plan run)) id v (one_made v) (fresh v.run (plan v.run).shards v.made 0)
forks_for plan run id v made is room =
    subst (λ x. Splits (ExchangeRule run (plan run)) id x (one_made x) (fresh x.run (plan x.run).shards x.made 0)) (sym is) (forks run (plan run) id (fresh run (plan run).shards 0 made) refl room refl)
