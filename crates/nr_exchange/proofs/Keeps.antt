-- A step of one seat keeps the rule.
use Rattle.std.proofs.Common.{◌≡◌, ◌≢◌, ℕ, ◌+◌, ◌%◌, ◌^◌, ◌<◌, ◌≤◌, le_refl, List, length, set, Bool, true, false, refl, sym, ap, ◌∙◌, subst, ⊎_elim, arith, length-set}
use Rattle.std.specs.Prelude.{Option, slice_index, nat_le}
use Rattle.std.proofs.lemmas.Bool.Decides.{nat_tests}
use mathlib.Core.Logic.{dite}
use mathlib.Core.Option.{some}
use mathlib.Core.Option as maybe
use native.Mathlib.Decide.{ℕ_discrete}
use lib.ListN.{get_elem?}
use Rattle.atomic_table.specs.Table.{State}
use Rattle.atomic_table.proofs.Lists.{at_set}
use Rattle.nr_exchange.specs.declared.note.Link.{Link}
use Rattle.nr_exchange.specs.declared.note.Room.{Room}
use Rattle.nr_exchange.specs.declared.note.Note.{Note}
use Rattle.nr_exchange.specs.Plan.{Plan, chunks_to}
use Rattle.nr_exchange.specs.Notes.{no_link, no_room, mark, link, room, number, abandoned, out, link_of, room_of}
use Rattle.nr_exchange.specs.Rule.{IsNote, IsLink, IsRing, ExchangeRule}
use Rattle.nr_exchange.specs.Places.{taken_word, ArePlaced}
use Rattle.nr_exchange.proofs.Noted.{noted_at, noted_here, noted_else, noted_rel, noted_all}
use Rattle.nr_exchange.proofs.Counts.{chunks_up, chunks_within}

low : (k : ℕ) (b : Bool) → k < 2 ^ 32 → (k + mark b) % 2 ^ 32 ≡ k
low k true h = omega arith
low k false h = omega arith

pub tested : (k n : ℕ) → k ≤ n → nat_le k n ≡ true
tested k n h = grind (arith, nat_tests)

refused : (k n : ℕ) → n < k → nat_le k n ≡ false
refused k n h = grind (arith, nat_tests)

high : (k : ℕ) (b : Bool) → k < 2 ^ 32 → nat_le (2 ^ 32) (k + mark b) ≡ b
high k true h = tested (2 ^ 32) (k + 2 ^ 32) (omega arith)
high k false h = refused (2 ^ 32) (k + 0) (omega arith)

module _ {P L : Type 0} (run : P) (p : Plan L) where
  abbrev pub St : Type 0
  St = State (Option L) (Note P)

  abbrev pub Homes : Type 0
  Homes = List (maybe.Option (Option L))

  pub number_within : (s : St) → ExchangeRule run p s → (i : ℕ) → number s.views i ≤ p.heights
  number_within s r i = noted_all (λ v. v.number) 0 (λ n. n ≤ p.heights) (omega arith) s.views (λ j v e. (r.notes j v e).within) i

  -- the number in a word
  pub word_number : (s : St) → ExchangeRule run p s → (i : ℕ) → i < p.shards → slice_index s.words i % 2 ^ 32 ≡ number s.views i
  word_number s r i lt = ap (λ (n : ℕ). n % 2 ^ 32) (r.shown i lt) ∙ low (number s.views i) (abandoned s.views i) (let a = number_within s r i in let b = r.small in omega arith)

  pub word_mark : (s : St) → ExchangeRule run p s → (i : ℕ) → i < p.shards → nat_le (2 ^ 32) (slice_index s.words i) ≡ abandoned s.views i
  word_mark s r i lt = ap (nat_le (2 ^ 32)) (r.shown i lt) ∙ high (number s.views i) (abandoned s.views i) (let a = number_within s r i in let b = r.small in omega arith)

  -- what was given back was claimed, and what was claimed was published
  pub claimed_within : (s : St) → ExchangeRule run p s → (d i : ℕ) → chunks_to p i (link_of s.views d i).claimed ≤ chunks_to p i (number s.views i)
  claimed_within s r d i =
      let k = r.links d i in
      chunks_up p i (link_of s.views d i).claimed (number s.views i) (let a = k.claimed_seen in let b = k.seen_shown in omega arith)

  pub given_within : (s : St) → ExchangeRule run p s → (d i : ℕ) → ((link_of s.views d i).given ≤ chunks_to p i (number s.views i)) × ((link_of s.views d i).given < 2 ^ 32)
  given_within s r d i =
      let a = (r.links d i).given_claimed in
      let b = claimed_within s r d i in
      let c = chunks_within p i (number s.views i) in
      let e = number_within s r i in
      let f = r.small in
      let w : ℕ = (link_of s.views d i).given in
      let x : ℕ = chunks_to p i (link_of s.views d i).claimed in
      let y : ℕ = chunks_to p i (number s.views i) in
      let z : ℕ = number s.views i in
      let a' : w ≤ x = a in let b' : x ≤ y = b in let c' : y ≤ z = c in let e' : z ≤ p.heights = e in
      let one : w ≤ y = omega arith in
      let two : w < 2 ^ 32 = omega arith in
      (one, two)

  -- what is known of a shard stays true where its number rises
  pub still_known : (views views' : List (Note P)) (l : Link) (i : ℕ) → number views i ≤ number views' i → (abandoned views i ≡ true → abandoned views' i ≡ true) → IsLink run p views l i → IsLink run p views' l i
  still_known views views' l i le marks k = record { claimed_seen = k.claimed_seen; seen_shown = (let a = k.seen_shown in omega arith); mark_shown = λ e. marks (k.mark_shown e); given_claimed = k.given_claimed }

  -- a seat has another view of its shard and of the others
  pub record Follows (v w : Note P) : Type 0 where
    pub run_is : w.run ≡ v.run
    pub shard_is : w.shard ≡ v.shard
    pub made_is : w.made ≡ v.made
    pub linked : length w.links ≡ length v.links
    pub roomed : length w.rooms ≡ length v.rooms
    pub rises : v.number ≤ w.number
    pub within : w.number ≤ p.heights
    pub marks : v.abandoned ≡ true → w.abandoned ≡ true

  pub moved : (s : St) → ExchangeRule run p s → (i id n : ℕ) (v w : Note P) (homes : Homes) → get_elem? s.views id ≡ some v → Follows v w
      → length homes ≡ length s.homes
      → ((j : ℕ) → j < p.shards → slice_index (set s.words i n) j ≡ number (set s.views id w) j + mark (abandoned (set s.views id w) j))
      → ((a d : ℕ) → a < p.shards → d < p.shards → slice_index (set s.words i n) (taken_word p a d) ≡ (link_of (set s.views id w) d a).given)
      → ((j : ℕ) → IsLink run p s.views (link w j) j)
      → ((a d : ℕ) → a < p.shards → d < p.shards → IsRing run p (set s.views id w) a d)
      → ArePlaced p homes (set s.views id w)
      → ExchangeRule run p record { words = set s.words i n; homes = homes; views = set s.views id w }
  moved s r i id n v w homes at f long shown taken mine rings filled =
      let views : List (Note P) = set s.views id w in
      let old = r.notes id v at in
      let more : (j : ℕ) → number s.views j ≤ number views j = λ j. noted_rel (λ u. u.number) 0 (λ a b. a ≤ b) (λ a. le_refl a) s.views id j v w at f.rises in
      let marks : (j : ℕ) → abandoned s.views j ≡ true → abandoned views j ≡ true = λ j. noted_rel (λ u. u.abandoned) false (λ a b. a ≡ true → b ≡ true) (λ a e. e) s.views id j v w at f.marks in
      record {
        words = length-set s.words i n ∙ r.words;
        places = long ∙ r.places;
        small = r.small;
        seats = (let a = r.seats in let b = length-set s.views id w in omega arith);
        made = λ u e. ⊎_elim
            (λ (t : (0 ≡ id) × (w ≡ u)). ap (λ (x : Note P). x.made) (sym t.1) ∙ (f.made_is ∙ (r.made v (subst (λ (k : ℕ). get_elem? s.views k ≡ some v) (sym t.0) at) ∙ sym (length-set s.views id w))))
            (λ (t : (0 ≢ id) × (get_elem? s.views 0 ≡ some u)). r.made u t.1 ∙ sym (length-set s.views id w))
            (at_set s.views id 0 w u e);
        notes = λ j u e. ⊎_elim
            (λ (t : (j ≡ id) × (w ≡ u)). subst (λ (x : ℕ × Note P). IsNote run p x.0 x.1) (λ k. (sym t.0 k, t.1 k)) record { of_run = f.run_is ∙ old.of_run; of_shard = f.shard_is ∙ old.of_shard; linked = f.linked ∙ old.linked; roomed = f.roomed ∙ old.roomed; within = f.within })
            (λ (t : (j ≢ id) × (get_elem? s.views j ≡ some u)). r.notes j u t.1)
            (at_set s.views id j w u e);
        shown = shown;
        taken = taken;
        links = λ d j. dite (ℕ_discrete d id)
            (λ same. subst (λ (l : Link). IsLink run p views l j) (sym (noted_here (λ u. link u j) no_link s.views id v w at) ∙ ap (λ (k : ℕ). link_of views k j) (sym same)) (still_known s.views views (link w j) j (more j) (marks j) (mine j)))
            (λ other. subst (λ (l : Link). IsLink run p views l j) (sym (noted_else (λ u. link u j) no_link s.views id d w other)) (still_known s.views views (link_of s.views d j) j (more j) (marks j) (r.links d j)));
        rings = rings;
        placed = filled;
      }

  -- how many lists each shard has published, where the seat's chunks stay the same
  pub sent_same : (s : St) (id a : ℕ) (v w : Note P) → get_elem? s.views id ≡ some v → chunks_to p id w.number ≡ chunks_to p id v.number → chunks_to p a (number (set s.views id w) a) ≡ chunks_to p a (number s.views a)
  sent_same s id a v w at e = dite (ℕ_discrete a id)
      (λ same. subst (λ (k : ℕ). chunks_to p k (number (set s.views id w) k) ≡ chunks_to p k (number s.views k)) (sym same)
      (ap (chunks_to p id) (noted_here (λ u. u.number) 0 s.views id v w at) ∙ (e ∙ ap (chunks_to p id) (sym (noted_at (λ u. u.number) 0 s.views id v at)))))
      (λ other. ap (chunks_to p a) (noted_else (λ u. u.number) 0 s.views id a w other))

  -- the rings are as before, but that more may be given back
  pub rings_stay : (s : St) → ExchangeRule run p s → (id : ℕ) (v w : Note P) → get_elem? s.views id ≡ some v → ((j : ℕ) → (link v j).given ≤ (link w j).given) → w.rooms ≡ v.rooms → chunks_to p id w.number ≡ chunks_to p id v.number → w.out ≡ v.out
      → (a d : ℕ) → a < p.shards → d < p.shards → IsRing run p (set s.views id w) a d
  rings_stay s r id v w at gives rooms chunks outs a d lta ltd =
      let views : List (Note P) = set s.views id w in
      let old = r.rings a d lta ltd in
      let up : (link_of s.views d a).given ≤ (link_of views d a).given = noted_rel (λ u. link u a) no_link (λ x y. x.given ≤ y.given) (λ x. le_refl x.given) s.views id d v w at (gives a) in
      let same : room_of views a d ≡ room_of s.views a d = noted_rel (λ u. room u d) no_room (λ x y. y ≡ x) (λ x. refl) s.views id a v w at (ap (λ (rs : List Room). room record { run = v.run; shard = v.shard; made = v.made; number = v.number; abandoned = v.abandoned; out = v.out; links = v.links; rooms = rs } d) rooms) in
      let outs' : out views a ≡ out s.views a = noted_rel (λ u. u.out) 0 (λ x y. y ≡ x) (λ x. refl) s.views id a v w at outs in
      let sent : chunks_to p a (number views a) ≡ chunks_to p a (number s.views a) = sent_same s id a v w at chunks in
      let g : ℕ = (link_of s.views d a).given in
      let g' : ℕ = (link_of views d a).given in
      let up' : g ≤ g' = up in
      record {
        known = (let k = old.known in let k' : (room_of s.views a d).taken ≤ g = k in subst (λ (x : Room). x.taken ≤ g') (sym same) (omega arith));
        ahead = (let k = old.ahead in let n : ℕ = chunks_to p a (number s.views a) in let k' : n ≤ g + 8 = k in subst (λ (x : ℕ). x ≤ g' + 8) (sym sent) (omega arith));
        room = λ lt. (let k = old.room (subst (λ (x : ℕ). d < x) outs' lt) in let n : ℕ = chunks_to p a (number s.views a) in let k' : n < g + 8 = k in subst (λ (x : ℕ). x < g' + 8) (sym sent) (omega arith));
      }
