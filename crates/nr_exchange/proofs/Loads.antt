-- A load of a published word keeps the rule.
use Rattle.std.proofs.Common.{◌≡◌, ℕ, ◌+◌, ◌-◌, ◌%◌, ◌^◌, ◌<◌, ◌≤◌, le_refl, List, ◌∷◌, length, set, get_or, true, false, true≢false, refl, sym, ap, ◌∙◌, subst, arith, lt_of_not-le, length-set, get_or-set_same, get_or-set_other}
use Rattle.std.specs.Prelude.{Option, slice_index, nat_le}
use mathlib.Core.Logic.{dite}
use mathlib.Core.Option.{some, none}
use native.Mathlib.Decide.{ℕ_discrete, dec_le}
use lib.ListN.{get_elem?}
use Rattle.atomic_table.specs.Table.{Me, Act, step, keeps, takes, Valid, carried_after, stepped, Allows}
use Rattle.atomic_table.proofs.Lists.{set_else}
use Rattle.nr_exchange.specs.declared.note.Link.{Link}
use Rattle.nr_exchange.specs.declared.note.Note.{Note}
use Rattle.nr_exchange.specs.Plan.{Plan, list_of, chunks_to, IsNextChunk}
use Rattle.nr_exchange.specs.Places.{place, taken_word, ArePlaced}
use Rattle.nr_exchange.specs.Notes.{no_link, mark, link, number, abandoned, out, link_of, looked, claims}
use Rattle.nr_exchange.specs.Rule.{IsLink, ExchangeRule}
use Rattle.nr_exchange.specs.Steps.{Tells, Looks, Tries}
use Rattle.nr_exchange.proofs.Noted.{noted_at, noted_here, noted_rel}
use Rattle.nr_exchange.proofs.Lists.{at_within, words_stay, field_stays, field_rises}
use Rattle.nr_exchange.proofs.Counts.{chunks_up, chunk_at, chunks_next}
use Rattle.nr_exchange.proofs.PlaceLemmas.{one_place, same_place, word_above}
use Rattle.nr_exchange.proofs.Keeps.{St, Homes, word_number, word_mark, moved, rings_stay}

marked_high : (n k : ℕ) → n ≡ k + 2 ^ 32 → 2 ^ 32 ≤ n
marked_high n k is = omega (arith, is)

module _ {P L : Type 0} (run : P) (p : Plan L) where
  -- a word that is loaded stays as it is, and so do the rows that it stands for
  pub stays : (s : St run p) → ExchangeRule run p s → (i id : ℕ) (v w : Note P) → get_elem? s.views id ≡ some v → w.number ≡ v.number → w.abandoned ≡ v.abandoned
      → (j : ℕ) → j < p.shards → slice_index (set s.words i (slice_index s.words i)) j ≡ number (set s.views id w) j + mark (abandoned (set s.views id w) j)
  stays s r i id v w at same_number same_mark j ltj =
      let a : number (set s.views id w) j ≡ number s.views j = noted_rel (λ u. u.number) 0 (λ x y. y ≡ x) (λ x. refl) s.views id j v w at same_number in
      let b : abandoned (set s.views id w) j ≡ abandoned s.views j = noted_rel (λ u. u.abandoned) false (λ x y. y ≡ x) (λ x. refl) s.views id j v w at same_mark in
      words_stay s.words i j ∙ (r.shown j ltj ∙ (λ k. sym a k + mark (sym b k)))

  -- what a seat notes as given back, where it gives nothing back
  given_stays : (s : St run p) (id : ℕ) (v w : Note P) → get_elem? s.views id ≡ some v → ((j : ℕ) → (link w j).given ≡ (link v j).given) → (d a : ℕ) → (link_of (set s.views id w) d a).given ≡ (link_of s.views d a).given
  given_stays s id v w at same d a = noted_rel (λ u. link u a) no_link (λ x y. y.given ≡ x.given) (λ x. refl) s.views id d v w at (same a)

  -- the taken words stay, where a word is loaded
  pub taken_stays : (s : St run p) → ExchangeRule run p s → (i id : ℕ) (v w : Note P) → get_elem? s.views id ≡ some v → ((j : ℕ) → (link w j).given ≡ (link v j).given)
      → (a d : ℕ) → a < p.shards → d < p.shards → slice_index (set s.words i (slice_index s.words i)) (taken_word p a d) ≡ (link_of (set s.views id w) d a).given
  taken_stays s r i id v w at same a d lta ltd = words_stay s.words i (taken_word p a d) ∙ (r.taken a d lta ltd ∙ sym (given_stays s id v w at same d a))

  -- the same, where a published word becomes any number
  pub taken_beside : (s : St run p) → ExchangeRule run p s → (i id n : ℕ) (v w : Note P) → i < p.shards → get_elem? s.views id ≡ some v → ((j : ℕ) → (link w j).given ≡ (link v j).given)
      → (a d : ℕ) → a < p.shards → d < p.shards → slice_index (set s.words i n) (taken_word p a d) ≡ (link_of (set s.views id w) d a).given
  taken_beside s r i id n v w lt at same a d lta ltd = get_or-set_other s.words i (taken_word p a d) n 0 (word_above p a d i lt) ∙ (r.taken a d lta ltd ∙ sym (given_stays s id v w at same d a))

  -- what a seat knows of each shard
  pub own_links : (s : St run p) → ExchangeRule run p s → (id : ℕ) (v : Note P) → get_elem? s.views id ≡ some v → (j : ℕ) → IsLink run p s.views (link v j) j
  own_links s r id v at j = subst (λ (l : Link). IsLink run p s.views l j) (noted_at (λ u. link u j) no_link s.views id v at) (r.links id j)

  -- where one link became another
  pub set_links : (s : St run p) → ExchangeRule run p s → (i id : ℕ) (v w : Note P) (l : Link) → i < p.shards → get_elem? s.views id ≡ some v → w.links ≡ set v.links i l → IsLink run p s.views l i → (j : ℕ) → IsLink run p s.views (link w j) j
  set_links s r i id v w l lt at is new j =
      let here : get_or (set v.links i l) i no_link ≡ l = get_or-set_same v.links i l no_link (let a = (r.notes id v at).linked in omega arith) in
      subst (λ (ls : List Link). IsLink run p s.views (get_or ls j no_link) j) (sym is)
      (dite (ℕ_discrete j i)
      (λ same. subst (λ (k : ℕ). IsLink run p s.views (get_or (set v.links i l) k no_link) k) (sym same) (subst (λ (x : Link). IsLink run p s.views x i) (sym here) new))
      (λ other. subst (λ (x : Link). IsLink run p s.views x j) (sym (get_or-set_other v.links i j l no_link other)) (own_links s r id v at j)))

  -- what the port knows after a load, where it has claimed up to c
  pub knows : (s : St run p) → ExchangeRule run p s → (i id c : ℕ) (v : Note P) → i < p.shards → get_elem? s.views id ≡ some v → (link v i).claimed ≤ c → c ≤ slice_index s.words i % 2 ^ 32
      → IsLink run p s.views (record { claimed = c; seen = slice_index s.words i % 2 ^ 32; marked = nat_le (2 ^ 32) (slice_index s.words i); loads = (link v i).loads + 1; given = (link v i).given }) i
  knows s r i id c v lt at up le =
      record {
        claimed_seen = le;
        seen_shown = (let a = word_number run p s r i lt in omega arith);
        mark_shown = λ e. sym (word_mark run p s r i lt) ∙ e;
        given_claimed = (let a = (own_links s r id v at i).given_claimed in let b = chunks_up p i (link v i).claimed c up in let x : ℕ = chunks_to p i (link v i).claimed in let y : ℕ = chunks_to p i c in let a' : (link v i).given ≤ x = a in let b' : x ≤ y = b in let g : (link v i).given ≤ y = omega arith in g);
      }

  pub tells : (s : St run p) → ExchangeRule run p s → (i id : ℕ) (v : Note P) → i < p.shards → get_elem? s.views id ≡ some v → Tells v i (slice_index s.words i)
  tells s r i id v lt at = record {
    later = (let a = word_number run p s r i lt in let b = (own_links s r id v at i).seen_shown in omega arith);
    kept = λ e. marked_high (slice_index s.words i) (number s.views i) (r.shown i lt ∙ ap (λ b. number s.views i + mark b) ((own_links s r id v at i).mark_shown e));
    own = λ e. word_number run p s r i lt ∙ (ap (number s.views) (e ∙ (r.notes id v at).of_shard) ∙ noted_at (λ u. u.number) 0 s.views id v at);
  }

  -- the places are as before where it matters
  pub still_filled : (s : St run p) → ExchangeRule run p s → (id : ℕ) (v w : Note P) (homes : Homes run p) → get_elem? s.views id ≡ some v → w.number ≡ v.number → ((j : ℕ) → (link v j).claimed ≤ (link w j).claimed) → ((j : ℕ) → (link w j).given ≡ (link v j).given) → v.out ≤ w.out
      → ((a h d : ℕ) → a < p.shards → d < p.shards → p.present a h ≡ true → (link_of (set s.views id w) d a).claimed < h → h ≤ number s.views a → get_elem? homes (place p a d (chunks_to p a (h - 1))) ≡ get_elem? s.homes (place p a d (chunks_to p a (h - 1))))
      → ((a d n : ℕ) → a < p.shards → d < p.shards → chunks_to p a (number s.views a) ≤ n → n < (link_of s.views d a).given + 8 → (n ≡ chunks_to p a (number s.views a) → out (set s.views id w) a ≤ d) → get_elem? homes (place p a d n) ≡ get_elem? s.homes (place p a d n))
      → ArePlaced p homes (set s.views id w)
  still_filled s r id v w homes at same_number up gives outs full empty =
      let views : List (Note P) = set s.views id w in
      let same : (a : ℕ) → number views a ≡ number s.views a = λ a. noted_rel (λ u. u.number) 0 (λ x y. y ≡ x) (λ x. refl) s.views id a v w at same_number in
      let more : (d a : ℕ) → (link_of s.views d a).claimed ≤ (link_of views d a).claimed = λ d a. noted_rel (λ u. link u a) no_link (λ x y. x.claimed ≤ y.claimed) (λ x. le_refl x.claimed) s.views id d v w at (up a) in
      let outs' : (a : ℕ) → out s.views a ≤ out views a = λ a. noted_rel (λ u. u.out) 0 (λ x y. x ≤ y) (λ x. le_refl x) s.views id a v w at outs in
      record {
        lists = λ a h d lta ltd there below le.
            let le' : h ≤ number s.views a = let e = same a in omega arith in
            full a h d lta ltd there below le' ∙ r.placed.lists a h d lta ltd there (let m = more d a in omega arith) le';
        free = λ a d n lta ltd above below held.
            let above' : chunks_to p a (number s.views a) ≤ n = subst (λ (k : ℕ). chunks_to p a k ≤ n) (same a) above in
            let below' : n < (link_of s.views d a).given + 8 = subst (λ (k : ℕ). n < k + 8) (given_stays s id v w at gives d a) below in
            let held' : n ≡ chunks_to p a (number s.views a) → out views a ≤ d = λ e. held (e ∙ ap (chunks_to p a) (sym (same a))) in
            let x = r.placed.free a d n lta ltd above' below' (λ e. let o = outs' a in let o' = held' e in omega arith) in
            (x.0, empty a d n lta ltd above' below' held' ∙ x.1);
      }

module _ {P L : Type 0} (plan : P → Plan L) where
  looks : (slots id : ℕ) (me : Me (Option L) (Note P)) (i : ℕ) → i < (plan me.0.run).shards → Allows (ExchangeRule me.0.run (plan me.0.run)) slots id me i (λ n. n) (Looks plan (step slots i 0 0 none) me)
  looks slots id me i lt s r _ at _ =
      let p : Plan L = plan me.0.run in
      let run : P = me.0.run in
      let v : Note P = me.0 in
      let n : ℕ = slice_index s.words i in
      let w : Note P = looked v i n in
      let old = r.notes id v at in
      let seen = tells run p s r i id v lt at in
      let known = own_links run p s r id v at i in
      let gives : (j : ℕ) → (link w j).given ≡ (link v j).given = λ j. field_stays (λ l. l.given) v.links i j _ refl in (
        w,
        keeps,
        tt,
        moved run p s r i id n v w s.homes at
            record { run_is = refl; shard_is = refl; made_is = refl; linked = length-set v.links i _; roomed = refl; rises = le_refl v.number; within = old.within; marks = λ e. e }
            refl (stays run p s r i id v w at refl refl)
            (taken_stays run p s r i id v w at gives)
            (set_links run p s r i id v w _ lt at refl (knows run p s r i id (link v i).claimed v lt at (le_refl (link v i).claimed) (let a = known.claimed_seen in let b = seen.later in omega arith)))
            (rings_stay run p s r id v w at (λ j. field_rises (λ l. l.given) v.links i j _ (le_refl (link v i).given)) refl refl refl)
            (still_filled run p s r id v w s.homes at refl (λ j. field_rises (λ l. l.claimed) v.links i j _ (le_refl (link v i).claimed)) gives (le_refl v.out) (λ a h d _ _ _ _ _. refl) (λ a d n _ _ _ _ _. refl)),
        (seen, refl),
      )

  pub looks_as : (run : P) (slots id : ℕ) (me : Me (Option L) (Note P)) (i : ℕ) → me.0.run ≡ run → i < (plan run).shards → Allows (ExchangeRule run (plan run)) slots id me i (λ n. n) (Looks plan (step slots i 0 0 none) me)
  looks_as run slots id me i same lt = subst (λ (r : P). Allows (ExchangeRule r (plan r)) slots id me i (λ n. n) (Looks plan (step slots i 0 0 none) me)) same (looks slots id me i (subst (λ (r : P). i < (plan r).shards) (sym same) lt))

  -- a load that may claim the list of height h
  tries : (slots id : ℕ) (me : Me (Option L) (Note P)) (i h : ℕ) → i < (plan me.0.run).shards → IsNextChunk (plan me.0.run) i (link me.0 i).claimed h → Allows (ExchangeRule me.0.run (plan me.0.run)) slots id me i (λ n. n) (Tries plan (step slots i 0 0 none) me)
  tries slots id me i h lt next s r wide at fits =
      let p : Plan L = plan me.0.run in
      let run : P = me.0.run in
      let v : Note P = me.0 in
      let n : ℕ = slice_index s.words i in
      let old = r.notes id v at in
      let seen = tells run p s r i id v lt at in
      let own : v.shard ≡ id = old.of_shard in
      let linked : i < length v.links = let a = old.linked in omega arith in
      let shown : n % 2 ^ 32 ≡ number s.views i = word_number run p s r i lt in
      let known : link_of s.views id i ≡ link v i = noted_at (λ u. link u i) no_link s.views id v at in
      let later = next.later in
      dite {C = (w : Note P) × (a : Act (Option L)) × Valid s.homes me.1 a × ExchangeRule run p (stepped s i n id me.1 w a) × Tries plan (step slots i 0 0 none) me n (w, carried_after me.1 a)} (dec_le h (n % 2 ^ 32))
      (λ le.
      let w : Note P = claims v i n h in
      let c : ℕ = chunks_to p i (h - 1) in
      let k : ℕ = place p i v.shard c in
      let y : Option L = list_of p i h v.shard in
      let mine : v.shard < p.shards = let a = at_within s.views id v at in let b = r.seats in omega arith in
      let here : get_elem? s.homes k ≡ some (some y) = r.placed.lists i h v.shard lt mine next.there (subst (λ (l : Link). l.claimed < h) (sym (ap (λ (j : ℕ). link_of s.views j i) own ∙ known)) later) (let a = shown in omega arith) in
      let given : (link_of s.views v.shard i).given ≤ c = subst (λ (x : ℕ). (link_of s.views v.shard i).given ≤ x) (ap (λ (j : ℕ). chunks_to p i (link_of s.views j i).claimed) own ∙ (ap (λ (l : Link). chunks_to p i l.claimed) known ∙ sym (chunks_next p i (link v i).claimed h next))) (r.links v.shard i).given_claimed in
      let one_more : chunks_to p i h ≡ c + 1 = chunk_at p i h (omega arith) next.there in
      let published : c + 1 ≤ chunks_to p i (number s.views i) = let a = chunks_up p i h (number s.views i) (omega arith) in let x : ℕ = chunks_to p i h in let z : ℕ = chunks_to p i (number s.views i) in let a' : x ≤ z = a in let e : x ≡ c + 1 = one_more in let g : c + 1 ≤ z = omega arith in g in
      let ring : chunks_to p i (number s.views i) ≤ (link_of s.views v.shard i).given + 8 = (r.rings i v.shard lt mine).ahead in
      let apart : (a d m : ℕ) → d < p.shards → (a ≡ i → d ≡ v.shard → (c < m) × (m < (link_of s.views v.shard i).given + 8)) → get_elem? (set s.homes k none) (place p a d m) ≡ get_elem? s.homes (place p a d m) = λ a d m ltd between.
      set_else s.homes k (place p a d m) none (λ e. let q = same_place p a d m i v.shard c ltd mine e in let b = between q.0 q.1 in
      let t : ℕ = (link_of s.views v.shard i).given in let u : ℕ = chunks_to p i (number s.views i) in let b0 : c < m = b.0 in let b1 : m < t + 8 = b.1 in let b2 : t ≤ c = given in let b3 : c + 1 ≤ u = published in let b4 : u ≤ t + 8 = ring in
      let same : m ≡ c = one_place t m c q.2 (omega arith) b1 b2 (omega arith) in omega arith) in
      let claimed_now : (link_of (set s.views id w) v.shard i).claimed ≡ h = ap (λ (j : ℕ). (link_of (set s.views id w) j i).claimed) own ∙ (ap (λ (l : Link). l.claimed) (noted_here (λ u. link u i) no_link s.views id v w at) ∙ ap (λ (l : Link). l.claimed) (get_or-set_same v.links i _ no_link linked)) in
      let gives : (j : ℕ) → (link w j).given ≡ (link v j).given = λ j. field_stays (λ l. l.given) v.links i j _ refl in (
        w,
        takes k y,
        here,
        moved run p s r i id n v w (set s.homes k none) at
            record { run_is = refl; shard_is = refl; made_is = refl; linked = length-set v.links i _; roomed = refl; rises = le_refl v.number; within = old.within; marks = λ e. e }
            (length-set s.homes k none) (stays run p s r i id v w at refl refl)
            (taken_stays run p s r i id v w at gives)
            (set_links run p s r i id v w _ lt at refl (knows run p s r i id h v lt at (omega arith) le))
            (rings_stay run p s r id v w at (λ j. field_rises (λ l. l.given) v.links i j _ (le_refl (link v i).given)) refl refl refl)
            (still_filled run p s r id v w (set s.homes k none) at refl (λ j. field_rises (λ l. l.claimed) v.links i j _ (omega arith)) gives (le_refl v.out)
            (λ a b d lta ltd there below le'. apart a d (chunks_to p a (b - 1)) ltd (λ ea ed.
            let below' : h < b = subst (λ (x : ℕ). x < b) claimed_now (subst (λ (x : ℕ × ℕ). (link_of (set s.views id w) x.0 x.1).claimed < b) (λ j. (ed j, ea j)) below) in
            let le'' : b ≤ number s.views i = subst (λ (x : ℕ). b ≤ number s.views x) ea le' in
            let there' : p.present i b ≡ true = subst (λ (x : ℕ). p.present x b ≡ true) ea there in
            let e : chunks_to p a (b - 1) ≡ chunks_to p i (b - 1) = ap (λ (x : ℕ). chunks_to p x (b - 1)) ea in
            let low : chunks_to p i h ≤ chunks_to p i (b - 1) = chunks_up p i h (b - 1) (omega arith) in
            let top : chunks_to p i b ≤ chunks_to p i (number s.views i) = chunks_up p i b (number s.views i) le'' in
            let next_one : chunks_to p i b ≡ chunks_to p i (b - 1) + 1 = chunk_at p i b (omega arith) there' in
            between_these c (chunks_to p i h) (chunks_to p i (b - 1)) (chunks_to p a (b - 1)) (chunks_to p i b) (chunks_to p i (number s.views i)) ((link_of s.views v.shard i).given) one_more low e next_one top ring))
            (λ a d m lta ltd above below' _. apart a d m ltd (λ ea ed.
            let above' : chunks_to p i (number s.views i) ≤ m = subst (λ (x : ℕ). chunks_to p x (number s.views x) ≤ m) ea above in
            let below'' : m < (link_of s.views v.shard i).given + 8 = subst (λ (x : ℕ × ℕ). m < (link_of s.views x.0 x.1).given + 8) (λ j. (ed j, ea j)) below' in
            (let u : ℕ = chunks_to p i (number s.views i) in let b3 : c + 1 ≤ u = published in let b4 : u ≤ m = above' in let g : c < m = omega arith in g, below'')))),
        (seen, (h, next, (λ _. refl), (λ no. absurd (omega arith)))),
      ))
      (λ not.
      let less : n % 2 ^ 32 < h = lt_of_not-le not in
      let same = looks slots id me i lt s r wide at fits in
      (same.0, same.1, same.2, same.3, (seen, (h, next, (λ le. absurd (omega arith)), (λ _. same.4.1)))))
    where
      between_these : (c ch b ab cb u t : ℕ) → ch ≡ c + 1 → ch ≤ b → ab ≡ b → cb ≡ b + 1 → cb ≤ u → u ≤ t + 8 → (c < ab) × (ab < t + 8)
      between_these c ch b ab cb u t e1 e2 e3 e4 e5 e6 = (omega arith, omega arith)

  pub tries_as : (run : P) (slots id : ℕ) (me : Me (Option L) (Note P)) (i h : ℕ) → me.0.run ≡ run → i < (plan run).shards → IsNextChunk (plan run) i (link me.0 i).claimed h → Allows (ExchangeRule run (plan run)) slots id me i (λ n. n) (Tries plan (step slots i 0 0 none) me)
  tries_as run slots id me i h same lt next =
      subst (λ (r : P). Allows (ExchangeRule r (plan r)) slots id me i (λ n. n) (Tries plan (step slots i 0 0 none) me)) same
      (tries slots id me i h (subst (λ (r : P). i < (plan r).shards) (sym same) lt) (subst (λ (r : P). IsNextChunk (plan r) i (link me.0 i).claimed h) (sym same) next))

next_by : {L : Type 0} (p : Plan L) (s a h h' : ℕ) → IsNextChunk p s a h → IsNextChunk p s a h' → h < h' → ⊥
next_by p s a h h' x y lt = true≢false (sym x.there ∙ y.first h x.later lt)

pub next_same : {L : Type 0} (p : Plan L) (s a h h' : ℕ) → IsNextChunk p s a h → IsNextChunk p s a h' → h ≡ h'
next_same p s a h h' x y = both (dec_le h h') (dec_le h' h)
  where
    both : Dec (h ≤ h') → Dec (h' ≤ h) → h ≡ h'
    both (yes e) (yes f) = omega arith
    both (no e) f = absurd (next_by p s a h' h y x (lt_of_not-le e))
    both (yes e) (no f) = absurd (next_by p s a h h' x y (lt_of_not-le f))

module _ {P L : Type 0} (plan : P → Plan L) where
  pub tried : (run : P) (i : ℕ) (m m' : Me (Option L) (Note P)) (n h : ℕ) → m.0.run ≡ run → IsNextChunk (plan run) i (link m.0 i).claimed h → Tries plan (step 0 i 0 0 none) m n m'
      → (h ≤ n % 2 ^ 32 → m' ≡ (claims m.0 i n h, (place (plan run) i m.0.shard (chunks_to (plan run) i (link m.0 i).claimed), list_of (plan run) i h m.0.shard) ∷ m.1)) × (n % 2 ^ 32 < h → m' ≡ (looked m.0 i n, m.1))
  tried run i m m' n h same next t =
      let e : t.1.0 ≡ h = next_same (plan run) i (link m.0 i).claimed t.1.0 h (subst (λ (r : P). IsNextChunk (plan r) i (link m.0 i).claimed t.1.0) same t.1.1) next in
      let c = chunks_next (plan run) i (link m.0 i).claimed h next in
      let got = subst (λ (x : P × ℕ). (x.1 ≤ n % 2 ^ 32 → m' ≡ (claims m.0 i n x.1, (place (plan x.0) i m.0.shard (chunks_to (plan x.0) i (x.1 - 1)), list_of (plan x.0) i x.1 m.0.shard) ∷ m.1)) × (n % 2 ^ 32 < x.1 → m' ≡ (looked m.0 i n, m.1))) (λ k. (same k, e k)) (t.1.2, t.1.3) in
      (λ le. subst (λ (x : ℕ). m' ≡ (claims m.0 i n h, (place (plan run) i m.0.shard x, list_of (plan run) i h m.0.shard) ∷ m.1)) c (got.0 le), got.1)
