-- An addition to the own published word keeps the rule.
use Rattle.std.proofs.Common.{◌≡◌, ◌≢◌, ℕ, zero, suc, ◌+◌, ◌-◌, ◌%◌, ◌^◌, ◌<◌, ◌≤◌, le_refl, List, [], length, set, Bool, true, false, true≢false, refl, sym, ap, ◌∙◌, subst, arith, length-set, get_or-set_same, get_or-set_other}
use Rattle.std.specs.Prelude.{Option, slice_index}
use mathlib.Core.Logic.{dite}
use mathlib.Core.Option.{some, none}
use mathlib.Core.Option as maybe
use native.Mathlib.Decide.{ℕ_discrete}
use lib.ListN.{get_elem?}
use Rattle.atomic_table.specs.Table.{Me, Act, step, keeps, gives, chain, Valid, homes_after, carried_after, stepped, Allows}
use Rattle.atomic_table.proofs.Lists.{set_here, set_else}
use Rattle.nr_exchange.specs.declared.note.Link.{Link}
use Rattle.nr_exchange.specs.declared.note.Room.{Room}
use Rattle.nr_exchange.specs.declared.note.Note.{Note}
use Rattle.nr_exchange.specs.Plan.{Plan, list_of, chunks_to}
use Rattle.nr_exchange.specs.Places.{place, places, words, carry, ArePlaced}
use Rattle.nr_exchange.specs.Notes.{no_link, no_room, mark, link, room, number, abandoned, out, link_of, room_of, raised, passed, gives_up}
use Rattle.nr_exchange.specs.Rule.{IsRing, ExchangeRule}
use Rattle.nr_exchange.specs.Steps.{sent, Raises, Passes, GivesUp}
use Rattle.nr_exchange.proofs.Noted.{noted_at, noted_here, noted_else, noted_rel}
use Rattle.nr_exchange.proofs.Lists.{at_within}
use Rattle.nr_exchange.proofs.Counts.{chunks_up, chunk_at, chunk_there, chunk_missing}
use Rattle.nr_exchange.proofs.PlaceLemmas.{one_place, same_place, place_below, published_below}
use Rattle.nr_exchange.proofs.Keeps.{St, Homes, given_within, moved, sent_same, rings_stay}
use Rattle.nr_exchange.proofs.Loads.{own_links, taken_beside, still_filled}

-- the n places that were taken last go home
abbrev pub give_all : {S : Type 0} → ℕ → Act S
give_all zero = keeps
give_all (suc n) = chain gives (give_all n)

module _ {L : Type 0} (p : Plan L) (s m h : ℕ) where
  abbrev Held : Type 0
  Held = List (maybe.Option (Option L))

  given_valid : (n : ℕ) (homes : Held) → Valid homes (carry p s m h n) (give_all n)
  given_valid zero homes = tt
  given_valid (suc n) homes = (tt, given_valid n (set homes (place p s n m) (some (list_of p s h n))))

  given_none : (n : ℕ) → carried_after (carry p s m h n) (give_all n) ≡ []
  given_none zero = refl
  given_none (suc n) = given_none n

  given_long : (n : ℕ) (homes : Held) → length (homes_after homes (carry p s m h n) (give_all n)) ≡ length homes
  given_long zero homes = refl
  given_long (suc n) homes = given_long n (set homes (place p s n m) (some (list_of p s h n))) ∙ length-set homes (place p s n m) (some (list_of p s h n))

  given_else : (n : ℕ) (homes : Held) (k : ℕ) → ((d : ℕ) → d < n → k ≢ place p s d m) → get_elem? (homes_after homes (carry p s m h n) (give_all n)) k ≡ get_elem? homes k
  given_else zero homes k ne = refl
  given_else (suc n) homes k ne = given_else n (set homes (place p s n m) (some (list_of p s h n))) k (λ d lt. ne d (omega arith)) ∙ set_else homes (place p s n m) k (some (list_of p s h n)) (ne n (omega arith))

  given_here : (n : ℕ) (homes : Held) (d : ℕ) → n ≤ p.shards → d < n → ((e : ℕ) → e < n → place p s e m < length homes) → get_elem? (homes_after homes (carry p s m h n) (give_all n)) (place p s d m) ≡ some (some (list_of p s h d))
  given_here zero homes d le lt fits = absurd (omega arith)
  given_here (suc n) homes d le lt fits =
      let homes' : Held = set homes (place p s n m) (some (list_of p s h n)) in
      dite (ℕ_discrete d n)
      (λ same. subst (λ (e : ℕ). get_elem? (homes_after homes' (carry p s m h n) (give_all n)) (place p s e m) ≡ some (some (list_of p s h e))) (sym same)
      (given_else n homes' (place p s n m) (λ e lt' is. let x = (same_place p s n m s e m (omega arith) (omega arith) is).1 in omega arith) ∙ set_here homes (place p s n m) (some (list_of p s h n)) (fits n (omega arith))))
      (λ other. given_here n homes' d (omega arith) (omega arith) (λ e lt'. let a = fits e (omega arith) in let b = length-set homes (place p s n m) (some (list_of p s h n)) in let x : ℕ = place p s e m in let y : ℕ = length homes in let a' : x < y = a in let b' : length homes' ≡ y = b in let z : x < length homes' = omega arith in z))

wrapped : (k a : ℕ) (b : Bool) → k < 2 ^ 32 → a ≤ 1 → (k + mark b + a) % 2 ^ 64 ≡ k + a + mark b
wrapped k a true h le = omega arith
wrapped k a false h le = omega arith

module _ {P L : Type 0} (run : P) (p : Plan L) where
  -- the own row is in the word, and each other word stays
  own_word : (s : St run p) → ExchangeRule run p s → (id n : ℕ) (v w : Note P) → v.shard < p.shards → get_elem? s.views id ≡ some v → n ≡ w.number + mark w.abandoned
      → (j : ℕ) → j < p.shards → slice_index (set s.words v.shard n) j ≡ number (set s.views id w) j + mark (abandoned (set s.views id w) j)
  own_word s r id n v w lt at is j ltj =
      let own : v.shard ≡ id = (r.notes id v at).of_shard in
      let there : v.shard < length s.words = let a = published_below p v.shard lt in let b = r.words in let x : ℕ = words p in let a' : v.shard < x = a in let b' : length s.words ≡ x = b in let z : v.shard < length s.words = omega arith in z in
      dite (ℕ_discrete j id)
      (λ same. subst (λ (k : ℕ). slice_index (set s.words v.shard n) k ≡ number (set s.views id w) k + mark (abandoned (set s.views id w) k)) (sym same)
      (ap (λ (k : ℕ). slice_index (set s.words k n) id) own ∙ (get_or-set_same s.words id n 0 (subst (λ (k : ℕ). k < length s.words) own there) ∙ (is ∙ (λ k. sym (noted_here (λ u. u.number) 0 s.views id v w at) k + mark (sym (noted_here (λ u. u.abandoned) false s.views id v w at) k))))))
      (λ other. get_or-set_other s.words v.shard j n 0 (λ e. other (e ∙ own)) ∙ (r.shown j ltj ∙ (λ k. sym (noted_else (λ u. u.number) 0 s.views id j w other) k + mark (sym (noted_else (λ u. u.abandoned) false s.views id j w other) k))))

  -- the rings after the number of seat id rose, where it held all places
  rings_raised : (s : St run p) → ExchangeRule run p s → (id : ℕ) (v : Note P) → get_elem? s.views id ≡ some v → v.out ≡ p.shards → p.present id (v.number + 1) ≡ true
      → (a d : ℕ) → a < p.shards → d < p.shards → IsRing run p (set s.views id (raised v)) a d
  rings_raised s r id v at outs there a d lta ltd =
      let w : Note P = raised v in
      let views : List (Note P) = set s.views id w in
      let old = r.rings a d lta ltd in
      let links : link_of views d a ≡ link_of s.views d a = noted_rel (λ u. link u a) no_link (λ x y. y ≡ x) (λ x. refl) s.views id d v w at refl in
      let rooms : room_of views a d ≡ room_of s.views a d = noted_rel (λ u. room u d) no_room (λ x y. y ≡ x) (λ x. refl) s.views id a v w at refl in
      record {
        known = subst (λ (x : Link × Room). x.1.taken ≤ x.0.given) (λ k. (sym links k, sym rooms k)) old.known;
        ahead = subst (λ (x : Link). chunks_to p a (number views a) ≤ x.given + 8) (sym links)
            (dite (ℕ_discrete a id)
            (λ same.
            let here : number views a ≡ v.number + 1 = ap (number views) same ∙ noted_here (λ u. u.number) 0 s.views id v w at in
            let was : number s.views a ≡ v.number = ap (number s.views) same ∙ noted_at (λ u. u.number) 0 s.views id v at in
            let outs' : out s.views a ≡ p.shards = ap (out s.views) same ∙ (noted_at (λ u. u.out) 0 s.views id v at ∙ outs) in
            let one : chunks_to p a (number s.views a) < (link_of s.views d a).given + 8 = old.room (omega arith) in
            let two : chunks_to p a (number views a) ≡ chunks_to p a (number s.views a) + 1 = ap (chunks_to p a) here ∙ (chunk_there p a v.number (subst (λ (j : ℕ). p.present j (v.number + 1) ≡ true) (sym same) there) ∙ ap (λ (k : ℕ). chunks_to p a k + 1) (sym was)) in
            let x : ℕ = chunks_to p a (number s.views a) in let y : ℕ = chunks_to p a (number views a) in let g : ℕ = (link_of s.views d a).given in
            let one' : x < g + 8 = one in let two' : y ≡ x + 1 = two in let z : y ≤ g + 8 = omega arith in z)
            (λ other. subst (λ (k : ℕ). chunks_to p a k ≤ (link_of s.views d a).given + 8) (sym (noted_else (λ u. u.number) 0 s.views id a w other)) old.ahead));
        room = λ below. subst (λ (x : Link). chunks_to p a (number views a) < x.given + 8) (sym links)
            (dite (ℕ_discrete a id)
            (λ same. let o : out views a ≡ 0 = ap (out views) same ∙ noted_here (λ u. u.out) 0 s.views id v w at in absurd (omega arith))
            (λ other. subst (λ (k : ℕ). chunks_to p a k < (link_of s.views d a).given + 8) (sym (noted_else (λ u. u.number) 0 s.views id a w other)) (old.room (subst (λ (k : ℕ). d < k) (noted_else (λ u. u.out) 0 s.views id a w other) below))));
      }

  -- the places after the number of seat id rose
  raised_filled : (s : St run p) → ExchangeRule run p s → (id : ℕ) (v : Note P) (homes : Homes run p) → get_elem? s.views id ≡ some v → v.out ≡ p.shards → id < p.shards → p.present id (v.number + 1) ≡ true
      → ((a d m : ℕ) → d < p.shards → (a ≡ id → m % 8 ≡ chunks_to p id v.number % 8 → ⊥) → get_elem? homes (place p a d m) ≡ get_elem? s.homes (place p a d m))
      → ((d : ℕ) → d < p.shards → get_elem? homes (place p id d (chunks_to p id v.number)) ≡ some (some (list_of p id (v.number + 1) d)))
      → ArePlaced p homes (set s.views id (raised v))
  raised_filled s r id v homes at outs lti present apart new =
      let w : Note P = raised v in
      let views : List (Note P) = set s.views id w in
      let here : number views id ≡ v.number + 1 = noted_here (λ u. u.number) 0 s.views id v w at in
      let here_old : number s.views id ≡ v.number = noted_at (λ u. u.number) 0 s.views id v at in
      let else_ : (a : ℕ) → a ≢ id → number views a ≡ number s.views a = λ a ne. noted_else (λ u. u.number) 0 s.views id a w ne in
      let out_else : (a : ℕ) → a ≢ id → out views a ≡ out s.views a = λ a ne. noted_else (λ u. u.out) 0 s.views id a w ne in
      let outs' : out s.views id ≡ p.shards = noted_at (λ u. u.out) 0 s.views id v at ∙ outs in
      let links : (d a : ℕ) → link_of views d a ≡ link_of s.views d a = λ d a. noted_rel (λ u. link u a) no_link (λ x y. y ≡ x) (λ x. refl) s.views id d v w at refl in
      let c : ℕ = chunks_to p id v.number in
      let sent_old : chunks_to p id (number s.views id) ≡ c = ap (chunks_to p id) here_old in
      let sent_new : chunks_to p id (number views id) ≡ c + 1 = ap (chunks_to p id) here ∙ chunk_there p id v.number present in
      let fits : (d : ℕ) → d < p.shards → c < (link_of s.views d id).given + 8 = λ d ltd. subst (λ (x : ℕ). x < (link_of s.views d id).given + 8) sent_old ((r.rings id d lti ltd).room (omega arith)) in
      record {
        lists = λ a b d lta ltd there below le.
            let below' : (link_of s.views d a).claimed < b = subst (λ (l : Link). l.claimed < b) (links d a) below in
            dite (ℕ_discrete a id)
            (λ same.
            let le' : b ≤ v.number + 1 = let x : b ≤ number views id = subst (λ (y : ℕ). b ≤ number views y) same le in omega arith in
            dite (ℕ_discrete b (v.number + 1))
            (λ last_one.
            let e : b - 1 ≡ v.number = omega arith in
            subst (λ (y : ℕ × ℕ × ℕ). get_elem? homes (place p y.0 d (chunks_to p y.0 y.2)) ≡ some (some (list_of p y.0 y.1 d))) (λ k. (sym same k, sym last_one k, sym e k)) (new d ltd))
            (λ earlier.
            let le'' : b ≤ number s.views a = subst (λ (y : ℕ). b ≤ number s.views y) (sym same) (omega arith) in
            apart a d (chunks_to p a (b - 1)) ltd (λ _ is.
            let one : (link_of s.views d a).given ≤ chunks_to p a (link_of s.views d a).claimed = (r.links d a).given_claimed in
            let two : chunks_to p a (link_of s.views d a).claimed ≤ chunks_to p a (b - 1) = chunks_up p a (link_of s.views d a).claimed (b - 1) (omega arith) in
            let three : chunks_to p a b ≡ chunks_to p a (b - 1) + 1 = chunk_at p a b (omega arith) there in
            let four : chunks_to p a b ≤ chunks_to p a (number s.views a) = chunks_up p a b (number s.views a) le'' in
            before_it (link_of s.views d a).given (chunks_to p a (link_of s.views d a).claimed) (chunks_to p a (b - 1)) (chunks_to p a b) (chunks_to p a (number s.views a)) c
            (ap (λ (j : ℕ). chunks_to p j (number s.views j)) same ∙ sent_old) (subst (λ (j : ℕ). c < (link_of s.views d j).given + 8) (sym same) (fits d ltd)) one two three four is)
            ∙ r.placed.lists a b d lta ltd there below' le''))
            (λ other. apart a d (chunks_to p a (b - 1)) ltd (λ e _. other e) ∙ r.placed.lists a b d lta ltd there below' (subst (λ (y : ℕ). b ≤ y) (else_ a other) le));
        free = λ a d n lta ltd above below held.
            let below' : n < (link_of s.views d a).given + 8 = subst (λ (l : Link). n < l.given + 8) (links d a) below in
            dite (ℕ_discrete a id)
            (λ same.
            let over : c + 1 ≤ n = subst (λ (y : ℕ). y ≤ n) (ap (λ (j : ℕ). chunks_to p j (number views j)) same ∙ sent_new) above in
            let old_sent : chunks_to p a (number s.views a) ≡ c = ap (λ (j : ℕ). chunks_to p j (number s.views j)) same ∙ sent_old in
            let over' : chunks_to p a (number s.views a) ≤ n = subst (λ (y : ℕ). y ≤ n) (sym old_sent) (omega arith) in
            let x = r.placed.free a d n lta ltd over' below' (λ e. absurd (let f : n ≡ c = e ∙ old_sent in omega arith)) in (
              x.0,
              apart a d n ltd (λ _ is.
                  let q : (link_of s.views d a).given ≤ c = subst (λ (y : ℕ). (link_of s.views d a).given ≤ y) old_sent (given_within run p s r d a).0 in
                  let one : n ≡ c = one_place (link_of s.views d a).given n c is (let o : (link_of s.views d a).given ≤ n = omega arith in o) below' q (subst (λ (j : ℕ). c < (link_of s.views d j).given + 8) (sym same) (fits d ltd)) in omega arith) ∙ x.1,
            ))
            (λ other.
            let e = else_ a other in let o = out_else a other in
            let x = r.placed.free a d n lta ltd (subst (λ (y : ℕ). chunks_to p a y ≤ n) e above) below' (λ is. subst (λ (y : ℕ). y ≤ d) o (held (is ∙ ap (chunks_to p a) (sym e)))) in
            (x.0, apart a d n ltd (λ q _. other q) ∙ x.1));
      }
    where
      before_it : (ga ca b1 cb ua c : ℕ) → ua ≡ c → c < ga + 8 → ga ≤ ca → ca ≤ b1 → cb ≡ b1 + 1 → cb ≤ ua → b1 % 8 ≡ c % 8 → ⊥
      before_it ga ca b1 cb ua c e1 e2 e3 e4 e5 e6 e7 = omega arith

  -- the places after the number of seat id rose past a missing chunk
  passed_filled : (s : St run p) → ExchangeRule run p s → (id : ℕ) (v : Note P) → get_elem? s.views id ≡ some v → p.present id (v.number + 1) ≡ false → ArePlaced p s.homes (set s.views id (passed v))
  passed_filled s r id v at missing =
      let w : Note P = passed v in
      let views : List (Note P) = set s.views id w in
      let links : (d a : ℕ) → link_of views d a ≡ link_of s.views d a = λ d a. noted_rel (λ u. link u a) no_link (λ x y. y ≡ x) (λ x. refl) s.views id d v w at refl in
      let outs : (a : ℕ) → out views a ≡ out s.views a = λ a. noted_rel (λ u. u.out) 0 (λ x y. y ≡ x) (λ x. refl) s.views id a v w at refl in
      let sents : (a : ℕ) → chunks_to p a (number views a) ≡ chunks_to p a (number s.views a) = λ a. sent_same run p s id a v w at (chunk_missing p id v.number missing) in
      record {
        lists = λ a b d lta ltd there below le. r.placed.lists a b d lta ltd there (subst (λ (l : Link). l.claimed < b) (links d a) below)
            (dite (ℕ_discrete a id)
            (λ same.
            let here : number views a ≡ v.number + 1 = ap (number views) same ∙ noted_here (λ u. u.number) 0 s.views id v w at in
            let was : number s.views a ≡ v.number = ap (number s.views) same ∙ noted_at (λ u. u.number) 0 s.views id v at in
            dite (ℕ_discrete b (v.number + 1))
            (λ last. absurd (true≢false (sym there ∙ ((λ k. p.present (same k) (last k)) ∙ missing))))
            (λ earlier. omega arith))
            (λ other. subst (λ (y : ℕ). b ≤ y) (noted_else (λ u. u.number) 0 s.views id a w other) le));
        free = λ a d n lta ltd above below held. r.placed.free a d n lta ltd (subst (λ (y : ℕ). y ≤ n) (sents a) above) (subst (λ (l : Link). n < l.given + 8) (links d a) below) (λ e. subst (λ (y : ℕ). y ≤ d) (outs a) (held (e ∙ sym (sents a))));
      }

module _ {P L : Type 0} (plan : P → Plan L) where
  -- the number rises, and the places of the lists go home
  publishes : (slots id : ℕ) (me : Me (Option L) (Note P)) → me.0.number + 1 ≤ (plan me.0.run).heights → (plan me.0.run).present me.0.shard (me.0.number + 1) ≡ true → me.0.out ≡ (plan me.0.run).shards
      → me.1 ≡ carry (plan me.0.run) me.0.shard (sent (plan me.0.run) me.0) (me.0.number + 1) (plan me.0.run).shards
      → Allows (ExchangeRule me.0.run (plan me.0.run)) slots id me me.0.shard (λ n. (n + 1) % 2 ^ 64) (Raises plan (step slots me.0.shard 1 0 none) me)
  publishes slots id me last there outs carried s r wide at _ =
      let p : Plan L = plan me.0.run in
      let run : P = me.0.run in
      let v : Note P = me.0 in
      let i : ℕ = v.shard in
      let h : ℕ = v.number + 1 in
      let m : ℕ = sent p v in
      let old = r.notes id v at in
      let own : i ≡ id = old.of_shard in
      let lt : i < p.shards = let a = at_within s.views id v at in let b = r.seats in omega arith in
      let w : Note P = raised v in
      let n : ℕ = slice_index s.words i in
      let word : n ≡ v.number + mark v.abandoned = r.shown i lt ∙ (λ k. (ap (number s.views) own ∙ noted_at (λ u. u.number) 0 s.views id v at) k + mark ((ap (abandoned s.views) own ∙ noted_at (λ u. u.abandoned) false s.views id v at) k)) in
      let new : (n + 1) % 2 ^ 64 ≡ w.number + mark w.abandoned = ap (λ (k : ℕ). (k + 1) % 2 ^ 64) word ∙ wrapped v.number 1 v.abandoned (let a = r.small in omega arith) (omega arith) in
      let homes : Homes run p = homes_after s.homes (carry p i m h p.shards) (give_all p.shards) in
      let there' : p.present id h ≡ true = subst (λ (j : ℕ). p.present j h ≡ true) own there in
      let count : m ≡ chunks_to p id v.number = ap (λ (j : ℕ). chunks_to p j v.number) own in
      subst (λ (c : List (ℕ × Option L)). (u : Note P) × (a : Act (Option L)) × Valid s.homes c a × ExchangeRule run p (stepped s i ((n + 1) % 2 ^ 64) id c u a) × Raises plan (step slots i 1 0 none) (v, c) n (u, carried_after c a)) (sym carried) (
        w,
        give_all p.shards,
        given_valid p i m h p.shards s.homes,
        moved run p s r i id ((n + 1) % 2 ^ 64) v w homes at
            record { run_is = refl; shard_is = refl; made_is = refl; linked = refl; roomed = refl; rises = omega arith; within = last; marks = λ e. e }
            (given_long p i m h p.shards s.homes)
            (own_word run p s r id ((n + 1) % 2 ^ 64) v w lt at new)
            (taken_beside run p s r i id ((n + 1) % 2 ^ 64) v w lt at (λ j. refl))
            (own_links run p s r id v at)
            (rings_raised run p s r id v at outs there')
            (raised_filled run p s r id v homes at outs (subst (λ (j : ℕ). j < p.shards) own lt) there'
            (λ a d k ltd ne. given_else p i m h p.shards s.homes (place p a d k) (λ e lte is. let z = same_place p a d k i e m ltd lte is in ne (z.0 ∙ own) (z.2 ∙ ap (λ (j : ℕ). j % 8) count)))
            (λ d ltd. subst (λ (y : ℕ × ℕ). get_elem? homes (place p y.0 d y.1) ≡ some (some (list_of p y.0 h d))) (λ k. (own k, count k))
            (given_here p i m h p.shards s.homes d (le_refl p.shards) ltd (λ e lte. let a = place_below p i e m lt lte in let b = r.places in let k : ℕ = place p i e m in let t : ℕ = places p in let a' : k < t = a in let b' : length s.homes ≡ t = b in let g : k < length s.homes = omega arith in g)))),
        (λ k. (w, given_none p i m h p.shards k)),
      )

  -- the number rises past a missing chunk
  skips : (slots id : ℕ) (me : Me (Option L) (Note P)) → me.0.number + 1 ≤ (plan me.0.run).heights → (plan me.0.run).present me.0.shard (me.0.number + 1) ≡ false
      → Allows (ExchangeRule me.0.run (plan me.0.run)) slots id me me.0.shard (λ n. (n + 1) % 2 ^ 64) (Passes plan (step slots me.0.shard 1 0 none) me)
  skips slots id me last missing s r wide at _ =
      let p : Plan L = plan me.0.run in
      let run : P = me.0.run in
      let v : Note P = me.0 in
      let i : ℕ = v.shard in
      let old = r.notes id v at in
      let own : i ≡ id = old.of_shard in
      let lt : i < p.shards = let a = at_within s.views id v at in let b = r.seats in omega arith in
      let w : Note P = passed v in
      let n : ℕ = slice_index s.words i in
      let word : n ≡ v.number + mark v.abandoned = r.shown i lt ∙ (λ k. (ap (number s.views) own ∙ noted_at (λ u. u.number) 0 s.views id v at) k + mark ((ap (abandoned s.views) own ∙ noted_at (λ u. u.abandoned) false s.views id v at) k)) in
      let new : (n + 1) % 2 ^ 64 ≡ w.number + mark w.abandoned = ap (λ (k : ℕ). (k + 1) % 2 ^ 64) word ∙ wrapped v.number 1 v.abandoned (let a = r.small in omega arith) (omega arith) in
      let missing' : p.present id (v.number + 1) ≡ false = subst (λ (j : ℕ). p.present j (v.number + 1) ≡ false) own missing in (
        w,
        keeps,
        tt,
        moved run p s r i id ((n + 1) % 2 ^ 64) v w s.homes at
            record { run_is = refl; shard_is = refl; made_is = refl; linked = refl; roomed = refl; rises = omega arith; within = last; marks = λ e. e }
            refl
            (own_word run p s r id ((n + 1) % 2 ^ 64) v w lt at new)
            (taken_beside run p s r i id ((n + 1) % 2 ^ 64) v w lt at (λ j. refl))
            (own_links run p s r id v at)
            (rings_stay run p s r id v w at (λ j. le_refl (link v j).given) refl (chunk_missing p id v.number missing') refl)
            (passed_filled run p s r id v at missing'),
        refl,
      )

  abandons : (slots id : ℕ) (me : Me (Option L) (Note P)) → me.0.abandoned ≡ false → Allows (ExchangeRule me.0.run (plan me.0.run)) slots id me me.0.shard (λ n. (n + 4294967296) % 2 ^ 64) (GivesUp plan (step slots me.0.shard 4294967296 0 none) me)
  abandons slots id me not_yet s r wide at _ =
      let p : Plan L = plan me.0.run in
      let run : P = me.0.run in
      let v : Note P = me.0 in
      let i : ℕ = v.shard in
      let old = r.notes id v at in
      let own : i ≡ id = old.of_shard in
      let lt : i < p.shards = let a = at_within s.views id v at in let b = r.seats in omega arith in
      let w : Note P = gives_up v in
      let n : ℕ = slice_index s.words i in
      let word : n ≡ v.number + mark false = r.shown i lt ∙ (λ k. (ap (number s.views) own ∙ noted_at (λ u. u.number) 0 s.views id v at) k + mark ((ap (abandoned s.views) own ∙ (noted_at (λ u. u.abandoned) false s.views id v at ∙ not_yet)) k)) in
      let new : (n + 4294967296) % 2 ^ 64 ≡ v.number + mark true = let a = r.small in let b = old.within in let e : n ≡ v.number + 0 = word in omega arith in (
        w,
        keeps,
        tt,
        moved run p s r i id ((n + 4294967296) % 2 ^ 64) v w s.homes at
            record { run_is = refl; shard_is = refl; made_is = refl; linked = refl; roomed = refl; rises = le_refl v.number; within = old.within; marks = λ e. refl }
            refl
            (own_word run p s r id ((n + 4294967296) % 2 ^ 64) v w lt at new)
            (taken_beside run p s r i id ((n + 4294967296) % 2 ^ 64) v w lt at (λ j. refl))
            (own_links run p s r id v at)
            (rings_stay run p s r id v w at (λ j. le_refl (link v j).given) refl refl refl)
            (still_filled run p s r id v w s.homes at refl (λ j. le_refl (link v j).claimed) (λ j. refl) (le_refl v.out) (λ a h d _ _ _ _ _. refl) (λ a d m _ _ _ _ _. refl)),
        refl,
      )

  -- the same, for the run and the shard that a caller knows
  pub publishes_as : (run : P) (slots id : ℕ) (me : Me (Option L) (Note P)) (i h m : ℕ) → me.0.run ≡ run → i ≡ me.0.shard → h ≡ me.0.number + 1 → h ≤ (plan run).heights → (plan run).present i h ≡ true → me.0.out ≡ (plan run).shards → m ≡ sent (plan run) me.0
      → me.1 ≡ carry (plan run) i m h (plan run).shards → Allows (ExchangeRule run (plan run)) slots id me i (λ n. (n + 1) % 2 ^ 64) (Raises plan (step slots i 1 0 none) me)
  publishes_as run slots id me i h m same own next last there outs count carried =
      subst (λ (x : P × ℕ). Allows (ExchangeRule x.0 (plan x.0)) slots id me x.1 (λ n. (n + 1) % 2 ^ 64) (Raises plan (step slots x.1 1 0 none) me)) (λ k. (same k, sym own k))
      (publishes slots id me
      (subst (λ (x : P × ℕ). x.1 ≤ (plan x.0).heights) (λ k. (sym same k, next k)) last)
      (subst (λ (x : P × ℕ × ℕ). (plan x.0).present x.1 x.2 ≡ true) (λ k. (sym same k, own k, next k)) there)
      (subst (λ (x : P). me.0.out ≡ (plan x).shards) (sym same) outs)
      (subst (λ (x : P × ℕ × ℕ × ℕ). me.1 ≡ carry (plan x.0) x.1 x.2 x.3 (plan x.0).shards) (λ k. (sym same k, own k, (count ∙ ap (λ (y : P). sent (plan y) me.0) (sym same)) k, next k)) carried))

  pub skips_as : (run : P) (slots id : ℕ) (me : Me (Option L) (Note P)) (i h : ℕ) → me.0.run ≡ run → i ≡ me.0.shard → h ≡ me.0.number + 1 → h ≤ (plan run).heights → (plan run).present i h ≡ false
      → Allows (ExchangeRule run (plan run)) slots id me i (λ n. (n + 1) % 2 ^ 64) (Passes plan (step slots i 1 0 none) me)
  skips_as run slots id me i h same own next last missing =
      subst (λ (x : P × ℕ). Allows (ExchangeRule x.0 (plan x.0)) slots id me x.1 (λ n. (n + 1) % 2 ^ 64) (Passes plan (step slots x.1 1 0 none) me)) (λ k. (same k, sym own k))
      (skips slots id me (subst (λ (x : P × ℕ). x.1 ≤ (plan x.0).heights) (λ k. (sym same k, next k)) last)
      (subst (λ (x : P × ℕ × ℕ). (plan x.0).present x.1 x.2 ≡ false) (λ k. (sym same k, own k, next k)) missing))

  pub abandons_as : (run : P) (slots id : ℕ) (me : Me (Option L) (Note P)) (i : ℕ) → me.0.run ≡ run → i ≡ me.0.shard → me.0.abandoned ≡ false
      → Allows (ExchangeRule run (plan run)) slots id me i (λ n. (n + 4294967296) % 2 ^ 64) (GivesUp plan (step slots i 4294967296 0 none) me)
  abandons_as run slots id me i same own not_yet =
      subst (λ (x : P × ℕ). Allows (ExchangeRule x.0 (plan x.0)) slots id me x.1 (λ n. (n + 4294967296) % 2 ^ 64) (GivesUp plan (step slots x.1 4294967296 0 none) me)) (λ k. (same k, sym own k)) (abandons slots id me not_yet)

  -- and where the run is the key of the exchange
  pub publishes_at : (run key : P) (slots id : ℕ) (me : Me (Option L) (Note P)) (i h m : ℕ) → key ≡ run → me.0.run ≡ run → i ≡ me.0.shard → h ≡ me.0.number + 1 → h ≤ (plan run).heights → (plan run).present i h ≡ true → me.0.out ≡ (plan run).shards → m ≡ sent (plan run) me.0
      → me.1 ≡ carry (plan run) i m h (plan run).shards → Allows (ExchangeRule key (plan key)) slots id me i (λ n. (n + 1) % 2 ^ 64) (Raises plan (step slots i 1 0 none) me)
  publishes_at run key slots id me i h m is same own next last there outs count carried =
      subst (λ (r : P). Allows (ExchangeRule r (plan r)) slots id me i (λ n. (n + 1) % 2 ^ 64) (Raises plan (step slots i 1 0 none) me)) (sym is)
      (publishes_as run slots id me i h m same own next last there outs count carried)
