-- An addition to a taken word keeps the rule.
use Rattle.std.proofs.Common.{◌≡◌, ℕ, ◌+◌, ◌-◌, ◌*◌, ◌%◌, ◌^◌, ◌<◌, ◌≤◌, le_refl, List, ◌∷◌, length, set, get_or, false, refl, sym, ap, ◌∙◌, subst, arith, length-set, get_or-set_same, get_or-set_other}
use Rattle.std.specs.Prelude.{Option, slice_index}
use mathlib.Core.Logic.{dite}
use mathlib.Core.Option.{some, none}
use native.Mathlib.Decide.{ℕ_discrete}
use lib.ListN.{get_elem?}
use Rattle.atomic_table.specs.Table.{Me, Act, step, gives, rest, Valid, carried_after, stepped, Allows}
use Rattle.atomic_table.proofs.Lists.{set_here, set_else}
use Rattle.nr_exchange.specs.declared.note.Link.{Link}
use Rattle.nr_exchange.specs.declared.note.Note.{Note}
use Rattle.nr_exchange.specs.Plan.{Plan, chunks_to}
use Rattle.nr_exchange.specs.Places.{way, place, places, taken_word, words, ArePlaced}
use Rattle.nr_exchange.specs.Notes.{no_link, mark, link, number, abandoned, out, link_of, gave_back}
use Rattle.nr_exchange.specs.Rule.{ExchangeRule}
use Rattle.nr_exchange.specs.Steps.{GivesBack}
use Rattle.nr_exchange.proofs.Noted.{noted_at, noted_here, noted_else, noted_rel}
use Rattle.nr_exchange.proofs.Lists.{at_within, field_stays, field_rises}
use Rattle.nr_exchange.proofs.Counts.{chunks_up, chunk_at}
use Rattle.nr_exchange.proofs.PlaceLemmas.{one_place, next_round, same_place, place_below, same_word, word_above, word_below}
use Rattle.nr_exchange.proofs.Keeps.{St, given_within, claimed_within, moved, rings_stay}
use Rattle.nr_exchange.proofs.Loads.{own_links, set_links}

small_add : (g n : ℕ) → n ≡ g → g < 2 ^ 32 → (n + 1) % 2 ^ 64 ≡ g + 1
small_add g n is lt = omega arith

module _ {P L : Type 0} (run : P) (p : Plan L) where
  -- the published words stay
  shown_beside : (s : St run p) → ExchangeRule run p s → (k n id : ℕ) (v w : Note P) → ((j : ℕ) → j < p.shards → k ≡ j → ⊥) → get_elem? s.views id ≡ some v → w.number ≡ v.number → w.abandoned ≡ v.abandoned
      → (j : ℕ) → j < p.shards → slice_index (set s.words k n) j ≡ number (set s.views id w) j + mark (abandoned (set s.views id w) j)
  shown_beside s r k n id v w beside at same_number same_mark j ltj =
      let a : number (set s.views id w) j ≡ number s.views j = noted_rel (λ u. u.number) 0 (λ x y. y ≡ x) (λ x. refl) s.views id j v w at same_number in
      let b : abandoned (set s.views id w) j ≡ abandoned s.views j = noted_rel (λ u. u.abandoned) false (λ x y. y ≡ x) (λ x. refl) s.views id j v w at same_mark in
      get_or-set_other s.words k j n 0 (λ e. beside j ltj (sym e)) ∙ (r.shown j ltj ∙ (λ k. sym a k + mark (sym b k)))

  -- of the links of all seats, one changed
  given_else : (s : St run p) (id i : ℕ) (v w : Note P) (l : Link) → get_elem? s.views id ≡ some v → w.links ≡ set v.links i l → (d a : ℕ) → (a ≡ i → d ≡ id → ⊥) → link_of (set s.views id w) d a ≡ link_of s.views d a
  given_else s id i v w l at is d a ne = dite (ℕ_discrete d id)
      (λ same. subst (λ (j : ℕ). link_of (set s.views id w) j a ≡ link_of s.views j a) (sym same)
      (noted_here (λ u. link u a) no_link s.views id v w at ∙ (ap (λ (ls : List Link). get_or ls a no_link) is ∙ (get_or-set_other v.links i a l no_link (λ e. ne e same) ∙ sym (noted_at (λ u. link u a) no_link s.views id v at)))))
      (λ other. noted_else (λ u. link u a) no_link s.views id d w other)

  taken_more : (s : St run p) → ExchangeRule run p s → (id i : ℕ) (v : Note P) → i < p.shards → v.shard < p.shards → get_elem? s.views id ≡ some v
      → (a d : ℕ) → a < p.shards → d < p.shards → slice_index (set s.words (taken_word p i v.shard) ((slice_index s.words (taken_word p i v.shard) + 1) % 2 ^ 64)) (taken_word p a d) ≡ (link_of (set s.views id (gave_back v i)) d a).given
  taken_more s r id i v lti lt at a d lta ltd =
      let w : Note P = gave_back v i in
      let row = r.notes id v at in
      let own : v.shard ≡ id = row.of_shard in
      let k : ℕ = taken_word p i v.shard in
      let n : ℕ = slice_index s.words k in
      let g : ℕ = (link v i).given in
      let linked : i < length v.links = let b = row.linked in omega arith in
      let here : link_of s.views v.shard i ≡ link v i = ap (λ (j : ℕ). link_of s.views j i) own ∙ noted_at (λ u. link u i) no_link s.views id v at in
      let was : n ≡ g = r.taken i v.shard lti lt ∙ ap (λ (l : Link). l.given) here in
      let few : g < 2 ^ 32 = subst (λ (l : Link). l.given < 2 ^ 32) here (given_within run p s r v.shard i).1 in
      let there : k < length s.words = let b = word_below p i v.shard lti lt in let c = r.words in let x : ℕ = k in let y : ℕ = words p in let b' : x < y = b in let c' : length s.words ≡ y = c in let z : x < length s.words = omega arith in z in
      dite (ℕ_discrete a i)
      (λ ea. dite (ℕ_discrete d v.shard)
      (λ ed. subst (λ (x : ℕ × ℕ). slice_index (set s.words k ((n + 1) % 2 ^ 64)) (taken_word p x.0 x.1) ≡ (link_of (set s.views id w) x.1 x.0).given) (λ j. (sym ea j, sym ed j))
      (get_or-set_same s.words k ((n + 1) % 2 ^ 64) 0 there ∙ (small_add g n was few ∙ sym (ap (λ (j : ℕ). (link_of (set s.views id w) j i).given) own ∙ (ap (λ (l : Link). l.given) (noted_here (λ u. link u i) no_link s.views id v w at) ∙ ap (λ (l : Link). l.given) (get_or-set_same v.links i _ no_link linked))))))
      (λ nd. get_or-set_other s.words k (taken_word p a d) ((n + 1) % 2 ^ 64) 0 (λ e. nd (same_word p a d i v.shard ltd lt e).1) ∙ (r.taken a d lta ltd ∙ sym (ap (λ (l : Link). l.given) (given_else s id i v w _ at refl d a (λ _ e. nd (e ∙ sym own)))))))
      (λ na. get_or-set_other s.words k (taken_word p a d) ((n + 1) % 2 ^ 64) 0 (λ e. na (same_word p a d i v.shard ltd lt e).0) ∙ (r.taken a d lta ltd ∙ sym (ap (λ (l : Link). l.given) (given_else s id i v w _ at refl d a (λ e _. na e)))))

  -- the places after that of the last claimed list of i went home
  given_filled : (s : St run p) → ExchangeRule run p s → (id i : ℕ) (v : Note P) (x : Option L) → i < p.shards → v.shard < p.shards → get_elem? s.views id ≡ some v → (link v i).given < chunks_to p i (link v i).claimed
      → ArePlaced p (set s.homes (place p i v.shard (link v i).given) (some x)) (set s.views id (gave_back v i))
  given_filled s r id i v x lti lt at claimed =
      let w : Note P = gave_back v i in
      let views : List (Note P) = set s.views id w in
      let row = r.notes id v at in
      let own : v.shard ≡ id = row.of_shard in
      let linked : i < length v.links = let b = row.linked in omega arith in
      let g : ℕ = (link v i).given in
      let q : ℕ = place p i v.shard g in
      let here : link_of s.views v.shard i ≡ link v i = ap (λ (j : ℕ). link_of s.views j i) own ∙ noted_at (λ u. link u i) no_link s.views id v at in
      let now : (link_of views v.shard i).given ≡ g + 1 = ap (λ (j : ℕ). (link_of views j i).given) own ∙ (ap (λ (l : Link). l.given) (noted_here (λ u. link u i) no_link s.views id v w at) ∙ ap (λ (l : Link). l.given) (get_or-set_same v.links i _ no_link linked)) in
      let same : (a : ℕ) → number views a ≡ number s.views a = λ a. noted_rel (λ u. u.number) 0 (λ y z. z ≡ y) (λ y. refl) s.views id a v w at refl in
      let outs : (a : ℕ) → out views a ≡ out s.views a = λ a. noted_rel (λ u. u.out) 0 (λ y z. z ≡ y) (λ y. refl) s.views id a v w at refl in
      let claims : (d a : ℕ) → (link_of views d a).claimed ≡ (link_of s.views d a).claimed = λ d a. noted_rel (λ u. link u a) no_link (λ y z. z.claimed ≡ y.claimed) (λ y. refl) s.views id d v w at (field_stays (λ l. l.claimed) v.links i a _ refl) in
      let c : ℕ = chunks_to p i (link v i).claimed in
      let u : ℕ = chunks_to p i (number s.views i) in
      let shown : c ≤ u = subst (λ (l : Link). chunks_to p i l.claimed ≤ chunks_to p i (number s.views i)) here (claimed_within run p s r v.shard i) in
      let ring : u ≤ g + 8 = subst (λ (l : Link). chunks_to p i (number s.views i) ≤ l.given + 8) here (r.rings i v.shard lti lt).ahead in
      let claimed' : g < c = claimed in
      let within : q < length s.homes = let b = place_below p i v.shard g lti lt in let e = r.places in let y : ℕ = q in let z : ℕ = places p in let b' : y < z = b in let e' : length s.homes ≡ z = e in let o : y < length s.homes = omega arith in o in
      let apart : (a d m : ℕ) → d < p.shards → (a ≡ i → d ≡ v.shard → (g < m) × (m < g + 8)) → get_elem? (set s.homes q (some x)) (place p a d m) ≡ get_elem? s.homes (place p a d m) = λ a d m ltd between.
      set_else s.homes q (place p a d m) (some x) (λ e. let z = same_place p a d m i v.shard g ltd lt e in let b = between z.0 z.1 in let b0 : g < m = b.0 in let b1 : m < g + 8 = b.1 in let o : m ≡ g = one_place g m g z.2 (omega arith) b1 (le_refl g) (omega arith) in omega arith) in
      record {
        lists = λ a h d lta ltd there below le.
            let below' : (link_of s.views d a).claimed < h = subst (λ (y : ℕ). y < h) (claims d a) below in
            let le' : h ≤ number s.views a = subst (λ (y : ℕ). h ≤ y) (same a) le in
            apart a d (chunks_to p a (h - 1)) ltd (λ ea ed.
            let one : chunks_to p a (link_of s.views d a).claimed ≤ chunks_to p a (h - 1) = chunks_up p a (link_of s.views d a).claimed (h - 1) (omega arith) in
            let two : chunks_to p a h ≡ chunks_to p a (h - 1) + 1 = chunk_at p a h (omega arith) there in
            let three : chunks_to p a h ≤ chunks_to p a (number s.views a) = chunks_up p a h (number s.views a) le' in
            let four : chunks_to p a (link_of s.views d a).claimed ≡ c = (λ j. chunks_to p (ea j) (link_of s.views (ed j) (ea j)).claimed) ∙ ap (λ (l : Link). chunks_to p i l.claimed) here in
            between_them g c u (chunks_to p a (link_of s.views d a).claimed) (chunks_to p a (h - 1)) (chunks_to p a h) (chunks_to p a (number s.views a)) claimed' ring one two three four (λ j. chunks_to p (ea j) (number s.views (ea j))))
            ∙ r.placed.lists a h d lta ltd there below' le';
        free = λ a d n lta ltd above below held.
            let above' : chunks_to p a (number s.views a) ≤ n = subst (λ (y : ℕ). chunks_to p a y ≤ n) (same a) above in
            let held' : n ≡ chunks_to p a (number s.views a) → out s.views a ≤ d = λ e. subst (λ (y : ℕ). y ≤ d) (outs a) (held (e ∙ ap (chunks_to p a) (sym (same a)))) in
            let old : n < (link_of s.views d a).given + 8 → (a ≡ i → d ≡ v.shard → g < n) → (y : Option L) × (get_elem? (set s.homes q (some x)) (place p a d n) ≡ some (some y)) = λ less over.
            let y = r.placed.free a d n lta ltd above' less held' in
            (y.0, apart a d n ltd (λ ea ed. (over ea ed, subst (λ (l : Link). n < l.given + 8) ((λ j. link_of s.views (ed j) (ea j)) ∙ here) less)) ∙ y.1) in
            dite (ℕ_discrete a i)
            (λ ea. dite (ℕ_discrete d v.shard)
            (λ ed.
            let sent_is : chunks_to p a (number s.views a) ≡ u = λ j. chunks_to p (ea j) (number s.views (ea j)) in
            let under : n < g + 1 + 8 = subst (λ (y : ℕ). n < y + 8) ((λ j. (link_of views (ed j) (ea j)).given) ∙ now) below in
            let over : u ≤ n = subst (λ (y : ℕ). y ≤ n) sent_is above' in
            dite (ℕ_discrete n (g + 8))
            (λ last. (x, subst (λ (y : ℕ × ℕ × ℕ). get_elem? (set s.homes q (some x)) (way p y.0 y.1 * 8 + y.2) ≡ some (some x)) (λ j. (sym ea j, sym ed j, (sym (next_round g) ∙ ap (λ (y : ℕ). y % 8) (sym last)) j)) (set_here s.homes q (some x) within)))
            (λ earlier. old (subst (λ (l : Link). n < l.given + 8) (sym ((λ j. link_of s.views (ed j) (ea j)) ∙ here)) (let z : n < g + 8 = omega arith in z)) (λ _ _. omega arith)))
            (λ nd. old (subst (λ (l : Link). n < l.given + 8) (given_else s id i v w _ at refl d a (λ _ e. nd (e ∙ sym own))) below) (λ _ e. absurd (nd e))))
            (λ na. old (subst (λ (l : Link). n < l.given + 8) (given_else s id i v w _ at refl d a (λ e _. na e)) below) (λ e _. absurd (na e)));
      }
    where
      between_them : (g c u ca b1 cb ua : ℕ) → g < c → u ≤ g + 8 → ca ≤ b1 → cb ≡ b1 + 1 → cb ≤ ua → ca ≡ c → ua ≡ u → (g < b1) × (b1 < g + 8)
      between_them g c u ca b1 cb ua e1 e2 e3 e4 e5 e6 e7 = (omega arith, omega arith)

module _ {P L : Type 0} (plan : P → Plan L) where
  gives_one : (slots id : ℕ) (me : Me (Option L) (Note P)) (i : ℕ) (x : Option L) (others : List (ℕ × Option L)) → i < (plan me.0.run).shards → me.1 ≡ (place (plan me.0.run) i me.0.shard (link me.0 i).given, x) ∷ others → (link me.0 i).given < chunks_to (plan me.0.run) i (link me.0 i).claimed
      → Allows (ExchangeRule me.0.run (plan me.0.run)) slots id me (taken_word (plan me.0.run) i me.0.shard) (λ n. (n + 1) % 2 ^ 64) (GivesBack plan (step slots (taken_word (plan me.0.run) i me.0.shard) 1 0 none) me)
  gives_one slots id me i x others lti carried claimed s r wide at _ =
      let p : Plan L = plan me.0.run in
      let run : P = me.0.run in
      let v : Note P = me.0 in
      let row = r.notes id v at in
      let lt : v.shard < p.shards = let a = at_within s.views id v at in let b = r.seats in let c = row.of_shard in omega arith in
      let w : Note P = gave_back v i in
      let k : ℕ = taken_word p i v.shard in
      let n : ℕ = slice_index s.words k in
      let q : ℕ = place p i v.shard (link v i).given in
      let mine = own_links run p s r id v at i in
      let rule : ExchangeRule run p (record { words = set s.words k ((n + 1) % 2 ^ 64); homes = set s.homes q (some x); views = set s.views id w }) = moved run p s r k id ((n + 1) % 2 ^ 64) v w (set s.homes q (some x)) at
      record { run_is = refl; shard_is = refl; made_is = refl; linked = length-set v.links i _; roomed = refl; rises = le_refl v.number; within = row.within; marks = λ e. e }
      (length-set s.homes q (some x))
      (shown_beside run p s r k ((n + 1) % 2 ^ 64) id v w (λ j ltj e. word_above p i v.shard j ltj e) at refl refl)
      (taken_more run p s r id i v lti lt at)
      (set_links run p s r i id v w _ lti at refl record { claimed_seen = mine.claimed_seen; seen_shown = mine.seen_shown; mark_shown = mine.mark_shown; given_claimed = (let g : ℕ = (link v i).given in let c : ℕ = chunks_to p i (link v i).claimed in let e : g < c = claimed in let z : g + 1 ≤ c = omega arith in z) })
      (rings_stay run p s r id v w at (λ j. field_rises (λ l. l.given) v.links i j _ (let g : ℕ = (link v i).given in let z : g ≤ g + 1 = omega arith in z)) refl refl refl)
      (given_filled run p s r id i v x lti lt at claimed) in
      subst (λ (c : List (ℕ × Option L)). (u : Note P) × (a : Act (Option L)) × Valid s.homes c a × ExchangeRule run p (stepped s k ((n + 1) % 2 ^ 64) id c u a) × GivesBack plan (step slots k 1 0 none) (v, c) n (u, carried_after c a)) (sym carried) (
        w,
        gives,
        tt,
        rule,
        (i, lti, refl, refl),
      )

  pub gives_as : (run : P) (slots id : ℕ) (me : Me (Option L) (Note P)) (i d n k : ℕ) (x : Option L)
      (others : List (ℕ × Option L)) → me.0.run ≡ run → d ≡ me.0.shard → n ≡ (link me.0 i).given
      → k ≡ taken_word (plan run) i d → i < (plan run).shards → me.1 ≡ (place (plan run) i d n, x) ∷ others
      → n < chunks_to (plan run) i (link me.0 i).claimed
      → Allows (ExchangeRule run (plan run)) slots id me k (λ n. (n + 1) % 2 ^ 64) (GivesBack plan (step slots k 1 0 none) me)
  gives_as run slots id me i d n k x others same own is word lti carried claimed =
      subst (λ (y : P × ℕ). Allows (ExchangeRule y.0 (plan y.0)) slots id me y.1 (λ n. (n + 1) % 2 ^ 64) (GivesBack plan (step slots y.1 1 0 none) me)) (λ j. (same j, (ap (λ (y : P × ℕ). taken_word (plan y.0) i y.1) (λ j. (same j, sym own j)) ∙ sym word) j))
      (gives_one slots id me i x others (subst (λ (y : P). i < (plan y).shards) (sym same) lti)
      (subst (λ (y : P × ℕ × ℕ). me.1 ≡ (place (plan y.0) i y.1 y.2, x) ∷ others) (λ j. (sym same j, own j, is j)) carried)
      (subst (λ (y : P × ℕ). y.1 < chunks_to (plan y.0) i (link me.0 i).claimed) (λ j. (sym same j, is j)) claimed))

  -- the link that is told is the one whose word was added to
  pub gave : (run : P) (me me' : Me (Option L) (Note P)) (i d k n : ℕ) → me.0.run ≡ run → d ≡ me.0.shard → d < (plan run).shards → k ≡ taken_word (plan run) i d → GivesBack plan (step 0 k 1 0 none) me n me' → me' ≡ (gave_back me.0 i, rest me.1)
  gave run me me' i d k n same own ltd word t =
      let p : Plan L = plan me.0.run in
      let lt : me.0.shard < p.shards = subst (λ (y : P × ℕ). y.1 < (plan y.0).shards) (λ j. (sym same j, own j)) ltd in
      let e : taken_word p i me.0.shard ≡ taken_word p t.0 me.0.shard = ap (λ (y : P × ℕ). taken_word (plan y.0) i y.1) (λ j. (same j, sym own j)) ∙ (sym word ∙ t.2) in
      t.3 ∙ ap (λ (j : ℕ). (gave_back me.0 j, rest me.1)) (sym (same_word p i me.0.shard t.0 me.0.shard lt lt e).0)
