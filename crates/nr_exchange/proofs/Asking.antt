-- A load of a taken word keeps the rule.
use Rattle.std.proofs.Common.{◌≡◌, ◌⊎◌, ℕ, ◌+◌, ◌-◌, ◌<◌, ◌≤◌, le_refl, List, ◌∷◌, set, get_or, refl, sym, ap, ◌∙◌, subst, inl, inr, ⊎_elim, arith, lt_of_not-le, length-set, get_or-set_same, get_or-set_other}
use Rattle.std.specs.Prelude.{Option, slice_index}
use mathlib.Core.Logic.{dite}
use mathlib.Core.Option.{some, none}
use native.Mathlib.Decide.{ℕ_discrete, dec_le}
use lib.ListN.{get_elem?}
use Rattle.atomic_table.specs.Table.{Me, Act, step, keeps, takes, Valid, carried_after, stepped, Allows}
use Rattle.atomic_table.proofs.Lists.{set_else}
use Rattle.nr_exchange.specs.declared.note.Link.{Link}
use Rattle.nr_exchange.specs.declared.note.Room.{Room}
use Rattle.nr_exchange.specs.declared.note.Note.{Note}
use Rattle.nr_exchange.specs.Plan.{Plan, chunks_to}
use Rattle.nr_exchange.specs.Places.{place, taken_word}
use Rattle.nr_exchange.specs.Notes.{no_link, no_room, link, room, number, out, link_of, room_of, asked, held}
use Rattle.nr_exchange.specs.Rule.{IsRing, ExchangeRule}
use Rattle.nr_exchange.specs.Steps.{sent, TellsTaken, Asks}
use Rattle.nr_exchange.proofs.Noted.{noted_at, noted_here, noted_else, noted_rel}
use Rattle.nr_exchange.proofs.Lists.{at_within}
use Rattle.nr_exchange.proofs.Counts.{chunks_up, chunk_at}
use Rattle.nr_exchange.proofs.PlaceLemmas.{one_place, same_place, same_word}
use Rattle.nr_exchange.proofs.Keeps.{St, given_within, moved, sent_same}
use Rattle.nr_exchange.proofs.Loads.{stays, taken_stays, own_links, still_filled}

module _ {P L : Type 0} (run : P) (p : Plan L) where
  -- what a taken word tells its source
  pub tells_taken : (s : St run p) → ExchangeRule run p s → (id d : ℕ) (v : Note P) → d < p.shards → v.shard < p.shards → get_elem? s.views id ≡ some v → TellsTaken p v d (slice_index s.words (taken_word p v.shard d))
  tells_taken s r id d v ltd lt at =
      let i : ℕ = v.shard in
      let own : i ≡ id = (r.notes id v at).of_shard in
      let ring = r.rings i d lt ltd in
      let n : ℕ = slice_index s.words (taken_word p i d) in
      let g : ℕ = (link_of s.views d i).given in
      let u : ℕ = chunks_to p i (number s.views i) in
      let t : ℕ = sent p v in
      let is : n ≡ g = r.taken i d lt ltd in
      let same : u ≡ t = ap (chunks_to p i) (ap (number s.views) own ∙ noted_at (λ x. x.number) 0 s.views id v at) in
      let known : room_of s.views i d ≡ room v d = ap (λ (j : ℕ). room_of s.views j d) own ∙ noted_at (λ x. room x d) no_room s.views id v at in
      let outs : v.out ≡ out s.views i = sym (ap (out s.views) own ∙ noted_at (λ x. x.out) 0 s.views id v at) in
      record {
        later = (let a : (room v d).taken ≤ g = subst (λ (x : Room). x.taken ≤ g) known ring.known in omega arith);
        within = (let a : g ≤ u = (given_within run p s r d i).0 in let e : n ≤ t = omega arith in e);
        ahead = (let a : u ≤ g + 8 = ring.ahead in let e : t ≤ n + 8 = omega arith in e);
        room_held = λ below. (let a : u < g + 8 = ring.room (subst (λ (x : ℕ). d < x) outs below) in let e : t < n + 8 = omega arith in e);
      }

  -- the rings after such a load
  rings_asked : (s : St run p) → ExchangeRule run p s → (id d k : ℕ) (v w : Note P) → d < p.shards → v.shard < p.shards → get_elem? s.views id ≡ some v
      → w.number ≡ v.number → w.links ≡ v.links → w.rooms ≡ set v.rooms d (record { taken = slice_index s.words (taken_word p v.shard d); loads = k })
      → ((e : ℕ) → e < w.out → (e < v.out) ⊎ ((e ≡ d) × (sent p v < slice_index s.words (taken_word p v.shard d) + 8)))
      → (a e : ℕ) → a < p.shards → e < p.shards → IsRing run p (set s.views id w) a e
  rings_asked s r id d k v w ltd lt at same_number same_links is outs a e lta lte =
      let views : List (Note P) = set s.views id w in
      let old = r.rings a e lta lte in
      let row = r.notes id v at in
      let own : v.shard ≡ id = row.of_shard in
      let n : ℕ = slice_index s.words (taken_word p v.shard d) in
      let given : n ≡ (link_of s.views d v.shard).given = r.taken v.shard d lt ltd in
      let links : link_of views e a ≡ link_of s.views e a = noted_rel (λ u. link u a) no_link (λ x y. y ≡ x) (λ x. refl) s.views id e v w at (ap (λ (ls : List Link). get_or ls a no_link) same_links) in
      let sent_is : chunks_to p a (number views a) ≡ chunks_to p a (number s.views a) = sent_same run p s id a v w at (ap (chunks_to p id) same_number) in
      let g : ℕ = (link_of s.views e a).given in
      let g' : ℕ = (link_of views e a).given in
      let same_given : g' ≡ g = ap (λ (l : Link). l.given) links in
      let u : ℕ = chunks_to p a (number s.views a) in
      let u' : ℕ = chunks_to p a (number views a) in
      let same_sent : u' ≡ u = sent_is in
      record {
        known = dite (ℕ_discrete a id)
            (λ same.
            let here : room_of views a e ≡ room w e = ap (λ (j : ℕ). room_of views j e) same ∙ noted_here (λ x. room x e) no_room s.views id v w at in
            let now : room w e ≡ get_or (set v.rooms d (record { taken = n; loads = k })) e no_room = ap (λ (rs : List Room). get_or rs e no_room) is in
            subst (λ (x : Room). x.taken ≤ g') (sym (here ∙ now))
            (dite (ℕ_discrete e d)
            (λ this. subst (λ (j : ℕ). (get_or (set v.rooms d (record { taken = n; loads = k })) j no_room).taken ≤ g') (sym this)
            (subst (λ (x : Room). x.taken ≤ g') (sym (get_or-set_same v.rooms d (record { taken = n; loads = k }) no_room (let b = row.roomed in omega arith)))
            (let q : (link_of s.views d v.shard).given ≡ g = λ j. (link_of s.views (sym this j) ((own ∙ sym same) j)).given in let z : n ≤ g' = omega arith in z)))
            (λ other. subst (λ (x : Room). x.taken ≤ g') (sym (get_or-set_other v.rooms d e (record { taken = n; loads = k }) no_room other))
            (let q : room_of s.views a e ≡ room v e = ap (λ (j : ℕ). room_of s.views j e) same ∙ noted_at (λ x. room x e) no_room s.views id v at in
            let old_known : (room v e).taken ≤ g = subst (λ (x : Room). x.taken ≤ g) q old.known in omega arith))))
            (λ other. subst (λ (x : Room). x.taken ≤ g') (sym (noted_else (λ x. room x e) no_room s.views id a w other)) (let b : (room_of s.views a e).taken ≤ g = old.known in omega arith));
        ahead = (let b : u ≤ g + 8 = old.ahead in let z : u' ≤ g' + 8 = omega arith in z);
        room = λ below. dite (ℕ_discrete a id)
            (λ same.
            let here : out views a ≡ w.out = ap (out views) same ∙ noted_here (λ x. x.out) 0 s.views id v w at in
            let before : v.out ≡ out s.views a = sym (ap (out s.views) same ∙ noted_at (λ x. x.out) 0 s.views id v at) in
            ⊎_elim
            (λ (b : e < v.out). let c : u < g + 8 = old.room (subst (λ (x : ℕ). e < x) before b) in let z : u' < g' + 8 = omega arith in z)
            (λ (b : (e ≡ d) × (sent p v < n + 8)).
            let q : (link_of s.views d v.shard).given ≡ g = λ j. (link_of s.views (sym b.0 j) ((own ∙ sym same) j)).given in
            let t : sent p v ≡ u = (λ j. chunks_to p (own j) ((sym (noted_at (λ x. x.number) 0 s.views id v at)) j)) ∙ ap (λ (j : ℕ). chunks_to p j (number s.views j)) (sym same) in
            let t' : ℕ = sent p v in let t'' : t' ≡ u = t in let c : t' < n + 8 = b.1 in
            let z : u' < g' + 8 = omega arith in z)
            (outs e (subst (λ (x : ℕ). e < x) here below)))
            (λ other. let o : out views a ≡ out s.views a = noted_else (λ x. x.out) 0 s.views id a w other in
            let c : u < g + 8 = old.room (subst (λ (x : ℕ). e < x) o below) in let z : u' < g' + 8 = omega arith in z);
      }

-- what is told of the link to d
pub record Told {P L : Type 0} (p : Plan L) (me me' : Me (Option L) (Note P)) (d n : ℕ) : Type 0 where
  pub told : TellsTaken p me.0 d n
  pub takes_out : me.0.out ≡ d → sent p me.0 < n + 8 → (x : Option L) × (me' ≡ (held me.0 d n, (place p me.0.shard d (sent p me.0), x) ∷ me.1))
  pub leaves : (me.0.out ≡ d → n + 8 ≤ sent p me.0) → me' ≡ (asked me.0 d n, me.1)

module _ {P L : Type 0} (plan : P → Plan L) where
  -- a load that takes nothing out
  asks_only : (slots id : ℕ) (me : Me (Option L) (Note P)) (d : ℕ) → d < (plan me.0.run).shards
      → (s : St me.0.run (plan me.0.run)) → ExchangeRule me.0.run (plan me.0.run) s → get_elem? s.views id ≡ some me.0
      → ExchangeRule me.0.run (plan me.0.run) (stepped s (taken_word (plan me.0.run) me.0.shard d) (slice_index s.words (taken_word (plan me.0.run) me.0.shard d)) id me.1 (asked me.0 d (slice_index s.words (taken_word (plan me.0.run) me.0.shard d))) keeps)
  asks_only slots id me d ltd s r at =
      let p : Plan L = plan me.0.run in
      let run : P = me.0.run in
      let v : Note P = me.0 in
      let i : ℕ = v.shard in
      let k : ℕ = taken_word p i d in
      let n : ℕ = slice_index s.words k in
      let w : Note P = asked v d n in
      let old = r.notes id v at in
      let lt : i < p.shards = let a = at_within s.views id v at in let b = r.seats in let c = old.of_shard in omega arith in
      moved run p s r k id n v w s.homes at
      record { run_is = refl; shard_is = refl; made_is = refl; linked = refl; roomed = length-set v.rooms d _; rises = le_refl v.number; within = old.within; marks = λ e. e }
      refl (stays run p s r k id v w at refl refl)
      (taken_stays run p s r k id v w at (λ j. refl))
      (own_links run p s r id v at)
      (rings_asked run p s r id d _ v w ltd lt at refl refl refl (λ e below. inl below))
      (still_filled run p s r id v w s.homes at refl (λ j. le_refl (link v j).claimed) (λ j. refl) (le_refl v.out) (λ a h e _ _ _ _ _. refl) (λ a e m _ _ _ _ _. refl))

  asks : (slots id : ℕ) (me : Me (Option L) (Note P)) (d : ℕ) → d < (plan me.0.run).shards → Allows (ExchangeRule me.0.run (plan me.0.run)) slots id me (taken_word (plan me.0.run) me.0.shard d) (λ n. n) (Asks plan (step slots (taken_word (plan me.0.run) me.0.shard d) 0 0 none) me)
  asks slots id me d ltd s r wide at fits =
      let p : Plan L = plan me.0.run in
      let run : P = me.0.run in
      let v : Note P = me.0 in
      let i : ℕ = v.shard in
      let k : ℕ = taken_word p i d in
      let n : ℕ = slice_index s.words k in
      let t : ℕ = sent p v in
      let old = r.notes id v at in
      let own : i ≡ id = old.of_shard in
      let lt : i < p.shards = let a = at_within s.views id v at in let b = r.seats in omega arith in
      let told = tells_taken run p s r id d v ltd lt at in
      let only = asks_only slots id me d ltd s r at in
      dite {C = (w : Note P) × (a : Act (Option L)) × Valid s.homes me.1 a × ExchangeRule run p (stepped s k n id me.1 w a) × Asks plan (step slots k 0 0 none) me n (w, carried_after me.1 a)} (ℕ_discrete v.out d)
      (λ next_one.
      dite {C = (w : Note P) × (a : Act (Option L)) × Valid s.homes me.1 a × ExchangeRule run p (stepped s k n id me.1 w a) × Asks plan (step slots k 0 0 none) me n (w, carried_after me.1 a)} (dec_le (n + 8) t)
      (λ full. (asked v d n, keeps, tt, only, (d, ltd, refl, told, (λ e lt'. absurd (omega arith)), (λ e. refl))))
      (λ not.
      let fits' : t < n + 8 = lt_of_not-le not in
      let w : Note P = held v d n in
      let q : ℕ = place p i d t in
      let number_is : number s.views i ≡ v.number = ap (number s.views) own ∙ noted_at (λ u. u.number) 0 s.views id v at in
      let sent_is : chunks_to p i (number s.views i) ≡ t = ap (chunks_to p i) number_is in
      let out_is : out s.views i ≡ v.out = ap (out s.views) own ∙ noted_at (λ u. u.out) 0 s.views id v at in
      let out_now : out (set s.views id w) i ≡ d + 1 = ap (out (set s.views id w)) own ∙ noted_here (λ u. u.out) 0 s.views id v w at in
      let g : ℕ = (link_of s.views d i).given in
      let given : n ≡ g = r.taken i d lt ltd in
      let ring : g ≤ chunks_to p i (number s.views i) = (given_within run p s r d i).0 in
      let u : ℕ = chunks_to p i (number s.views i) in
      let sent_is' : u ≡ t = sent_is in
      let ring' : g ≤ u = ring in
      let above : u ≤ t = omega arith in
      let below : t < g + 8 = omega arith in
      let x = r.placed.free i d t lt ltd above below (λ _. omega arith) in
      let apart : (a e m : ℕ) → e < p.shards → (a ≡ i → e ≡ d → (g ≤ m) × (m < g + 8) × (m ≡ t → ⊥)) → get_elem? (set s.homes q none) (place p a e m) ≡ get_elem? s.homes (place p a e m) = λ a e m lte between.
      set_else s.homes q (place p a e m) none (λ is. let z = same_place p a e m i d t lte ltd is in let b = between z.0 z.1 in b.2 (one_place g m t z.2 b.0 b.1 (omega arith) below)) in (
        w,
        takes q x.0,
        x.1,
        moved run p s r k id n v w (set s.homes q none) at
            record { run_is = refl; shard_is = refl; made_is = refl; linked = refl; roomed = length-set v.rooms d _; rises = le_refl v.number; within = old.within; marks = λ e. e }
            (length-set s.homes q none) (stays run p s r k id v w at refl refl)
            (taken_stays run p s r k id v w at (λ j. refl))
            (own_links run p s r id v at)
            (rings_asked run p s r id d _ v w ltd lt at refl refl refl (λ e less. dite {C = (e < v.out) ⊎ ((e ≡ d) × (t < n + 8))} (ℕ_discrete e d) (λ same. inr (same, fits')) (λ other. inl (omega arith))))
            (still_filled run p s r id v w (set s.homes q none) at refl (λ j. le_refl (link v j).claimed) (λ j. refl) (omega arith)
            (λ a b e lta lte there claimed le. apart a e (chunks_to p a (b - 1)) lte (λ ea ee.
            let old_claimed : (link_of s.views e a).claimed < b = subst (λ (l : Link). l.claimed < b) (noted_rel (λ o. link o a) no_link (λ y z. z ≡ y) (λ y. refl) s.views id e v w at refl) claimed in
            let one : (link_of s.views e a).given ≤ chunks_to p a (link_of s.views e a).claimed = (r.links e a).given_claimed in
            let two : chunks_to p a (link_of s.views e a).claimed ≤ chunks_to p a (b - 1) = chunks_up p a (link_of s.views e a).claimed (b - 1) (omega arith) in
            let three : chunks_to p a b ≡ chunks_to p a (b - 1) + 1 = chunk_at p a b (omega arith) there in
            let four : chunks_to p a b ≤ chunks_to p a (number s.views a) = chunks_up p a b (number s.views a) le in
            before_next (link_of s.views e a).given (chunks_to p a (link_of s.views e a).claimed) (chunks_to p a (b - 1)) (chunks_to p a b) (chunks_to p a (number s.views a)) g u t
            (λ j. (link_of s.views (ee j) (ea j)).given) (λ j. chunks_to p (ea j) (number s.views (ea j))) sent_is below one two three four))
            (λ a e m lta lte over under out_ok. apart a e m lte (λ ea ee.
            after_next (link_of s.views e a).given (chunks_to p a (number s.views a)) m g u t d (out (set s.views id w) a)
            (λ j. (link_of s.views (ee j) (ea j)).given) (λ j. chunks_to p (ea j) (number s.views (ea j))) sent_is ring over under
            (ap (out (set s.views id w)) ea ∙ out_now) (λ z. subst (λ (y : ℕ). out (set s.views id w) a ≤ y) ee (out_ok z))))),
        (d, ltd, refl, told, (λ e lt'. (x.0, refl)), (λ no. absurd (let e = no next_one in omega arith))),
      )))
      (λ other. (asked v d n, keeps, tt, only, (d, ltd, refl, told, (λ e lt'. absurd (other e)), (λ e. refl))))
    where
      before_next : (ga ca b1 cb ua g u t : ℕ) → ga ≡ g → ua ≡ u → u ≡ t → t < g + 8 → ga ≤ ca → ca ≤ b1 → cb ≡ b1 + 1 → cb ≤ ua → (g ≤ b1) × (b1 < g + 8) × (b1 ≡ t → ⊥)
      before_next ga ca b1 cb ua g u t e1 e2 e3 e4 e5 e6 e7 e8 = (omega arith, omega arith, λ is. omega arith)

      after_next : (ga ua m g u t d o : ℕ) → ga ≡ g → ua ≡ u → u ≡ t → g ≤ u → ua ≤ m → m < ga + 8 → o ≡ d + 1 → (m ≡ ua → o ≤ d) → (g ≤ m) × (m < g + 8) × (m ≡ t → ⊥)
      after_next ga ua m g u t d o e1 e2 e3 e4 e5 e6 e7 e8 = (omega arith, omega arith, λ is. let a = e8 (omega arith) in omega arith)

  pub asks_as : (run : P) (slots id : ℕ) (me : Me (Option L) (Note P)) (i d k : ℕ) → me.0.run ≡ run → i ≡ me.0.shard → d < (plan run).shards → k ≡ taken_word (plan run) i d → Allows (ExchangeRule run (plan run)) slots id me k (λ n. n) (Asks plan (step slots k 0 0 none) me)
  asks_as run slots id me i d k same own ltd word =
      subst (λ (y : P × ℕ). Allows (ExchangeRule y.0 (plan y.0)) slots id me y.1 (λ n. n) (Asks plan (step slots y.1 0 0 none) me)) (λ j. (same j, (ap (λ (y : P × ℕ). taken_word (plan y.0) y.1 d) (λ j. (same j, sym own j)) ∙ sym word) j))
      (asks slots id me d (subst (λ (x : P). d < (plan x).shards) (sym same) ltd))

  pub told_of : (run : P) (me me' : Me (Option L) (Note P)) (i d k n : ℕ) → me.0.run ≡ run → i ≡ me.0.shard → d < (plan run).shards → k ≡ taken_word (plan run) i d → Asks plan (step 0 k 0 0 none) me n me' → Told (plan run) me me' d n
  told_of run me me' i d k n same own ltd word t =
      let p : Plan L = plan me.0.run in
      let lt : d < p.shards = subst (λ (y : P). d < (plan y).shards) (sym same) ltd in
      let e : taken_word p me.0.shard d ≡ taken_word p me.0.shard t.0 = ap (λ (y : P × ℕ). taken_word (plan y.0) y.1 d) (λ j. (same j, sym own j)) ∙ (sym word ∙ t.2) in
      let is : t.0 ≡ d = sym (same_word p me.0.shard d me.0.shard t.0 lt t.1 e).1 in
      subst (λ (y : P × ℕ). Told (plan y.0) me me' y.1 n) (λ j. (same j, is j)) record { told = t.3; takes_out = t.4; leaves = t.5 }
