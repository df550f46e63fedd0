-- What a port knows while it looks for room on each link.
use Rattle.std.proofs.Common.{◌≡◌, ℕ, ◌+◌, ◌<◌, ◌≤◌, le_refl, List, ◌∷◌, length, set, get_or, refl, sym, ap, ◌∙◌, subst, arith, add-one, length-set, get_or-set_same, get_or-set_other}
use Rattle.std.specs.Prelude.{Option}
use mathlib.Core.Logic.{dite}
use native.Mathlib.Decide.{ℕ_discrete}
use mathlib.Core.Option.{none}
use Rattle.atomic_table.specs.Table.{Me, step}
use Rattle.nr_exchange.specs.declared.note.Room.{Room}
use Rattle.nr_exchange.specs.declared.note.Note.{Note}
use Rattle.nr_exchange.specs.Plan.{Plan, chunks_to}
use Rattle.nr_exchange.specs.Places.{place, spaces, taken_word}
use Rattle.nr_exchange.specs.Notes.{no_room, room, with_rooms, asked, held}
use Rattle.nr_exchange.specs.Steps.{sent, Asks}
use Rattle.nr_exchange.specs.Seats.{HasOut}
use Rattle.nr_exchange.specs.Ports.{IsAsked, HaveRoom, HasNoRoom}
use Rattle.nr_exchange.proofs.Asking.{Told, told_of}

module _ {P L : Type 0} (p : Plan L) where
  -- the first k links have room, and at least their places are out
  pub record IsLooking (m₀ m : Me (Option L) (Note P)) (k : ℕ) : Type 0 where
    pub room : HaveRoom p m₀.0 m.0 k
    pub held : HasOut p m
    pub far : k ≤ m.0.out

  pub looks_first : (m : Me (Option L) (Note P)) → HasOut p m → IsLooking m m 0
  looks_first m out = record {
    room = record { rest = refl; all = refl; asked = λ d lt. absurd (omega arith); free = λ d lt. absurd (omega arith); others = λ d le. refl };
    held = out;
    far = omega arith;
  }

  pub sent_stays : (v w : Note P) (k : ℕ) → HaveRoom p v w k → sent p w ≡ sent p v
  sent_stays v w k h = ap (λ (x : Note P). chunks_to p x.shard x.number) h.rest

  more_room : (v w : Note P) (k o n : ℕ) → HaveRoom p v w k → k < length v.rooms → (room w k).taken ≤ n → sent p v < n + 8
      → HaveRoom p v (with_rooms w o (set w.rooms k (record { taken = n; loads = (room w k).loads + 1 }))) (k + 1)
  more_room v w k o n h lt later free =
      let new : Room = record { taken = n; loads = (room w k).loads + 1 } in
      let here : get_or (set w.rooms k new) k no_room ≡ new = get_or-set_same w.rooms k new no_room (let a = h.all in omega arith) in
      let same : room w k ≡ room v k = h.others k (le_refl k) in
      record {
        rest = ap (λ (u : Note P). with_rooms u o (set w.rooms k new)) h.rest;
        all = length-set w.rooms k new ∙ h.all;
        asked = λ d below. dite (ℕ_discrete d k)
            (λ e. subst (λ (j : ℕ). IsAsked (room v j) (get_or (set w.rooms k new) j no_room)) (sym e) (subst (λ (r : Room). IsAsked (room v k) r) (sym here) record { once = ap (λ (r : Room). r.loads + 1) same; later = subst (λ (r : Room). r.taken ≤ n) same later }))
            (λ ne. subst (λ (r : Room). IsAsked (room v d) r) (sym (get_or-set_other w.rooms k d new no_room ne)) (h.asked d (omega arith)));
        free = λ d below. dite (ℕ_discrete d k)
            (λ e. subst (λ (j : ℕ). sent p v < (get_or (set w.rooms k new) j no_room).taken + 8) (sym e) (subst (λ (r : Room). sent p v < r.taken + 8) (sym here) free))
            (λ ne. subst (λ (r : Room). sent p v < r.taken + 8) (sym (get_or-set_other w.rooms k d new no_room ne)) (h.free d (omega arith)));
        others = λ d above. get_or-set_other w.rooms k d new no_room (λ e. omega arith) ∙ h.others d (omega arith);
      }

  after : (m₀ m m' : Me (Option L) (Note P)) (k n : ℕ) → k < p.shards → IsLooking m₀ m k → k < length m₀.0.rooms → (room m.0 k).taken ≤ n → sent p m₀.0 < n + 8
      → (x : Option L) → m.0.out ≡ k → m' ≡ (held m.0 k n, (place p m.0.shard k (sent p m.0), x) ∷ m.1) → IsLooking m₀ m' (k + 1)
  after m₀ m m' k n ltk look lt later free x next is =
      subst (λ (u : Me (Option L) (Note P)). IsLooking m₀ u (k + 1)) (sym is) record {
        room = more_room m₀.0 m.0 k (k + 1) n look.room lt later free;
        held = record {
          within = (omega arith);
          places = (ap (λ (l : List ℕ). place p m.0.shard k (sent p m.0) ∷ l) (look.held.places ∙ ap (spaces p m.0.shard (sent p m.0)) next) ∙ ap (spaces p m.0.shard (sent p m.0)) (sym (add-one k)));
        };
        far = le_refl (k + 1);
      }

  pub looks_on : (m₀ m m' : Me (Option L) (Note P)) (k n : ℕ) → k < p.shards → length m₀.0.rooms ≡ p.shards → IsLooking m₀ m k → Told p m m' k n → sent p m₀.0 < n + 8 → IsLooking m₀ m' (k + 1)
  looks_on m₀ m m' k n ltk all look t free =
      let same : sent p m.0 ≡ sent p m₀.0 = sent_stays m₀.0 m.0 k look.room in
      let u : ℕ = sent p m.0 in let u' : ℕ = sent p m₀.0 in let same' : u ≡ u' = same in let free' : u' < n + 8 = free in
      let fits : u < n + 8 = omega arith in
      let lt : k < length m₀.0.rooms = omega arith in
      dite (ℕ_discrete m.0.out k)
      (λ next. let got = t.takes_out next fits in after m₀ m m' k n ltk look lt t.told.later free got.0 next got.1)
      (λ other. subst (λ (w : Me (Option L) (Note P)). IsLooking m₀ w (k + 1)) (sym (t.leaves (λ e. absurd (other e)))) record {
        room = more_room m₀.0 m.0 k m.0.out n look.room lt t.told.later free;
        held = record { within = look.held.within; places = look.held.places };
        far = (let f = look.far in omega arith);
      })

  -- the link to k has no room
  pub looks_full : (m₀ m m' : Me (Option L) (Note P)) (k n : ℕ) → k < p.shards → IsLooking m₀ m k → Told p m m' k n → n + 8 ≤ sent p m₀.0 → HasNoRoom p m₀.0 m'.0 k n × HasOut p m'
  looks_full m₀ m m' k n ltk look t full =
      let same : sent p m.0 ≡ sent p m₀.0 = sent_stays m₀.0 m.0 k look.room in
      let u : ℕ = sent p m.0 in let u' : ℕ = sent p m₀.0 in let same' : u ≡ u' = same in let full' : n + 8 ≤ u' = full in
      let ahead : u ≤ n + 8 = t.told.ahead in
      let at : m' ≡ (asked m.0 k n, m.1) = t.leaves (λ _. let e : n + 8 ≤ u = omega arith in e) in (
        record { inside = ltk; full = (let e : u' ≡ n + 8 = omega arith in e); found = (m.0, look.room, t.told.later, ap (λ (x : Me (Option L) (Note P)). x.0) at) },
        subst (λ (x : Me (Option L) (Note P)). HasOut p x) (sym at) record { within = look.held.within; places = look.held.places },
      )

  -- every link has room
  pub looks_done : (m₀ m : Me (Option L) (Note P)) → IsLooking m₀ m p.shards → m.0.out ≡ p.shards
  looks_done m₀ m look = let a = look.far in let b = look.held.within in omega arith

module _ {P L : Type 0} (plan : P → Plan L) where
  pub told_at : (run : P) (m₀ m m' : Me (Option L) (Note P)) (i d k n : ℕ) → IsLooking (plan run) m₀ m d → m₀.0.run ≡ run → i ≡ m₀.0.shard → d < (plan run).shards → k ≡ taken_word (plan run) i d → Asks plan (step 0 k 0 0 none) m n m' → Told (plan run) m m' d n
  told_at run m₀ m m' i d k n look same own ltd word t =
      told_of plan run m m' i d k n (ap (λ (v : Note P). v.run) look.room.rest ∙ same) (own ∙ sym (ap (λ (v : Note P). v.shard) look.room.rest)) ltd word t
