-- What clauses say of an exchange and its ports. This project's own.
use Rattle.std.specs.Prelude.{◌≡◌, ℕ, ◌+◌, ◌%◌, ◌^◌, ◌<◌, ◌≤◌, Bool, true, List, Option, Some, None, Result, Ok, Err}
use Rattle.std.specs.Prelude.{length, nat_le, slice_get, slice_index}
use Rattle.nr_exchange.specs.declared.note.Link.{Link}
use Rattle.nr_exchange.specs.declared.note.Room.{Room}
use Rattle.nr_exchange.specs.declared.note.Note.{Note}
use Rattle.nr_exchange.specs.declared.port.Parcel.{Parcel}
use Rattle.nr_exchange.specs.declared.port.Parcel.TheVariants.{Whole, Abandoned}
use Rattle.nr_exchange.specs.declared.port.NotYet.{NotYet}
use Rattle.nr_exchange.specs.declared.port.Full.{Full}
use Rattle.nr_exchange.specs.Plan.{Plan, list_of}
use Rattle.nr_exchange.specs.Notes.{fresh, link, room, looked, claims, gave_back, with_rooms, asked, raised}
use Rattle.nr_exchange.specs.Steps.{Tells, sent}
use Rattle.nr_exchange.specs.Views.{ExchangeView, PortView}

-- the seat of the port that was made for a shard
abbrev pub seat_of : {P : Type 0} → ExchangeView P → ℕ → ℕ
seat_of e s = slice_index e.seats s

-- the port is the one that was made with the exchange for its shard. The run has this plan
pub record IsPortOf {P L : Type 0} (plan : P → Plan L) (e : ExchangeView P) (p : PortView P) : Type 0 where
  pub name : p.name ≡ e.name
  pub run : p.note.run ≡ e.run
  pub seat : p.seat ≡ seat_of e p.note.shard
  pub inside : p.note.shard < (plan e.run).shards
  pub linked : length p.note.links ≡ (plan e.run).shards
  pub roomed : length p.note.rooms ≡ (plan e.run).shards

module _ {P : Type 0} where
  -- a port that has done nothing
  abbrev pub start_port : ExchangeView P → ℕ → ℕ → ℕ → PortView P
  start_port e shards i made = record { name = e.name; seat = seat_of e i; note = fresh e.run shards i made }

  -- the first k ports, of which port 0 notes that there are k
  pub record AreMade (e : ExchangeView P) (shards k : ℕ) (ports : List (PortView P)) : Type 0 where
    pub all : length ports ≡ k
    pub front : slice_get ports 0 ≡ Some (start_port e shards 0 k)
    pub others : (i : ℕ) → 0 < i → i < k → slice_get ports i ≡ Some (start_port e shards i 0)

  -- the answer of a take that loaded n. The place of a list that was found is given back
  abbrev pub Answers : {L : Type 0} → Plan L → ℕ → ℕ → Note P → ℕ → Result (Parcel L) NotYet → Note P → Type 0
  Answers p s h v n (Ok (Whole l)) w =
      (h ≤ n % 2 ^ 32) × (list_of p s h v.shard ≡ Some l) × (w ≡ gave_back (claims v s n h) s)
  Answers p s h v n (Ok (Abandoned k)) w = (k ≡ n % 2 ^ 32) × (n % 2 ^ 32 < h) × (2 ^ 32 ≤ n) × (w ≡ looked v s n)
  Answers p s h v n (Err e) w = (e.published ≡ n % 2 ^ 32) × (n % 2 ^ 32 < h) × (n < 2 ^ 32) × (w ≡ looked v s n)

  abbrev pub Takes : {L : Type 0} → Plan L → ℕ → ℕ → Note P → Result (Parcel L) NotYet → Note P → Type 0
  Takes p s h v answer w = (n : ℕ) × Tells v s n × Answers p s h v n answer w

  -- the answer is the mark that was loaded
  abbrev pub Marks : ℕ → Note P → Bool → Note P → Type 0
  Marks s v answer w = (n : ℕ) × Tells v s n × (answer ≡ nat_le (2 ^ 32) n) × (w ≡ looked v s n)

-- a published word was loaded once more: the number is no less than before, and a mark that was seen is there again
pub record IsLooked (before after : Link) : Type 0 where
  pub once : after.loads ≡ before.loads + 1
  pub later : before.seen ≤ after.seen
  pub kept : before.marked ≡ true → after.marked ≡ true

-- a taken word was loaded once more, and was no less than before
pub record IsAsked (before after : Room) : Type 0 where
  pub once : after.loads ≡ before.loads + 1
  pub later : before.taken ≤ after.taken

module _ {P L : Type 0} (p : Plan L) (v w : Note P) where
  -- the taken words of the links to the first k destinations were loaded, and each of these has room for one list more
  pub record HaveRoom (k : ℕ) : Type 0 where
    pub rest : w ≡ with_rooms v w.out w.rooms
    pub all : length w.rooms ≡ length v.rooms
    pub asked : (d : ℕ) → d < k → IsAsked (room v d) (room w d)
    pub free : (d : ℕ) → d < k → sent p v < (room w d).taken + 8
    pub others : (d : ℕ) → k ≤ d → room w d ≡ room v d

module _ {P L : Type 0} (p : Plan L) (v w : Note P) where
  -- the link to a destination, which took so many lists, is the first that has no room
  pub record HasNoRoom (dest taken : ℕ) : Type 0 where
    pub inside : dest < p.shards
    pub full : sent p v ≡ taken + 8
    pub found : (u : Note P) × HaveRoom p v u dest × ((room u dest).taken ≤ taken) × (w ≡ asked u dest taken)

module _ {P : Type 0} where
  -- the answer of a search for room on each link
  abbrev pub LooksForRoom : {L : Type 0} → Plan L → Note P → Option (ℕ × ℕ) → Note P → Type 0
  LooksForRoom p v None w = HaveRoom p v w p.shards × (w.out ≡ p.shards)
  LooksForRoom p v (Some found) w = HasNoRoom p v w found.0 found.1

  -- the answer of a call to publish lists
  abbrev pub Publishes : {L : Type 0} → Plan L → List L → Note P → Result (Unit {0}) (Full L) → Note P → Type 0
  Publishes p lists v (Ok _) w = (u : Note P) × HaveRoom p v u p.shards × (w ≡ raised u)
  Publishes p lists v (Err full) w = (full.lists ≡ lists) × HasNoRoom p v w full.dest.0 full.taken

-- ---- what these answers come to
-- a try to take a list, whatever it answers, loads the word of its source once
abbrev pub TriesLook : Type 0 → Type 0 → Type 0
TriesLook P L =
    (p : Plan L) (s h : ℕ) (v w : Note P) (answer : Result (Parcel L) NotYet) → s < length v.links
    → Takes p s h v answer w → IsLooked (link v s) (link w s)

-- and so does a look for a mark
abbrev pub MarksLook : Type 0 → Type 0
MarksLook P =
    (s : ℕ) (v w : Note P) (answer : Bool) → s < length v.links → Marks s v answer w → IsLooked (link v s) (link w s)
