-- What each kind of step tells its port. This project's own.
use Rattle.std.specs.Prelude.{◌≡◌, ℕ, ◌+◌, ◌-◌, ◌%◌, ◌^◌, ◌<◌, ◌≤◌, true, [], ◌∷◌, Option}
use Rattle.atomic_table.specs.Table.{Me, Step, rest}
use Rattle.nr_exchange.specs.declared.note.Note.{Note}
use Rattle.nr_exchange.specs.Plan.{Plan, list_of, chunks_to, IsNextChunk}
use Rattle.nr_exchange.specs.Places.{place, taken_word}
use Rattle.nr_exchange.specs.Notes.{link, room, looked, claims, gave_back, asked, held, passed, raised, gives_up}

-- the number loaded is no less than what was seen, a mark that was seen is there again, and the own word is known
pub record Tells {P : Type 0} (v : Note P) (s n : ℕ) : Type 0 where
  pub later : (link v s).seen ≤ n % 2 ^ 32
  pub kept : (link v s).marked ≡ true → 2 ^ 32 ≤ n
  pub own : s ≡ v.shard → n % 2 ^ 32 ≡ v.number

-- how many lists a port has published to each shard
abbrev pub sent : {P L : Type 0} → Plan L → Note P → ℕ
sent p v = chunks_to p v.shard v.number

-- the number of lists taken is no less than what was known, and at most 8 behind what was published, or 7 where the
-- port holds the next place
pub record TellsTaken {P L : Type 0} (p : Plan L) (v : Note P) (d n : ℕ) : Type 0 where
  pub later : (room v d).taken ≤ n
  pub within : n ≤ sent p v
  pub ahead : sent p v ≤ n + 8
  pub room_held : d < v.out → sent p v < n + 8

module _ {P L : Type 0} (plan : P → Plan L) where
  abbrev pub Seated : Type 0
  Seated = Me (Option L) (Note P)

  -- a load of a published word
  abbrev pub Looks : Step (Option L) → Seated → ℕ → Seated → Type 0
  Looks st m n m' = Tells m.0 st.word n × (m' ≡ (looked m.0 st.word n, m.1))

  -- a load that claims the next list where it is published
  abbrev pub Tries : Step (Option L) → Seated → ℕ → Seated → Type 0
  Tries st m n m' = Tells m.0 st.word n
      × ((h : ℕ) × IsNextChunk (plan m.0.run) st.word (link m.0 st.word).claimed h
      × (h ≤ n % 2 ^ 32 → m' ≡ (
        claims m.0 st.word n h,
        (
          place (plan m.0.run) st.word m.0.shard (chunks_to (plan m.0.run) st.word (h - 1)),
          list_of (plan m.0.run) st.word h m.0.shard,
        ) ∷ m.1,
      ))
      × (n % 2 ^ 32 < h → m' ≡ (looked m.0 st.word n, m.1)))

  -- the place of a claimed list goes home
  abbrev pub GivesBack : Step (Option L) → Seated → ℕ → Seated → Type 0
  GivesBack st m n m' =
      (s : ℕ) × (s < (plan m.0.run).shards) × (st.word ≡ taken_word (plan m.0.run) s m.0.shard)
      × (m' ≡ (gave_back m.0 s, rest m.1))

  -- a load of a taken word that takes out the place for the next list, where there is room and it is the next one to
  -- be taken out
  abbrev pub Asks : Step (Option L) → Seated → ℕ → Seated → Type 0
  Asks st m n m' =
      (d : ℕ) × (d < (plan m.0.run).shards) × (st.word ≡ taken_word (plan m.0.run) m.0.shard d)
      × TellsTaken (plan m.0.run) m.0 d n
      × (m.0.out ≡ d → sent (plan m.0.run) m.0 < n + 8 → (x : Option L)
      × (m' ≡ (held m.0 d n, (place (plan m.0.run) m.0.shard d (sent (plan m.0.run) m.0), x) ∷ m.1)))
      × ((m.0.out ≡ d → n + 8 ≤ sent (plan m.0.run) m.0) → m' ≡ (asked m.0 d n, m.1))

  -- the places go home, and the number rises
  abbrev pub Raises : Step (Option L) → Seated → ℕ → Seated → Type 0
  Raises st m n m' = m' ≡ (raised m.0, [])

  -- the number rises past a missing chunk
  abbrev pub Passes : Step (Option L) → Seated → ℕ → Seated → Type 0
  Passes st m n m' = m' ≡ (passed m.0, m.1)

  abbrev pub GivesUp : Step (Option L) → Seated → ℕ → Seated → Type 0
  GivesUp st m n m' = m' ≡ (gives_up m.0, m.1)
