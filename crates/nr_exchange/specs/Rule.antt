-- The exchange rule: what words, places and views show together, between any two steps. This project's own.
use Rattle.std.specs.Prelude.{◌≡◌, ℕ, ◌+◌, ◌^◌, ◌<◌, ◌≤◌, true, List, Option, length, slice_index}
use mathlib.Core.Option.{some}
use lib.ListN.{get_elem?}
use Rattle.atomic_table.specs.Table.{State}
use Rattle.nr_exchange.specs.declared.note.Link.{Link}
use Rattle.nr_exchange.specs.declared.note.Note.{Note}
use Rattle.nr_exchange.specs.Plan.{Plan, chunks_to}
use Rattle.nr_exchange.specs.Notes.{mark, number, abandoned, out, link_of, room_of}
use Rattle.nr_exchange.specs.Places.{words, places, taken_word, ArePlaced}

module _ {P L : Type 0} (run : P) (p : Plan L) where
  -- the view of port i: the run, and the row of shard i
  pub record IsNote (i : ℕ) (v : Note P) : Type 0 where
    pub of_run : v.run ≡ run
    pub of_shard : v.shard ≡ i
    pub linked : length v.links ≡ p.shards
    pub roomed : length v.rooms ≡ p.shards
    pub within : v.number ≤ p.heights

  -- what a port knows of shard s: it claimed what it saw, saw what was published, and gave back what it claimed
  pub record IsLink (views : List (Note P)) (l : Link) (s : ℕ) : Type 0 where
    pub claimed_seen : l.claimed ≤ l.seen
    pub seen_shown : l.seen ≤ number views s
    pub mark_shown : l.marked ≡ true → abandoned views s ≡ true
    pub given_claimed : l.given ≤ chunks_to p s l.claimed

  -- the ring from s to d: what s knows as taken was given back, no more than 8 lists are published beyond, and fewer
  -- where s holds the place for the next one
  pub record IsRing (views : List (Note P)) (s d : ℕ) : Type 0 where
    pub known : (room_of views s d).taken ≤ (link_of views d s).given
    pub ahead : chunks_to p s (number views s) ≤ (link_of views d s).given + 8
    pub room : d < out views s → chunks_to p s (number views s) < (link_of views d s).given + 8

  pub record ExchangeRule (s : State (Option L) (Note P)) : Type 0 where
    -- a published word for each shard, a taken word for each link, and the places
    pub words : length s.words ≡ words p
    pub places : length s.homes ≡ places p
    pub small : p.heights < 2 ^ 32
    -- the ports that were made have the first numbers, a view each, and port 0 notes how many they are
    pub seats : length s.views ≤ p.shards
    pub made : (v : Note P) → get_elem? s.views 0 ≡ some v → v.made ≡ length s.views
    pub notes : (i : ℕ) (v : Note P) → get_elem? s.views i ≡ some v → IsNote i v
    -- each published word is the shard's number with its mark, as its row notes them; a shard with no port has 0 and
    -- none
    pub shown : (i : ℕ) → i < p.shards → slice_index s.words i ≡ number s.views i + mark (abandoned s.views i)
    -- each taken word is what the row of its destination notes as given back
    pub taken : (i d : ℕ) → i < p.shards → d < p.shards → slice_index s.words (taken_word p i d)
        ≡ (link_of s.views d i).given
    -- what each port knows of each shard is so
    pub links : (d i : ℕ) → IsLink s.views (link_of s.views d i) i
    pub rings : (i d : ℕ) → i < p.shards → d < p.shards → IsRing s.views i d
    -- each list that was published and not claimed is in its place
    pub placed : ArePlaced p s.homes s.views
