-- Where lists lie on their way: a ring of eight places for each source and destination. The words of the exchange are
-- a published word for each shard and a taken word for each source and destination. This project's own.
use Rattle.std.specs.Prelude.{◌≡◌, ℕ, zero, suc, ◌+◌, ◌-◌, ◌*◌, ◌%◌, ◌<◌, ◌≤◌, true, List, [], ◌∷◌, Option}
use mathlib.Core.Option.{some}
use mathlib.Core.Option as maybe
use lib.ListN.{get_elem?}
use Rattle.nr_exchange.specs.declared.note.Note.{Note}
use Rattle.nr_exchange.specs.Plan.{Plan, list_of, chunks_to}
use Rattle.nr_exchange.specs.Notes.{number, out, link_of}

module _ {L : Type 0} (p : Plan L) where
  -- the number of the link from a source to a destination
  abbrev pub way : ℕ → ℕ → ℕ
  way s d = s * p.shards + d

  -- the place on that link for the list that comes after n others
  abbrev pub place : ℕ → ℕ → ℕ → ℕ
  place s d n = way s d * 8 + n % 8

  -- how many places there are
  abbrev pub places : ℕ
  places = p.shards * p.shards * 8

  -- the taken word of that link
  abbrev pub taken_word : ℕ → ℕ → ℕ
  taken_word s d = p.shards + way s d

  -- how many words there are
  abbrev pub words : ℕ
  words = p.shards + p.shards * p.shards

  -- the places to the first destinations for the list that comes after n others, the last one first
  abbrev pub spaces : ℕ → ℕ → ℕ → List ℕ
  spaces s n zero = []
  spaces s n (suc k) = place s k n ∷ spaces s n k

  -- the same, with the lists of height h
  abbrev pub carry : ℕ → ℕ → ℕ → ℕ → List (ℕ × Option L)
  carry s n h zero = []
  carry s n h (suc k) = (place s k n, list_of p s h k) ∷ carry s n h k

  -- what is at home
  pub record ArePlaced {P : Type 0} (homes : List (maybe.Option (Option L))) (views : List (Note P)) : Type 0 where
    -- each list that was published and not claimed
    pub lists : (s h d : ℕ) → s < p.shards → d < p.shards → p.present s h ≡ true → (link_of views d s).claimed < h
        → h ≤ number views s → get_elem? homes (place s d (chunks_to p s (h - 1))) ≡ some (some (list_of p s h d))
    -- and each place for a later list that the ring has room for, but for those of the next one that its publisher
    -- has out
    pub free : (s d n : ℕ) → s < p.shards → d < p.shards → chunks_to p s (number views s) ≤ n
        → n < (link_of views d s).given + 8 → (n ≡ chunks_to p s (number views s) → out views s ≤ d) → (x : Option L)
        × (get_elem? homes (place s d n) ≡ some (some x))
