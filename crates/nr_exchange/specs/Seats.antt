-- What a port keeps beside its seat. This project's own.
use Rattle.std.specs.Prelude.{◌≡◌, ℕ, ◌<◌, ◌≤◌, Bool, List, Option, Some, map, length, slice_get, slice_index}
use Rattle.atomic_table.specs.Seated.{TableId}
use Rattle.atomic_table.specs.Table.{Me}
use Rattle.nr_exchange.specs.declared.note.Note.{Note}
use Rattle.nr_exchange.specs.Plan.{Plan, chunks_to}
use Rattle.nr_exchange.specs.Notes.{fresh, link}
use Rattle.nr_exchange.specs.Places.{spaces}
use Rattle.nr_exchange.specs.Steps.{sent}
use Rattle.nr_exchange.specs.Views.{PortView}

module _ {P L : Type 0} (p : Plan L) where
  -- the places that are out with a port are those for its next list, to the first destinations
  pub record HasOut (me : Me (Option L) (Note P)) : Type 0 where
    pub within : me.0.out ≤ p.shards
    pub places : map (λ x. x.0) me.1 ≡ spaces p me.0.shard (sent p me.0) me.0.out

  -- the port gave back the place of each list that it claimed
  pub record HasTaken (v : Note P) (taken : List ℕ) : Type 0 where
    pub all : length taken ≡ length v.links
    pub each : (s : ℕ) → slice_index taken s ≡ (link v s).given
    pub whole : (s : ℕ) → (link v s).given ≡ chunks_to p s (link v s).claimed

  pub record IsSeated (me : Me (Option L) (Note P)) (shard : ℕ) (abandoned : Bool) (published : ℕ)
      (taken : List ℕ) : Type 0 where
    pub shard_is : shard ≡ me.0.shard
    pub abandoned_is : abandoned ≡ me.0.abandoned
    pub published_are : published ≡ sent p me.0
    pub has_taken : HasTaken me.0 taken
    pub has_out : HasOut me

module _ {P : Type 0} (table : TableId) (key : P) (shards : ℕ) where
  -- port i, which has done nothing
  pub record IsStart (i made : ℕ) (p : PortView P) : Type 0 where
    pub name_is : p.name ≡ table
    pub note_is : p.note ≡ fresh key shards i made

  -- the first k ports, each on a seat of its own
  pub record AreSplit (k : ℕ) (ports : List (PortView P)) : Type 0 where
    pub all : length ports ≡ k
    pub front : (p : PortView P) × (slice_get ports 0 ≡ Some p) × IsStart 0 k p
    pub others : (i : ℕ) → 0 < i → i < k → (p : PortView P) × (slice_get ports i ≡ Some p) × IsStart i 0 p
