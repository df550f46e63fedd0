-- A chunk that is gathered of a chain and run again. This project's own.
use Rattle.std.specs.Prelude.{◌≡◌, ℕ, ◌+◌, ◌<◌, true, Some, Ok}
use Rattle.std.specs.Option.{option_map}
use Rattle.nr_chunk.specs.Chain.{Chain, rules_of}
use Rattle.nr_extract.specs.Chunk.{before, gathered_chunk}
use Rattle.nr_extract.specs.Shown.{IsShown}
use Rattle.nr_gathered.specs.declared.gathered.Gathered.{Gathered}
use Rattle.nr_overlap.specs.Serial.{sealing_at}
use Rattle.nr_recheck.specs.Laws.{EndsWell, HasIds}
use Rattle.nr_recheck.specs.Rechecking.{rechecked}
use Rattle.nr_records.specs.declared.chunk_result.ChunkResult.{ChunkResult}
use Rattle.nr_state.specs.Flat.{flat}
use Rattle.nr_state.specs.World.{World}
use Rattle.nr_walk.specs.Shown.{IsOf}
use Rattle.nr_walk.specs.Texts.{texts_of}

-- of the chunk of a shard at the height after this one
module _ (x : Chain) (shard below : ℕ) where
  -- what is gathered for it
  abbrev pub chunk : Gathered
  chunk = gathered_chunk x shard below

  -- the state before it
  abbrev pub state : World
  state = (before x shard below).world

  -- it is there, and the state before it is one that a chunk is run again from and agrees with the texts
  pub record IsGathered : Type 0 where
    pub inside : shard < (rules_of x).shards
    pub within : below < (rules_of x).heights
    pub present : (rules_of x).present shard (below + 1) ≡ true
    pub ids : HasIds chunk
    pub shown : IsShown state
    pub agrees : IsOf (texts_of chunk.texts) chunk.prior_root (flat state)

  -- run again it is answered with a report
  abbrev pub IsAnswered : Type 0
  IsAnswered = (report : ChunkResult) × (rechecked x.config x.call chunk ≡ Ok report)

  -- a report that it is answered with is the one that the serial run has
  abbrev pub IsSerialReport : ChunkResult → Type 0
  IsSerialReport report = EndsWell x.config x.call chunk → rechecked x.config x.call chunk ≡ Ok report
      → option_map (λ z. z.report) (sealing_at (rules_of x) shard (below + 1)) ≡ Some report
