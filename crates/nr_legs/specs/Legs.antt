-- A run that goes on under other boundaries where a chain is over: its start is the cut of the last worlds and of
-- the lists of the last block. This project's own.
use Rattle.std.specs.Prelude.{◌≡◌, ℕ, ◌+◌, ◌<◌, true, List, [], map, sum_by, unwrap_or}
use Rattle.std.specs.List.{flat_map}
use Rattle.nr_chunk.specs.Chain.{Chain, IsChain, rules_of}
use Rattle.nr_chunk.specs.Start.{IsStart, Start, start_tokens}
use Rattle.nr_cut.specs.Cut.{AreApart, carried, cut_worlds}
use Rattle.nr_overlap.specs.Inside.{AreInside}
use Rattle.nr_ids.specs.declared.number.Height.{Height}
use Rattle.nr_ids.specs.declared.number.ShardId.{ShardId}
use Rattle.nr_overlap.specs.Outcome.{lists_left}
use Rattle.nr_overlap.specs.Run.{ending, opening, run_of}
use Rattle.nr_overlap.specs.Serial.{list_to, sealing_at, shard_numbers, world_after}
use Rattle.nr_overlap.specs.declared.event.Event.{Event}
use Rattle.nr_overlap.specs.declared.position.Position.{Position}
use Rattle.nr_places.specs.Moments.{routed, executed, postponed, delayed, flying}
use Rattle.nr_places.specs.Places.{start_receipts}
use Rattle.nr_places.specs.Totals.{tally_at}
use Rattle.nr_records.specs.declared.receipt.Receipt.{Receipt}
use Rattle.nr_state.specs.World.{World}

module _ (x : Chain) where
  -- each shard's last world
  abbrev pub last_worlds : List World
  last_worlds = map (λ s. (world_after (rules_of x) s (rules_of x).heights).world) (shard_numbers (rules_of x))

  -- what the chunks of the last block sent, by source and then by destination
  abbrev pub sent_to : ℕ → ℕ → List Receipt
  sent_to s d = unwrap_or (list_to (rules_of x) (sealing_at (rules_of x) s (rules_of x).heights) d) []

  abbrev pub sent_from : ℕ → List (List Receipt)
  sent_from s = map (sent_to s) (shard_numbers (rules_of x))

  abbrev pub last_lists : List (List Receipt)
  last_lists = flat_map sent_from (shard_numbers (rules_of x))

  -- the start of what follows
  abbrev pub cut_start : List (List ℕ) → Start
  cut_start new = record {
    boundaries = new;
    below = x.start.below + (rules_of x).heights;
    worlds = cut_worlds new last_worlds;
    carried = carried new last_lists;
  }

  -- there is a last block, and it has each chunk
  pub record EndsWhole : Type 0 where
    pub some : 0 < (rules_of x).heights
    pub there : (s : ℕ) → s < (rules_of x).shards → (rules_of x).present s (rules_of x).heights ≡ true

  -- there is a last block, it has each chunk, and each world has what lives in its shard
  pub record CanGoOn : Type 0 where
    pub some : 0 < (rules_of x).heights
    pub there : (s : ℕ) → s < (rules_of x).shards → (rules_of x).present s (rules_of x).heights ≡ true
    pub apart : AreApart x.start.boundaries last_worlds

  -- it is a start, which has the tokens and the receipts of the end
  pub record GoesOn (new : List (List ℕ)) : Type 0 where
    pub start : IsStart x.config (cut_start new)
    pub tokens : start_tokens x.config (cut_start new)
        ≡ (tally_at x (ending (rules_of x))).accounts + (tally_at x (ending (rules_of x))).receipts
    pub receipts : (f : Receipt → ℕ) → start_receipts f (cut_start new)
        ≡ sum_by f (postponed x (ending (rules_of x))) + sum_by f (delayed x (ending (rules_of x))) + sum_by f
        (flying x (ending (rules_of x)))

-- ---- of a list that no chunk takes, what it has: together they are the lists of the last block
abbrev pub left_of : ShardId × Height × ShardId × List Receipt → List Receipt
left_of l = l.3

abbrev pub LeavesLast : Chain → Type 0
LeavesLast x = map left_of (lists_left (rules_of x)) ≡ last_lists x

-- ---- both legs as one run: at each moment of the second all adds up to what the first started with
pub record HoldsOver (x y : Chain) (ps : List Position) : Type 0 where
  pub tokens : (tally_at y ps).accounts + (tally_at y ps).receipts +
      ((tally_at x (ending (rules_of x))).burnt + (tally_at y ps).burnt) ≡ start_tokens x.config x.start
  pub places : (f : Receipt → ℕ) → start_receipts f x.start +
      (sum_by f (routed x (ending (rules_of x))) + sum_by f (routed y ps))
      ≡ (sum_by f (executed x (ending (rules_of x))) + sum_by f (executed y ps)) + sum_by f (postponed y ps)
      + sum_by f (delayed y ps) + sum_by f (flying y ps)

abbrev pub HoldsAcross : Chain → Type 0
HoldsAcross x = (new : List (List ℕ)) (y : Chain) → y.config ≡ x.config → y.start ≡ cut_start x new → IsChain y
    → (es : List Event) → AreInside (rules_of y).shards es
    → HoldsOver x y (run_of (rules_of y) (opening (rules_of y)) es)
