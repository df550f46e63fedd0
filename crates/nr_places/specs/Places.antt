-- Where the receipts of a run are: executed, postponed, delayed or in flight. After the Nomicon, Runtime
-- Specification (Receipts); the amounts are this project's.
use Rattle.std.specs.Prelude.{◌≡◌, ℕ, zero, suc, ◌+◌, ◌-◌, true, false, cond, List, [], ◌∷◌, ◌++◌, Option, Some, None}
use Rattle.std.specs.Prelude.{length, slice_get, sum_by, unwrap_or}
use Rattle.nr_chunk.specs.Chain.{Chain, rules_of, chunk_at, opened_first, place_at}
use Rattle.nr_chunk.specs.Chunk.{Opening, begun, has_gas, serve, served_local, convert_all, without_front}
use Rattle.nr_chunk.specs.Serving.{CanServe}
use Rattle.nr_chunk.specs.Start.{Start}
use Rattle.nr_chunk.specs.Views.{Kept, Working}
use Rattle.nr_join.specs.Keeping.{leaving}
use Rattle.nr_join.specs.Offering.{offer}
use Rattle.nr_join.specs.declared.offered.Offered.TheVariants.{Run}
use Rattle.nr_overlap.specs.Balance.{Amount}
use Rattle.nr_overlap.specs.Serial.{due_after, last_work, list_to, sealing_at, work, world_after}
use Rattle.nr_records.specs.declared.chunk_result.ChunkResult.{ChunkResult}
use Rattle.nr_records.specs.declared.receipt.Receipt.{Receipt}
use Rattle.nr_state.specs.Queues.{is_act}
use Rattle.nr_state.specs.Tokens.{postponed_sum, delayed_sum}
use Rattle.nr_state.specs.World.{World}

-- an amount that receipts have, of those that wait in a world
abbrev pub waiting : (Receipt → ℕ) → World → ℕ
waiting f w = postponed_sum f w + delayed_sum f w

-- and of those of a start, that wait or are carried
abbrev pub start_receipts : (Receipt → ℕ) → Start → ℕ
start_receipts f s = sum_by (waiting f) s.worlds + sum_by (sum_by f) s.carried

module _ (x : Chain) where
  -- ---- the receipts that are executed: those that run or clash, and data that are stored, used or lost
  -- where one is served: none while the chunk has no gas left
  abbrev pub executes : Working → Receipt → List Receipt
  executes k r = cond (has_gas x.config k) (leaving r (offer k.world r).1) []

  -- one that a datum sets free passes from the postponed ones to these, in the same turn as the datum
  pub record Frees (k : Working) (datum freed : Receipt) : Type 0 where
    pub executed : executes k datum ≡ datum ∷ freed ∷ []
    pub postponed : (f : Receipt → ℕ) → postponed_sum f (serve x.config x.call k datum).world + f freed
        ≡ postponed_sum f k.world

  -- so it is wherever a chunk that has gas left serves such a datum
  abbrev pub FreesPostponed : Type 0
  FreesPostponed =
      (k : Working) (datum freed : Receipt) (inputs : List (Option (List ℕ))) (after : World)
      → CanServe x.config k (datum ∷ []) → has_gas x.config k ≡ true → is_act datum.body ≡ false
      → offer k.world datum ≡ (after, Run freed inputs) → Frees k datum freed

  abbrev pub executes_all : Working → List Receipt → List Receipt
  executes_all k [] = []
  executes_all k (r ∷ rest) = executes k r ++ executes_all (serve x.config x.call k r) rest

  -- where the delayed queue is served
  abbrev pub executes_queue : List Receipt → Working → List Receipt
  executes_queue [] k = []
  executes_queue (r ∷ rest) k =
      cond (has_gas x.config k) (executes (without_front k (r ∷ rest)) r ++ executes_queue rest
      (serve x.config x.call (without_front k (r ∷ rest)) r)) []

  -- in the opening: local receipts, and then the queue
  abbrev pub executes_delayed : Working → List Receipt
  executes_delayed k = executes_queue k.world.delayed k

  abbrev pub executes_opened : Opening → List Receipt
  executes_opened o = executes_all o.working o.local ++ executes_delayed (served_local x.config x.call o)

  -- what the chunk after a height makes of its transactions
  abbrev pub converted_at : ℕ → ℕ → Opening
  converted_at s h =
      convert_all x.config (begun (world_after (rules_of x) s h) (record { 0 = s }) (place_at x (h + 1)))
      (unwrap_or (chunk_at x s (h + 1)) [])

  -- by the chunk after a height, of the next list that is due
  abbrev pub executes_list : Working → Option (List Receipt) → List Receipt
  executes_list k None = []
  executes_list k (Some list) = executes_all k list

  abbrev pub executes_due : ℕ → ℕ → ℕ → Option (ℕ × ℕ) → List Receipt
  executes_due s h n None = []
  executes_due s h n (Some due) =
      executes_list (work (rules_of x) s h n) (list_to (rules_of x) (sealing_at (rules_of x) due.1 due.0) s)

  -- and of what its shard carries
  abbrev pub executes_carried : ℕ → ℕ → Kept → List Receipt
  executes_carried s h w = executes_all (opened_first x s (h + 1) w) w.carried

  -- by the chunk after a height, when it has taken n lists
  unfoldable pub executed_at : ℕ → ℕ → ℕ → List Receipt
  executed_at s h zero = executes_opened (converted_at s h) ++ executes_carried s h (world_after (rules_of x) s h)
  executed_at s h (suc n) = executed_at s h n ++ executes_due s h n (slice_get (due_after (rules_of x) s h) n)

  -- and when it has taken all
  abbrev pub executed_in : ℕ → ℕ → List Receipt
  executed_in s h = executed_at s h (length (due_after (rules_of x) s h))

  -- ---- the places: postponed, delayed, executed, in flight. One is made where it is routed: a local one when it is
  -- converted, others when their chunk is sealed.
  abbrev pub places : (Receipt → ℕ) → Amount Kept Working (List Receipt) ChunkResult
  places f = record {
    world = λ w. waiting f w.world + sum_by f w.carried;
    working = λ s h n k. waiting f k.world + sum_by f (executed_at s h n);
    list = sum_by f;
    report = λ s h r. sum_by f (executed_in s (h - 1));
    made_so_far = λ s h n k. sum_by f (converted_at s h).local;
    made = λ s h r. sum_by f (converted_at s (h - 1)).local + sum_by f (last_work (rules_of x) s (h - 1)).outgoing;
  }
