-- A chunk in three folds over a working state: opening, taking a list, sealing. After the Nomicon, Runtime
-- Specification (Applying a chunk) and Chain Specification (Chunks).
use Rattle.std.specs.Prelude.{ℕ, ◌+◌, ◌-◌, ◌^◌, min, Bool, true, false, cond, List, [], ◌∷◌, ◌++◌, map, fold, Option}
use Rattle.std.specs.Prelude.{Ok, Err, nat_lt}
use Rattle.nr_config.specs.Config.{Config, chunk_gas_limit}
use Rattle.nr_ids.specs.declared.number.ShardId.{ShardId}
use Rattle.nr_join.specs.Offering.{offer}
use Rattle.nr_join.specs.declared.offered.Offered.{Offered}
use Rattle.nr_join.specs.declared.offered.Offered.TheVariants as offered
use Rattle.nr_layout.specs.Layout.{shard_of, parts}
use Rattle.nr_overlap.specs.Rules.{Sealing}
use Rattle.nr_receipt.specs.Execution.{Execution, execute, settle_clash}
use Rattle.nr_receipt.specs.declared.executed.Executed.{Executed}
use Rattle.nr_records.specs.Receipts.{receipt_bytes}
use Rattle.nr_records.specs.declared.chunk_result.ChunkLine.{ChunkLine}
use Rattle.nr_records.specs.declared.chunk_result.ChunkLine.TheVariants as line
use Rattle.nr_records.specs.declared.chunk_result.ChunkResult.{ChunkResult}
use Rattle.nr_records.specs.declared.receipt.Body.{Body}
use Rattle.nr_records.specs.declared.receipt.Body.TheVariants.{Act, Datum}
use Rattle.nr_records.specs.declared.receipt.Receipt.{Receipt}
use Rattle.nr_records.specs.declared.transaction.Transaction.{Transaction}
use Rattle.nr_chunk.specs.Refused.{refused}
use Rattle.nr_chunk.specs.Views.{Kept, Working}
use Rattle.nr_state.specs.Calls.{Called}
use Rattle.nr_state.specs.Changes.{with_delayed, served_front}
use Rattle.nr_state.specs.Flat.{flat}
use Rattle.nr_state.specs.World.{World}
use Rattle.nr_state.specs.declared.calls.CallContext.{CallContext}
use Rattle.nr_state.specs.declared.place.Place.{Place}
use Rattle.nr_triedef.specs.Node.{digest}
use Rattle.nr_triedef.specs.Root.{root_of}
use Rattle.nr_txconvert.specs.Conversion.{Conversion, convert, transaction_hash}
pub use Rattle.nr_txconvert.specs.Costs.{is_local}
use Rattle.nr_txconvert.specs.declared.converted.Converted.{Converted}

-- ---- a chunk begins with nothing burnt and nothing made
abbrev pub begun : Kept → ShardId → Place → Working
begun w shard place =
    record {
      whole = true;
      config = w.config;
      shard = shard;
      place = place;
      world = w.world;
      gas = 0;
      burnt = 0;
      local = 0;
      outgoing = [];
      lines = [];
    }

-- gas stays at the greatest number of its field
abbrev pub spent : ℕ → ℕ → ℕ
spent gas more = min (gas + more) (2 ^ 64 - 1)

abbrev pub with_line : Working → ChunkLine → Working
with_line k l = record k { lines = k.lines ++ l ∷ [] }

-- ---- a receipt that is offered
-- it ran, or its clash was settled: new receipts go out as they were made, those for this shard too
abbrev pub with_executed : Working → World → Executed → Working
with_executed k w e =
    record k {
      world = w;
      gas = spent k.gas e.outcome.gas;
      burnt = k.burnt + e.outcome.burnt;
      outgoing = k.outgoing ++ e.made;
      lines = k.lines ++ line.Run e.outcome ∷ [];
    }

abbrev pub with_execution : Working → Execution → Working
with_execution k e = with_executed k e.world e.executed

-- a datum that sets a receipt free is told before that one runs
abbrev pub told : Working → Receipt → Body → Working
told k r (Act act) = k
told k r (Datum d) = with_line k (line.Received r.receipt_id)

-- a clashing receipt is settled, and a clashing datum lost
abbrev pub clashed : Config → Working → Receipt → Body → Working
clashed c k r (Act act) = with_executed k k.world (settle_clash c r act k.place)
clashed c k r (Datum d) = with_line k (line.Lost r.receipt_id)

-- ---- where the chunk has gas left a receipt is offered, and else it joins the delayed ones
abbrev pub late : Working → Receipt → Working
late k r = with_line (record k { world = with_delayed k.world r }) (line.Late r.receipt_id)

abbrev pub has_gas : Config → Working → Bool
has_gas c k = nat_lt k.gas (chunk_gas_limit c)

-- ---- what opening makes of the transactions: the working state, and the receipts for their own signers
pub record Opening : Type 0 where
  pub working : Working
  pub local : List Receipt

abbrev pub with_converted : Working → Transaction → World → Converted → Working
with_converted k tx w made =
    record k {
      world = w;
      gas = spent k.gas made.gas;
      burnt = k.burnt + made.burnt;
      lines = k.lines ++ line.TxOk (transaction_hash tx) made.receipt.receipt_id ∷ [];
    }

-- a receipt to its own signer is local, and each other one goes out
abbrev pub put_aside : Bool → Working → List Receipt → Receipt → Opening
put_aside true k local r = record { working = record k { local = k.local + 1 }; local = local ++ r ∷ [] }
put_aside false k local r = record { working = record k { outgoing = k.outgoing ++ r ∷ [] }; local = local }

abbrev pub by_conversion : Opening → Transaction → Conversion → Opening
by_conversion o tx (Ok made) =
    put_aside (is_local tx) (with_converted o.working tx made.0 made.1) o.local made.1.receipt
by_conversion o tx (Err fault) =
    record { working = with_line o.working (refused (transaction_hash tx) fault); local = o.local }

unfoldable pub convert_next : Config → Opening → Transaction → Opening
convert_next c o tx = by_conversion o tx (convert c o.working.world tx o.working.place)

abbrev pub convert_all : Config → Working → List Transaction → Opening
convert_all c k txs = fold (convert_next c) (record { working = k; local = [] }) txs

abbrev pub without_front : Working → List Receipt → Working
without_front k queue = record k { world = served_front k.world queue }

-- ---- serving, opening, taking
module _ (c : Config) (call : World → CallContext → Called) where
  -- data only run receipts of actions
  abbrev pub run : Working → Receipt → Body → List (Option (List ℕ)) → Working
  run k q (Act act) inputs = with_execution k (execute c call k.world q act inputs k.place)
  run k q (Datum d) inputs = k

  -- in the world after the offering
  abbrev pub by_offer : Working → Receipt → Offered → Working
  by_offer k r (offered.Run q inputs) = run (told k r r.body) q q.body inputs
  by_offer k r (offered.Postponed id) = with_line k (line.Postponed id)
  by_offer k r (offered.Stored id) = with_line k (line.Received id)
  by_offer k r (offered.Clash q held) = clashed c k q q.body

  abbrev pub offered_to : Working → Receipt → World × Offered → Working
  offered_to k r o = by_offer (record k { world = o.0 }) r o.1

  unfoldable pub serve : Working → Receipt → Working
  serve k r = cond (has_gas c k) (offered_to k r (offer k.world r)) (late k r)

  abbrev pub serve_all : Working → List Receipt → Working
  serve_all k list = fold serve k list

  -- The queue is served until the gas is used up or it is empty. What joins it meanwhile is not served, since the gas
  -- doesn't fall.
  unfoldable pub serve_queue : List Receipt → Working → Working
  serve_queue [] k = k
  serve_queue (r ∷ rest) k = cond (has_gas c k) (serve_queue rest (serve (without_front k (r ∷ rest)) r)) k

  abbrev pub serve_delayed : Working → Working
  serve_delayed k = serve_queue k.world.delayed k

  abbrev pub served_local : Opening → Working
  served_local o = serve_all o.working o.local

  -- opening: the transactions in order, the receipts that go to their own signer, and the delayed queue from its front
  unfoldable pub open_chunk : Working → List Transaction → Working
  open_chunk k txs = serve_delayed (served_local (convert_all c k txs))

  -- taking: one incoming list in order
  abbrev pub take_list : Working → List Receipt → Working
  take_list k list = serve_all k list

-- ---- sealing: the root, the result, and a list for each shard
unfoldable pub sent : List (List ℕ) → Receipt → ChunkLine
sent boundaries r = line.Sent (record { 0 = shard_of boundaries r.receiver }) r.receipt_id (digest (receipt_bytes r))

abbrev pub result_of : List (List ℕ) → Working → ChunkResult
result_of boundaries k =
    record {
      height = k.place.height;
      shard = k.shard;
      root = (root_of (flat k.world)).hash;
      gas = k.gas;
      burnt = k.burnt;
      local = k.local;
      lines = k.lines ++ map (sent boundaries) k.outgoing;
    }

abbrev pub seal_chunk : List (List ℕ) → ℕ → Working → Sealing Kept (List Receipt) ChunkResult
seal_chunk boundaries shards k =
    record {
      world = record { config = k.config; world = k.world; carried = [] };
      report = result_of boundaries k;
      lists = parts boundaries shards k.outgoing;
    }
