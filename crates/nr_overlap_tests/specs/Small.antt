-- What a small chunk does: it sends amounts of what its shard has; of each list that comes the first receipt is paid,
-- and the others wait. These tests' own.
use Rattle.std.specs.Prelude.{ℕ, zero, suc, ◌+◌, ◌-◌, ◌%◌, ◌^◌, ◌==◌, nat_le, cond, List, [], ◌∷◌, ◌++◌, map, filter}
use Rattle.std.specs.Prelude.{fold, sum_by, Option, None, slice_get, length, unwrap_or, is_some}
use Rattle.std.specs.Option.{option_and_then}
use Rattle.std.specs.List.{range_with_len}
use Rattle.nr_overlap.specs.Rules.{Rules, Sealing}
use Rattle.nr_overlap_tests.specs.declared.small_chain.SmallChain.{SmallChain}
use Rattle.nr_overlap_tests.specs.declared.small_chunk.Place.{Place}
use Rattle.nr_overlap_tests.specs.declared.small_chunk.Work.{Work}
use Rattle.nr_overlap_tests.specs.declared.small_chunk.Did.{Did}

abbrev pub chunk_in : List (Option (List ℕ)) → ℕ → Option (List ℕ)
chunk_in chunks s = unwrap_or (slice_get chunks s) None

-- the amounts that a chunk sends, if it is there
abbrev pub chunk_at : SmallChain → ℕ → ℕ → Option (List ℕ)
chunk_at t s zero = None
chunk_at t s (suc h) = option_and_then (λ chunks. chunk_in chunks.items s) (slice_get t.blocks.items h)

abbrev pub out_to : ℕ → ℕ → List ℕ → List ℕ
out_to shards dest receipts = filter (λ r. (r % shards) == dest) receipts

abbrev pub lists_to : ℕ → ℕ → List ℕ → List (List ℕ)
lists_to shards n receipts = map (λ dest. out_to shards dest receipts) (range_with_len 0 n)

-- an amount is sent where there is as much
abbrev pub spend : Work → ℕ → Work
spend k r =
    cond (nat_le r k.balance) (record {
      balance = k.balance - r;
      waiting = k.waiting;
      done = k.done;
      outgoing = k.outgoing ++ r ∷ [];
    }) k

abbrev pub begun : Place → Work
begun w = record { balance = w.balance; waiting = w.waiting; done = []; outgoing = [] }

abbrev pub opened : List ℕ → Place → Work
opened amounts w = fold spend (begun w) amounts

-- the first receipt is paid, and the others wait
abbrev pub took : Work → List ℕ → Work
took k [] = k
took k (r ∷ rs) =
    record { balance = k.balance + r; waiting = k.waiting ++ rs; done = k.done ++ r ∷ []; outgoing = k.outgoing }

abbrev pub sealing : ℕ → Work → Sealing Place (List ℕ) Did
sealing shards k = record {
  world = record { balance = k.balance; waiting = k.waiting };
  report = record { done = k.done; sent = k.outgoing };
  lists = lists_to shards shards k.outgoing;
}

abbrev pub first_place : Place
first_place = record { balance = 100; waiting = [] }

abbrev pub rules_of : SmallChain → Rules Place Work (List ℕ) Did
rules_of t = record {
  shards = t.shards;
  heights = length t.blocks.items;
  present = λ s h. is_some (chunk_at t s h);
  begins = λ s. first_place;
  opens = λ s h w. opened (unwrap_or (chunk_at t s h) []) w;
  takes = took;
  seals = sealing t.shards;
}

-- what a list is taken within
abbrev pub LIMIT : ℕ
LIMIT = 2 ^ 40

abbrev pub value_of : List ℕ → ℕ
value_of list = sum_by (λ r. r) list

abbrev pub room : Work → List ℕ → ℕ
room k list = k.balance + value_of k.waiting + value_of k.outgoing + value_of list
