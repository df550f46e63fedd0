-- What each call of a chunk keeps: tokens, with what was burnt, and an amount that receipts have, as the count of one
-- of them, over their places. This project's own.
use Rattle.std.specs.Prelude.{◌≡◌, ℕ, ◌+◌, cond, List, [], ◌∷◌, ◌++◌, fold, sum_by, unwrap_or}
use Rattle.nr_chunk.specs.Chain.{CanTake, Chain, chunk_at, kept_tokens, opened, opened_first, place_at, rules_of}
use Rattle.nr_chunk.specs.Chain.{working_tokens}
use Rattle.nr_chunk.specs.Chunk.{Opening, begun, convert_all, has_gas, serve}
use Rattle.nr_chunk.specs.Views.{Kept, Working}
use Rattle.nr_config.specs.Config.{Config}
use Rattle.nr_overlap.specs.Rules.{Sealing}
use Rattle.nr_places.specs.Places.{executes_all, executes_opened, waiting}
use Rattle.nr_records.specs.declared.chunk_result.ChunkResult.{ChunkResult}
use Rattle.nr_records.specs.declared.receipt.Receipt.{Receipt}
use Rattle.nr_state.specs.Tokens.{list_tokens, postponed_sum}

-- of the receipts that a shard has between its chunks: those that wait in its world, and those that it carries
abbrev pub kept_receipts : (Receipt → ℕ) → Kept → ℕ
kept_receipts f w = waiting f w.world + sum_by f w.carried

abbrev pub lists_tokens : Config → List (List Receipt) → ℕ
lists_tokens c lists = sum_by (list_tokens c) lists

module _ (x : Chain) where
  abbrev takes : Working → List Receipt → Working
  takes = (rules_of x).takes

  abbrev sealed : Working → Sealing Kept (List Receipt) ChunkResult
  sealed = (rules_of x).seals

  -- ---- opening: what it makes of its transactions, and the receipts that it executes, of these, of the delayed queue
  -- and of those that are carried
  abbrev pub converted : ℕ → ℕ → Kept → Opening
  converted s h w =
      convert_all x.config (begun w (record { 0 = s }) (place_at x h)) (unwrap_or (chunk_at x s h) [])

  abbrev pub executes_opening : ℕ → ℕ → Kept → List Receipt
  executes_opening s h w = executes_opened x (converted s h w) ++ executes_all x (opened_first x s h w) w.carried

  pub record KeepsOpened (s h : ℕ) (w : Kept) : Type 0 where
    pub tokens : kept_tokens x.config w ≡ working_tokens x.config (opened x s h w)
    -- those that were there and the local ones wait or are executed
    pub receipts : (f : Receipt → ℕ) → kept_receipts f w + sum_by f (converted s h w).local
        ≡ waiting f (opened x s h w).world + sum_by f (executes_opening s h w)

  -- ---- taking a list: those of its receipts that come when the chunk has no gas left
  abbrev pub come_late : Working → List Receipt → List Receipt
  come_late k [] = []
  come_late k (r ∷ rest) = cond (has_gas x.config k) [] (r ∷ []) ++ come_late (serve x.config x.call k r) rest

  pub record KeepsTaken (k : Working) (list : List Receipt) : Type 0 where
    pub tokens : working_tokens x.config k + list_tokens x.config list ≡ working_tokens x.config (takes k list)
    -- those that were postponed and those of the list are postponed, executed or late
    pub postponed : (f : Receipt → ℕ) → postponed_sum f k.world + sum_by f list
        ≡ postponed_sum f (takes k list).world + sum_by f (executes_all x k list) + sum_by f (come_late k list)
    -- and the late ones join the delayed queue
    pub delayed : (takes k list).world.delayed ≡ k.world.delayed ++ come_late k list

  -- ---- sealing
  pub record KeepsSealed (k : Working) : Type 0 where
    pub tokens : working_tokens x.config k
        ≡ kept_tokens x.config (sealed k).world + lists_tokens x.config (sealed k).lists + (sealed k).report.burnt
    -- those that waited and those that go out wait or are in the lists
    pub receipts : (f : Receipt → ℕ) → waiting f k.world + sum_by f k.outgoing
        ≡ kept_receipts f (sealed k).world + sum_by (sum_by f) (sealed k).lists

  -- ---- a whole chunk, which takes these lists in turn
  abbrev pub chunk_of : ℕ → ℕ → Kept → List (List Receipt) → Sealing Kept (List Receipt) ChunkResult
  chunk_of s h w lists = sealed (fold takes (opened x s h w) lists)

  -- each can be taken when its turn comes
  abbrev pub CanTakeAll : Working → List (List Receipt) → Type 0
  CanTakeAll k [] = Unit {0}
  CanTakeAll k (list ∷ lists) = CanTake x k list × CanTakeAll (takes k list) lists

  -- before + taken = after + sent + burnt
  abbrev pub KeepsTokens : Kept → List (List Receipt) → Sealing Kept (List Receipt) ChunkResult → Type 0
  KeepsTokens w lists z = kept_tokens x.config w + lists_tokens x.config lists
      ≡ kept_tokens x.config z.world + lists_tokens x.config z.lists + z.report.burnt
