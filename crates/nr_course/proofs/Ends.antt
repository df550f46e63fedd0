-- The second leg: it starts from the cut of the first one's end.
use Rattle.std.proofs.Common.{◌≡◌, ℕ, ◌+◌, ◌^◌, ◌<◌, ◌≤◌, List, [], ◌∷◌, map, length, refl, sym, ap, subst, ◌∙◌, arith}
use Rattle.std.specs.List.{AllByRecursion}
use Rattle.nr_blocks.specs.BlocksFiles.{FitsPrice}
use Rattle.nr_blocks.specs.declared.block.Block.{Block}
use Rattle.nr_chunk.specs.Chain.{Chain, IsChain, chain_with, rules_of}
use Rattle.nr_chunk.specs.Start.{IsStart, Start, start_tokens}
use Rattle.nr_chunk.specs.Starts.{IsSoundStart, start_of}
use Rattle.nr_chunk.specs.Views.{Kept, Working}
use Rattle.nr_chunk.specs.declared.start.FirstState.TheVariants as first
use Rattle.nr_chunk.specs.declared.start.Resumed.{Resumed}
use Rattle.nr_chunk.specs.declared.tally.Tally.{Tally}
use Rattle.nr_columns.specs.declared.entry.Entry.{Entry}
use Rattle.nr_config.specs.Config.{Config}
use Rattle.nr_course.specs.Course.{CanTurn, second}
use Rattle.nr_course.specs.declared.turn.Turn.{Turn}
use Rattle.nr_cut.specs.Cut.{carried, cut_worlds}
use Rattle.nr_cut.specs.Laws.{CanCut}
use Rattle.nr_ids.specs.declared.number.Height.{Height}
use Rattle.nr_ids.specs.declared.number.ShardId.{ShardId}
use Rattle.nr_legs.proofs.Ends.{can_cut, goes_on}
use Rattle.nr_legs.proofs.Going.{can_go_on}
use Rattle.nr_legs.proofs.Left.{leaves_last}
use Rattle.nr_legs.specs.Legs.{CanGoOn, cut_start, last_lists, last_worlds, left_of}
use Rattle.nr_overlap.specs.Outcome as outcome
use Rattle.nr_overlap.specs.Rules.{Rules}
use Rattle.nr_overlap.specs.Run.{ending}
use Rattle.nr_overlap.specs.Serial.{shard_numbers, world_after}
use Rattle.nr_places.proofs.Replay.{end_holds}
use Rattle.nr_places.specs.Totals.{tally_at}
use Rattle.nr_records.specs.declared.chunk_result.ChunkResult.{ChunkResult}
use Rattle.nr_records.specs.declared.receipt.Receipt.{Receipt}
use Rattle.nr_state.specs.Calls.{Called}
use Rattle.nr_state.specs.FromEntries.{AreWholeEntries, world_from}
use Rattle.nr_state.specs.World.{World}
use Rattle.nr_state.specs.declared.calls.CallContext.{CallContext}

pub goes_behind : (x : Chain) (t : Turn) → IsChain x → CanTurn x t → CanGoOn x
goes_behind x t is can = can_go_on x is can.local can.apart can.whole

pub second_is : (x : Chain) (t : Turn) → IsChain x → CanTurn x t → AllByRecursion FitsPrice t.blocks
    → length t.layout ≤ 15 → IsChain (second x t)
second_is x t is can prices few = record {
  config = is.config;
  start = (goes_on x is (goes_behind x t is can) t.layout).start;
  prices = prices;
  caller = is.caller;
  shards = omega (arith, few);
}

map_twice : {A B C : Type 0} (f : B → C) (g : A → B) (xs : List A) → map f (map g xs) ≡ map (λ a. f (g a)) xs
map_twice f g [] = refl
map_twice f g (x ∷ xs) = ap (λ ys. f (g x) ∷ ys) (map_twice f g xs)

module _ (x : Chain) (is : IsChain x) (can : CanGoOn x) where
  abbrev r : Rules Kept Working (List Receipt) ChunkResult
  r = rules_of x

  abbrev Sent : Type 0
  Sent = ShardId × Height × ShardId × List Receipt

  -- the entries of the last worlds give these
  worlds_are : (kept : List Kept) (es : List (List Entry)) → kept ≡ outcome.last_worlds r
      → map world_from es ≡ map (λ (w : Kept). w.world) kept → map world_from es ≡ last_worlds x
  worlds_are kept es last read =
      read ∙ ap (map (λ (w : Kept). w.world)) last
      ∙ map_twice (λ (w : Kept). w.world) (λ s. world_after r s r.heights) (shard_numbers r)

  module _ (new : List (List ℕ)) (below : ℕ) (worlds : List (List Entry)) (lists : List (List Receipt)) where
    abbrev resumed : Resumed
    resumed = record { layout = new; below = below; worlds = worlds; carried = lists }

    start_is : below ≡ x.start.below + r.heights → map world_from worlds ≡ cut_worlds new (last_worlds x)
        → lists ≡ carried new (last_lists x) → start_of (first.Resumed resumed) ≡ cut_start x new
    start_is b w l =
        λ i. record { boundaries = new; below = b i; worlds = w i; carried = l i }

    pub resumes : (kept : List Kept) (es : List (List Entry)) (left : List Sent) → kept ≡ outcome.last_worlds r
        → map world_from es ≡ map (λ (w : Kept). w.world) kept → left ≡ outcome.lists_left r
        → ((c : Config) (old : List (List ℕ)) → CanCut c old (map world_from es)
        → AllByRecursion AreWholeEntries worlds)
        → ((c : Config) (old : List (List ℕ)) → CanCut c old (map world_from es)
        → map world_from worlds ≡ cut_worlds new (map world_from es))
        → lists ≡ carried new (map left_of left) → below ≡ x.start.below + r.heights
        → IsSoundStart x.config (first.Resumed resumed) × (start_of (first.Resumed resumed) ≡ cut_start x new)
    resumes kept es left last read left_is whole cut carry behind =
        let ws : map world_from es ≡ last_worlds x = worlds_are kept es last read in
        let may : CanCut x.config x.start.boundaries (map world_from es) =
        subst (CanCut x.config x.start.boundaries) (sym ws) (can_cut x is can) in
        let start : start_of (first.Resumed resumed) ≡ cut_start x new =
        start_is behind (cut x.config x.start.boundaries may ∙ ap (cut_worlds new) ws)
        (carry ∙ ap (carried new) (ap (map left_of) left_is ∙ leaves_last x is can)) in (
          record {
            start = subst (IsStart x.config) (sym start) (goes_on x is can new).start;
            fills = whole x.config x.start.boundaries may;
          },
          start,
        )

-- ---- the chain that goes on
module _ (x : Chain) (t : Turn) (is : IsChain x) (can : CanTurn x t) where
  abbrev LeftList : Type 0
  LeftList = ShardId × Height × ShardId × List Receipt

  abbrev Follows : Resumed → Type 0
  Follows start =
      IsSoundStart x.config (first.Resumed start) × (start_of (first.Resumed start) ≡ cut_start x t.layout)

  pub follows : (kept : List Kept) (left : List LeftList) (below : ℕ) (start : Resumed)
      → kept ≡ outcome.last_worlds (rules_of x) → left ≡ outcome.lists_left (rules_of x)
      → below ≡ (rules_of x).heights
      → (IsChain x → CanGoOn x → kept ≡ outcome.last_worlds (rules_of x) → left ≡ outcome.lists_left (rules_of x)
      → below ≡ x.start.below + (rules_of x).heights → Follows start) → Follows start
  follows kept left below start last rest behind told =
      told is (goes_behind x t is can) last rest (omega (arith, behind, can.founded))

  pub fits_behind : (start : Resumed) → Follows start → start.below + length t.blocks < 2 ^ 64
  fits_behind start follows = omega (arith, ap (λ (s : Start). s.below) follows.1, can.fits)

  pub is_second : (config : Config) (start : Start) (blocks : List Block) (call : World → CallContext → Called)
      → config ≡ x.config → start ≡ cut_start x t.layout → blocks ≡ t.blocks → call ≡ x.call
      → chain_with config start blocks call ≡ second x t
  is_second config start blocks call a b c d = λ i. chain_with (a i) (b i) (c i) (d i)

  -- ---- its tokens
  pub tokens_on : (tally : Tally) (n : ℕ) → tally ≡ tally_at x (ending (rules_of x))
      → n ≡ tally.accounts + tally.receipts → n ≡ start_tokens x.config (cut_start x t.layout)
  tokens_on tally n e sum =
      omega (
        arith,
        sum,
        ap (λ (t : Tally). t.accounts) e,
        ap (λ (t : Tally). t.receipts) e,
        (goes_on x is (goes_behind x t is can) t.layout).tokens,
      )

pub tokens_fit : (x : Chain) → IsChain x → (tally : Tally) → tally ≡ tally_at x (ending (rules_of x))
    → tally.accounts + tally.receipts ≤ 2 ^ 127
tokens_fit x is tally e =
    omega (
      arith,
      ap (λ (t : Tally). t.accounts) e,
      ap (λ (t : Tally). t.receipts) e,
      (end_holds x is).tokens,
      is.start.few,
    )
