-- The report of a chunk that is run again is the serial run's.
use Rattle.std.proofs.Common.{◌≡◌, ℕ, ◌+◌, ◌^◌, ◌≤◌, List, length, Option, Some, None, refl, sym, ap, subst, ◌∙◌, arith}
use Rattle.std.specs.Prelude.{◌&&◌, unwrap_or}
use Rattle.std.specs.Option.{option_map}
use Rattle.std.proofs.lemmas.List.Sums.{fold-append, sum_by-append}
use Rattle.nr_blocks.specs.declared.block.Block.{Block}
use Rattle.nr_chunk.specs.Chain.{Chain, IsChain, block_at, opened, opened_first, place_at, price_in, rules_of, shards_of}
use Rattle.nr_chunk.specs.Chunk.{begun, open_chunk, seal_chunk, serve, serve_all}
use Rattle.nr_chunk.specs.GoodReceipts.{are_bounded}
use Rattle.nr_chunk.specs.Goodness.{AreGood, IsGood, IsGoodWorld}
use Rattle.nr_chunk.specs.Lawful.{good_after, good_working}
use Rattle.nr_chunk.specs.Views.{Kept, Working}
use Rattle.nr_config.specs.Config.{Config, gas_price}
use Rattle.nr_extract.specs.Chunk.{before, due_lists, gathered_chunk, stated_price, taken, transactions}
use Rattle.nr_fees.specs.Fees.{receipt_tokens}
use Rattle.nr_gathered.specs.declared.gathered.Gathered.{Gathered}
use Rattle.nr_overlap.specs.Rules.{Rules, Sealing}
use Rattle.nr_overlap.specs.Serial.{due_after, last_work, sealing_at}
use Rattle.nr_overlap.proofs.Basics.{each_append, is_lt}
use Rattle.nr_overlap.proofs.SerialLemmas.{sealing_there}
use Rattle.nr_recheck.specs.Laws.{GoesWith, IsGatheredFor, TellsChunk}
use Rattle.nr_recheck.specs.Rechecking.{place_of, sealed_on}
use Rattle.nr_recheck_laws.specs.Again.{IsGathered, state}
use Rattle.nr_recheck_laws.proofs.Grown.{all_lists, good_lists, tokens_are, work_is}
use Rattle.nr_records.specs.declared.chunk_result.ChunkResult.{ChunkResult}
use Rattle.nr_records.specs.declared.receipt.Receipt.{Receipt}
use Rattle.nr_state.specs.Tokens.{list_tokens, world_tokens}

price_is : (usual : ℕ) (o : Option Block) → unwrap_or (stated_price o) usual ≡ price_in usual o
price_is usual None = refl
price_is usual (Some block) = refl

module _ (x : Chain) (s below : ℕ) (is : IsChain x) (at : IsGathered x s below) where
  abbrev r : Rules Kept Working (List Receipt) ChunkResult
  r = rules_of x

  abbrev c : Config
  c = x.config

  abbrev g : Gathered
  g = gathered_chunk x s below

  abbrev high : below ≤ r.heights
  high = omega (arith, at.within)

  good : IsGoodWorld c (before x s below)
  good = good_after x is s below at.inside high

  -- ---- where it stands, and the seal
  place_is : place_of c g ≡ place_at x (below + 1)
  unfolding gathered_chunk
  place_is =
      ap (λ p. record { height = (place_at x (below + 1)).height; timestamp = (place_at x (below + 1)).timestamp; price = p })
      (price_is (gas_price c) (block_at x (below + 1)))

  last_is : last_work r s below ≡ serve_all c x.call (opened_first x s (below + 1) (before x s below)) (taken x s below)
  last_is =
      work_is x s below (length (due_after r s below)) (omega arith)
      ∙ ap (serve_all c x.call (opened x s (below + 1) (before x s below))) (all_lists x s below)
      ∙ sym (fold-append (serve c x.call) (opened_first x s (below + 1) (before x s below)) (before x s below).carried (due_lists x s below))

  -- it begins as the serial run's
  begun_is : begun (record { config = c; world = state x s below; carried = g.taken }) (record { 0 = s }) (place_of c g)
      ≡ begun (before x s below) (record { 0 = s }) (place_at x (below + 1))
  begun_is =
      (λ i. begun (record { config = sym good.config i; world = state x s below; carried = g.taken }) (record { 0 = s }) (place_is i))

  seal_is : sealed_on c x.call g (state x s below) ≡ r.seals (last_work r s below)
  unfolding gathered_chunk
  seal_is =
      ap
      (λ k. seal_chunk x.start.boundaries (shards_of x)
      (serve_all c x.call (open_chunk c x.call k (transactions x s below)) (taken x s below))) begun_is
      ∙ ap r.seals (sym last_is)

  pub serial_report : (report : ChunkResult) → TellsChunk c x.call g report → GoesWith c g (state x s below)
      → option_map (λ z. z.report) (sealing_at r s (below + 1)) ≡ Some report
  serial_report report tells goes =
      ap (option_map (λ z. z.report)) (sealing_there r s below at.present)
      ∙ ap (λ (z : Sealing Kept (List Receipt) ChunkResult). Some z.report) (sym seal_is)
      ∙ ap Some (sym (tells (state x s below) goes))

  -- ---- what the laws of chunks that are run again ask for
  pub goes_with : GoesWith c g (state x s below)
  goes_with = record { fits = at.shown.fits; valid = good.valid; agrees = at.agrees }

  all_good : AreGood c (taken x s below)
  all_good =
      each_append (IsGood c) (before x s below).carried (due_lists x s below) good.carried
      (subst (AreGood c) (all_lists x s below)
      (good_lists x s below is at.inside at.within at.present (length (due_after r s below)) (omega arith)))

  all_tokens : world_tokens c (state x s below) + list_tokens c (taken x s below) ≤ 2 ^ 127
  all_tokens =
      let n : ℕ = length (due_after r s below) in
      let sum = tokens_are x s below is at.inside at.within at.present n (omega arith) in
      let small = (good_working x is s below n at.inside at.within at.present (omega arith)).1 in
      let split = sum_by-append (receipt_tokens c) (before x s below).carried (due_lists x s below) in
      let lists = ap (list_tokens c) (all_lists x s below) in
      omega (arith, sum, small, split, lists)

  pub gathered_for : IsGatheredFor c g (state x s below)
  unfolding gathered_chunk
  gathered_for = record {
    placed = (λ i. is_lt 0 (x.start.below + (below + 1)) (omega arith) i && is_lt s (shards_of x) at.inside i);
    root = refl;
    texts = refl;
    bounded = are_bounded c (taken x s below) all_good;
    tokens = all_tokens;
    few = at.shown.few;
  }
