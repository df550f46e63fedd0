-- The entries of a world in their order, and the chunk that is taken out of a run.
use Rattle.std.proofs.Common.{◌≡◌, ℕ, ◌+◌, List, [], Option, Result, Ok, Err, sym, ap, subst, ◌∙◌}
use Rattle.std.specs.Prelude.{T, IfOk, unwrap_or}
use Rattle.std.specs.Cmp.Lexicographic.{slice_cmp}
use Rattle.std.specs.FinMap.{entries, entries_sorted}
use Rattle.std.specs.FinMap.Entries.{is_sorted}
use Rattle.std.specs.Option.{option_and_then}
use Rattle.std.specs.Ordering.{nat_cmp}
use Rattle.nr_blocks.specs.declared.block.Block.{Block}
use Rattle.nr_chunk.specs.Chain.{Chain, block_at, chunk_in, place_at}
use Rattle.nr_chunk.specs.Locality.{touched}
use Rattle.nr_chunk.specs.Runs.{chain_in}
use Rattle.nr_chunk.specs.Store.{StateStore}
use Rattle.nr_chunk.specs.Views.{Kept}
use Rattle.nr_chunk.specs.declared.chain.ChainRun.{ChainRun}
use Rattle.nr_columns.specs.declared.entry.Entry.{Entry}
use Rattle.nr_columns.specs.Entries.{InOrder, pairs_of}
use Rattle.nr_gather.specs.Gathered.{gathered}
use Rattle.nr_gathered.specs.declared.gathered.Gathered.{Gathered}
use Rattle.nr_ids.specs.declared.key.Hash32.{Hash32}
use Rattle.nr_ids.specs.declared.number.ShardId.{ShardId}
use Rattle.nr_records.specs.declared.receipt.Receipt.{Receipt}
use Rattle.nr_records.specs.declared.transaction.Transaction.{Transaction}
use Rattle.nr_state.specs.Flat.{flat}
use Rattle.nr_state.specs.declared.calls.Caller.{Ghosts}
use Rattle.nr_state.specs.declared.place.Place.{Place}
use Rattle.nr_stateless.specs.Accounts.{searched_of}
use Rattle.nr_triedef.specs.Root.{Contents, paths, root_of}
use Rattle.nr_extract.specs.Chunk.{before, gathered_chunk, stated_price, taken, texts, transactions}

-- the entries of a map are in the order of their keys
pub in_order : (es : List Entry) (m : Contents) → pairs_of es ≡ entries m → InOrder es
in_order es m e = subst (λ (l : List (List ℕ × List ℕ)). T (is_sorted (slice_cmp nat_cmp) l)) (sym e) (entries_sorted m)

-- its parts, each by the run that is lent
module _ {C : Type 0} {g : Ghosts C StateStore} (p run : ChainRun C g) (shard : ShardId) (below : ℕ) where
  pub chunk_is : (world : Kept) (root : Hash32) (boundaries : List (List ℕ)) (place : Place) (block : Option Block) (price : Option ℕ) (txs : List Transaction) (received : List Receipt) (listed : List (List ℕ))
      → run ≡ p → world ≡ before (chain_in p) shard.0 below → boundaries ≡ (chain_in run).start.boundaries → place ≡ place_at (chain_in run) (below + 1) → block ≡ block_at (chain_in run) (below + 1)
      → price ≡ stated_price block → txs ≡ unwrap_or (option_and_then (chunk_in shard.0) block) [] → received ≡ taken (chain_in p) shard.0 below
      → listed ≡ gathered (searched_of (touched world.world txs received)) (paths (entries (flat world.world))) → root ≡ (root_of (flat world.world)).hash
      → ◌≡◌ {A = Gathered} (record { prior_root = root; layout = boundaries; height = place.height; timestamp = place.timestamp; price = price; shard = shard; transactions = txs; taken = received; texts = listed }) (gathered_chunk (chain_in p) shard.0 below)
  unfolding gathered_chunk
  chunk_is world root boundaries place block price txs received listed same w b pl bl pr t r l ro =
      let x : Chain = chain_in p in
      let there : block ≡ block_at x (below + 1) = bl ∙ ap (λ (q : ChainRun C g). block_at (chain_in q) (below + 1)) same in
      let stands : place ≡ place_at x (below + 1) = pl ∙ ap (λ (q : ChainRun C g). place_at (chain_in q) (below + 1)) same in
      let parted : boundaries ≡ x.start.boundaries = b ∙ ap (λ (q : ChainRun C g). (chain_in q).start.boundaries) same in
      let priced : price ≡ stated_price (block_at x (below + 1)) = pr ∙ ap stated_price there in
      let asked : txs ≡ transactions x shard.0 below = t ∙ ap (λ (o : Option Block). unwrap_or (option_and_then (chunk_in shard.0) o) []) there in
      let told : listed ≡ texts x shard.0 below = l ∙ (λ i. gathered (searched_of (touched (w i).world (asked i) (r i))) (paths (entries (flat (w i).world)))) in
      let rooted : root ≡ (root_of (flat (before x shard.0 below).world)).hash = ro ∙ ap (λ (k : Kept). (root_of (flat k.world)).hash) w in
      (λ i. record { prior_root = rooted i; layout = parted i; height = (stands i).height; timestamp = (stands i).timestamp; price = priced i; shard = shard; transactions = asked i; taken = r i; texts = told i })

-- what holds anyway holds where there is a result
pub anyway : {A E P : Type 0} (r : Result A E) → P → IfOk r (λ x. P)
anyway (Ok x) p = p
anyway (Err e) p = tt
