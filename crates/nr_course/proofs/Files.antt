-- What a genesis and a file of blocks give can run: where the boundaries change the last block misses no chunk.
use Rattle.std.proofs.Common.{◌≡◌, ℕ, suc, ◌+◌, ◌-◌, ◌^◌, ◌<◌, true, List, length, take, drop, Option, Some}
use Rattle.std.proofs.Common.{None, refl, sym, ap, subst, ◌∙◌, arith}
use Rattle.std.specs.Prelude.{is_some, slice_get, unwrap_or}
use Rattle.std.specs.Option.{option_and_then}
use Rattle.std.proofs.lemmas.List.{get_or-take, length-drop, length-take-le}
use Rattle.std.proofs.lemmas.Option.{get_or_from_slice_get, slice_get_read}
use Rattle.nr_bytes.proofs.Basics.{none≢some, within_some}
use Rattle.nr_apart.proofs.Firsts.{genesis_starts}
use Rattle.nr_blocks.specs.declared.block.Block.{Block}
use Rattle.nr_blocks.specs.declared.genesis.Genesis.{Genesis}
use Rattle.nr_chunk.specs.Chain.{Chain, block_at, chain_with, chunk_at, chunk_in}
use Rattle.nr_chunk.specs.Start.{genesis_start}
use Rattle.nr_config.specs.Config.{Config}
use Rattle.nr_course.specs.Course.{CanRun, CanTurn, before_by, course, turn_by}
use Rattle.nr_course.specs.declared.turn.Turn.{Turn}
use Rattle.nr_overlap.proofs.Basics.{each_at, some_alike}
use Rattle.nr_records.specs.declared.transaction.Transaction.{Transaction}
use Rattle.nr_reshard.specs.Spellings.{CanReshard, IsWhole}
use Rattle.nr_reshard.specs.declared.chain_file.ChainFile.{ChainFile}
use Rattle.nr_reshard.specs.declared.reshard.Reshard.{Reshard}
use Rattle.nr_state.specs.Calls.{Called}
use Rattle.nr_state.specs.Local.{IsLocal}
use Rattle.nr_state.specs.World.{World}
use Rattle.nr_state.specs.declared.calls.CallContext.{CallContext}

-- an element of the front part
in_front : {A : Type 0} (xs : List A) (n i : ℕ) (a : A) → length (take n xs) ≡ n → i < n → slice_get xs i ≡ Some a
    → slice_get (take n xs) i ≡ Some a
in_front xs n i a long l e =
    slice_get_read (take n xs) n i a (sym long) l
    (sym (get_or-take n xs i a l ∙ get_or_from_slice_get xs i a a e))

-- a whole block has each shard's chunk
chunk_there : (b : Block) (shards s : ℕ) → IsWhole shards b → s < shards → is_some (chunk_in s b) ≡ true
chunk_there b shards s whole l =
    let some = within_some b.chunks s (omega (arith, l, whole.count)) in
    ap (λ (o : Option (Option (List Transaction))). is_some (unwrap_or o None)) some.1
    ∙ each_at (λ (chunk : Option (List Transaction)). is_some chunk ≡ true) b.chunks s some.0 whole.there some.1

module _ (c : Config) (g : Genesis) (call : World → CallContext → Called) (local : IsLocal call) where
  abbrev chain_of : List Block → Chain
  chain_of bs = chain_with c (genesis_start g) bs call

  module _ (bs : List Block) (few : length bs < 2 ^ 64) (r : Reshard)
      (can : CanReshard (length g.layout + 1) bs r) where
    abbrev h : ℕ
    h = r.height.0

    abbrev first : List Block
    first = take (h - 1) bs

    long : length first ≡ h - 1
    long = length-take-le (h - 1) bs (omega (arith, can.high))

    last : (b : Block) × (slice_get bs (h - 2) ≡ Some b)
    last = within_some bs (h - 2) (omega (arith, can.low, can.high))

    block_is : block_at (chain_of first) (length first) ≡ Some last.0
    block_is =
        let back : length first ≡ suc (h - 2) = omega (arith, long, can.low) in
        ap (block_at (chain_of first)) back
        ∙ in_front bs (h - 1) (h - 2) last.0 long (omega (arith, can.low)) last.1

    there : (s : ℕ) → s < length g.layout + 1 → is_some (chunk_at (chain_of first) s (length first)) ≡ true
    there s l =
        ap (λ (o : Option Block). is_some (option_and_then (chunk_in s) o)) block_is
        ∙ chunk_there last.0 (length g.layout + 1) s (can.before last.0 last.1) l

    can_turn : CanTurn (chain_of first) (record { layout = r.layout; blocks = drop (h - 1) bs })
    can_turn = record {
      local = local;
      founded = refl;
      apart = genesis_starts g;
      whole = record { some = omega (arith, long, can.low); there = there };
      fits = omega (arith, long, length-drop (h - 1) bs, can.low, can.high, few);
    }

  pub can_run : (f : ChainFile)
      → ((r : Reshard) → f.reshard ≡ Some r → CanReshard (length g.layout + 1) f.blocks r)
      → length f.blocks < 2 ^ 64 → CanRun (course c g f call)
  can_run f can few = record { founded = refl; turns = λ t e. by f.reshard refl t e }
    where
      by : (o : Option Reshard) → f.reshard ≡ o → (t : Turn) → turn_by f.blocks o ≡ Some t
          → CanTurn (chain_of (before_by f.blocks o)) t
      by None is t e = absurd (none≢some t e)
      by (Some r) is t e =
          subst (CanTurn (chain_of (take (r.height.0 - 1) f.blocks)))
          (some_alike (record { layout = r.layout; blocks = drop (r.height.0 - 1) f.blocks }) t e)
          (can_turn f.blocks few r (can r is))
