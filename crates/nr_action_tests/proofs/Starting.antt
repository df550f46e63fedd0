-- A shard without accounts, and a refund of 1 that it carries, are a start.
use Rattle.std.proofs.Common.{◌≡◌, ℕ, ◌+◌, List, [], ◌∷◌, length, map, refl, sym, ap, subst, ◌∙◌, arith}
use Rattle.std.specs.Prelude.{sum_by}
use Rattle.std.specs.List.{AllByRecursion}
use Rattle.std.proofs.lemmas.List.Sums.{sum_by-cons}
use Rattle.nr_actions.proofs.Made.{refund_bounded, refund_holds}
use Rattle.nr_actions.specs.Refunds.{deposit_refund}
use Rattle.nr_blocks.specs.Genesis.{AreSoundEntries, genesis_world}
use Rattle.nr_blocks.specs.declared.genesis.Genesis.{Genesis}
use Rattle.nr_chunk.specs.Goodness.{AreGood, IsGood, IsSmall}
use Rattle.nr_chunk.specs.Start.{IsStart, genesis_start}
use Rattle.nr_chunk.specs.StartSums.{genesis_is, genesis_tokens}
use Rattle.nr_chunk.specs.Starts.{IsSoundStart}
use Rattle.nr_chunk.specs.declared.start.FirstState.TheVariants as first
use Rattle.nr_chunk.specs.declared.start.Resumed.{Resumed}
use Rattle.nr_columns.specs.declared.entry.Entry.{Entry}
use Rattle.nr_config.specs.Config.{Config}
use Rattle.nr_ids.specs.declared.key.Hash32.{Hash32}
use Rattle.nr_records.specs.declared.receipt.Receipt.{Receipt}
use Rattle.nr_state.specs.FromEntries.{AreWholeEntries, world_from}
use Rattle.nr_state.specs.Tokens.{list_tokens, world_tokens}
use Rattle.nr_state.specs.Valid.{IsValidWorld}
use Rattle.nr_state.specs.World.{no_world}

module _ (c : Config) where
  -- ---- a world without accounts is that of a genesis without entries
  abbrev none : Genesis
  none = record { layout = []; entries = []; supply = 0 }

  sound : AreSoundEntries c []
  sound = record { apart = refl; owned = refl; usage = refl; code_hash = refl; bounded = omega arith }

  start : IsStart c (genesis_start none)
  start = genesis_is c none sound

  is_none : genesis_world [] ≡ no_world
  unfolding genesis_world
  is_none = refl

  no_tokens : world_tokens c no_world ≡ 0
  no_tokens =
      omega (
        arith,
        genesis_tokens c none sound,
        sum_by-cons (world_tokens c) (genesis_world []) [],
        sum_by-cons (list_tokens c) [] [],
        ap (world_tokens c) is_none,
      )

  valid : IsValidWorld c no_world
  valid = subst (IsValidWorld c) is_none start.valid.0

  small : IsSmall no_world
  small = subst IsSmall is_none start.small.0

  -- ---- with what it carries
  module _ (to : List ℕ) (id : Hash32) where
    abbrev refund : Receipt
    refund = deposit_refund to id 1

    good : IsGood c refund
    good = record { bounded = refund_bounded c to id 1; calls = (omega arith, tt) }

    pub is_sound : (r : Resumed) (es : List Entry) → length r.layout + 1 ≡ 1 → AreWholeEntries es
        → world_from es ≡ no_world → r.worlds ≡ es ∷ [] → r.carried ≡ (refund ∷ []) ∷ []
        → IsSoundStart c (first.Resumed r)
    is_sound r es alone whole world worlds carried = record {
      start = record {
        worlds = ap (λ (ws : List (List Entry)). length (map world_from ws)) worlds ∙ sym alone;
        lists = ap (λ (ls : List (List Receipt)). length ls) carried ∙ sym alone;
        valid =
            subst (λ (ws : List (List Entry)). AllByRecursion (IsValidWorld c) (map world_from ws)) (sym worlds)
            (subst (IsValidWorld c) (sym world) valid, tt);
        small =
            subst (λ (ws : List (List Entry)). AllByRecursion IsSmall (map world_from ws)) (sym worlds)
            (subst IsSmall (sym world) small, tt);
        good = subst (AllByRecursion (AreGood c)) (sym carried) ((good, tt), tt);
        few =
            omega (
              arith,
              ap (λ (ws : List (List Entry)). sum_by (world_tokens c) (map world_from ws)) worlds,
              sum_by-cons (world_tokens c) (world_from es) [],
              ap (world_tokens c) world,
              no_tokens,
              ap (λ (ls : List (List Receipt)). sum_by (list_tokens c) ls) carried,
              sum_by-cons (list_tokens c) (refund ∷ []) [],
              refund_holds c to id 1,
            );
      };
      fills = subst (AllByRecursion AreWholeEntries) (sym worlds) (whole, tt);
    }
