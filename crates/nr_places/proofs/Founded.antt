-- No receipt waits at a genesis, and none is carried.
use Rattle.std.proofs.Common.{◌≡◌, ℕ, zero, suc, ◌+◌, List, [], ◌∷◌, length, map, refl, ap, subst, ◌∙◌, arith}
use Rattle.std.specs.Prelude.{replicate, sum_by}
use Rattle.std.specs.List.{range_with_len}
use Rattle.std.proofs.lemmas.List.Sums.{sum_by-cons}
use Rattle.nr_blocks.specs.Genesis.{entries_of, genesis_world}
use Rattle.nr_blocks.specs.declared.genesis.Genesis.{Genesis}
use Rattle.nr_chunk.specs.GenesisSums.{genesis_waits}
use Rattle.nr_chunk.specs.Start.{genesis_start}
use Rattle.nr_places.specs.Places.{start_receipts, waiting}
use Rattle.nr_places.specs.Replay.{PlacesAddUp}
use Rattle.nr_records.specs.declared.receipt.Receipt.{Receipt}
use Rattle.nr_state.specs.World.{World}

module _ (f : Receipt → ℕ) (g : Genesis) where
  abbrev world : ℕ → World
  world s = genesis_world (entries_of g.layout s g.entries)

  none_waits : (ns : List ℕ) → sum_by (waiting f) (map world ns) ≡ 0
  none_waits [] = refl
  none_waits (n ∷ ns) =
      sum_by-cons (waiting f) (world n) (map world ns)
      ∙ (λ i. genesis_waits f (entries_of g.layout n g.entries) i + none_waits ns i)

  none_carried : (n : ℕ) → sum_by (sum_by f) (replicate n []) ≡ 0
  none_carried zero = refl
  none_carried (suc n) = sum_by-cons (sum_by f) [] (replicate n []) ∙ ap (λ t. 0 + t) (none_carried n)

  pub genesis_receipts : start_receipts f (genesis_start g) ≡ 0
  genesis_receipts =
      let n : ℕ = length g.layout + 1 in
      omega (arith, none_waits (range_with_len 0 n), none_carried n)

pub none_first : (g : Genesis) (n : List ℕ) → PlacesAddUp (start_receipts (λ q. 1) (genesis_start g)) n → PlacesAddUp 0 n
none_first g n = subst (λ first. PlacesAddUp first n) (genesis_receipts (λ q. 1) g)
