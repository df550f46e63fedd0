-- What a unit of gas costs in a chunk fits in 64 bits.
use Rattle.std.proofs.Common.{◌≡◌, ℕ, zero, suc, ◌^◌, ◌<◌, List, Option, Some, None, refl}
use Rattle.std.specs.Prelude.{slice_get, unwrap_or}
use Rattle.std.specs.Coded.{le_prop}
use Rattle.std.specs.List.{AllByRecursion, AllByRecursion-prop}
use Rattle.nr_blocks.specs.BlocksFiles.{FitsPrice}
use Rattle.nr_blocks.specs.declared.block.Block.{Block}
use Rattle.nr_bytes.specs.Spelling.{Below}
use Rattle.nr_chunk.specs.Chain.{Chain, IsChain, place_at, price_in}
use Rattle.nr_config.specs.Config.{gas_price}
use Rattle.nr_config.proofs.Bounds.{gas_price-fits}
use Rattle.nr_overlap.proofs.Basics.{each_at}
use Rattle.nr_records.specs.Options.{IsOption}

-- that prices fit has one proof at most
stated_prop : (price : Option ℕ) → IsProp (IsOption (Below (2 ^ 64)) price)
stated_prop None = λ p q. refl
stated_prop (Some price) = le_prop

pub prices_prop : (blocks : List Block) → IsProp (AllByRecursion FitsPrice blocks)
prices_prop blocks = AllByRecursion-prop FitsPrice (λ block. stated_prop block.price) blocks

module _ (usual : ℕ) (small : usual < 2 ^ 64) where
  stated_fits : (price : Option ℕ) → IsOption (Below (2 ^ 64)) price → unwrap_or price usual < 2 ^ 64
  stated_fits None h = small
  stated_fits (Some price) h = h

  price_fits : (o : Option Block) → ((block : Block) → o ≡ Some block → FitsPrice block) → price_in usual o < 2 ^ 64
  price_fits None fits = small
  price_fits (Some block) fits = stated_fits block.price (fits block refl)

module _ (x : Chain) (is : IsChain x) where
  pub place_fits : (h : ℕ) → (place_at x h).price < 2 ^ 64
  place_fits zero = gas_price-fits x.config is.config
  place_fits (suc h) =
      price_fits (gas_price x.config) (gas_price-fits x.config is.config) (slice_get x.blocks h)
      (λ block e. each_at FitsPrice x.blocks h block is.prices e)
