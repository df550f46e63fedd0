-- What stays good along a run of chunks: worlds are valid, and what receipts state fits in 64 bits. This project's own.
use Rattle.std.specs.Prelude.{◌≡◌, ℕ, ◌^◌, ◌<◌, Bool, true, List, nat_le, count_by}
use Rattle.std.specs.List.{AllByRecursion}
use Rattle.nr_chunk.specs.Views.{Kept, Working}
use Rattle.nr_config.specs.Config.{Config}
use Rattle.nr_fees.specs.Fees.{attached}
use Rattle.nr_receipt.specs.Keeping.{HasSmallCalls}
use Rattle.nr_records.specs.declared.action.Action.{Action}
use Rattle.nr_records.specs.declared.receipt.Body.{Body}
use Rattle.nr_records.specs.declared.receipt.Body.TheVariants.{Act, Datum}
use Rattle.nr_records.specs.declared.receipt.Receipt.{Receipt}
use Rattle.nr_state.specs.Tokens.{postponed_sum, delayed_sum}
use Rattle.nr_state.specs.Valid.{IsValidWorld, IsBounded}
use Rattle.nr_state.specs.World.{World}

-- ---- how many actions of a receipt have more gas attached than fits in 64 bits
abbrev pub is_large : Action → Bool
is_large a = nat_le (2 ^ 64) (attached a)

abbrev pub large_in : Body → ℕ
large_in (Act act) = count_by is_large act.actions
large_in (Datum d) = 0

abbrev pub large : Receipt → ℕ
large r = large_in r.body

-- none of the receipts that wait has one
pub record IsSmall (w : World) : Type 0 where
  pub postponed : postponed_sum large w ≡ 0
  pub delayed : delayed_sum large w ≡ 0

-- ---- a receipt whose gas price, prepaid gas and each attached gas fit in 64 bits
pub record IsGood (c : Config) (r : Receipt) : Type 0 where
  pub bounded : IsBounded c r
  pub calls : HasSmallCalls r.body

abbrev pub AreGood : Config → List Receipt → Type 0
AreGood c list = AllByRecursion (IsGood c) list

-- ---- a shard between its chunks
pub record IsGoodWorld (c : Config) (w : Kept) : Type 0 where
  pub config : w.config ≡ c
  pub valid : IsValidWorld c w.world
  pub small : IsSmall w.world
  -- what its next chunk takes
  pub carried : AreGood c w.carried

-- ---- a chunk at work, apart from its configuration and its world's validity
pub record IsFine (c : Config) (k : Working) : Type 0 where
  pub whole : k.whole ≡ true
  pub sent : AreGood c k.outgoing
  pub small : IsSmall k.world
  pub price : k.place.price < 2 ^ 64

pub record IsGoodWork (c : Config) (k : Working) : Type 0 where
  pub config : k.config ≡ c
  pub valid : IsValidWorld c k.world
  pub fine : IsFine c k
