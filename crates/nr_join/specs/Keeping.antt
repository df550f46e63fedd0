-- What offering and the delayed queue keep. Laws of this project's own.
use Rattle.std.specs.Prelude.{◌≡◌, ℕ, ◌+◌, true, false, cond, List, [], ◌∷◌, length, Option, sum_by}
use Rattle.nr_config.specs.Config.{Config}
use Rattle.nr_join.specs.declared.offered.Offered.{Offered}
use Rattle.nr_join.specs.declared.offered.Offered.TheVariants.{Run, Postponed, Stored, Clash}
use Rattle.nr_records.specs.declared.receipt.Receipt.{Receipt}
use Rattle.nr_state.specs.Flat.{inputs_of}
use Rattle.nr_state.specs.Queues.{is_act}
use Rattle.nr_state.specs.Tokens.{world_tokens, list_tokens, postponed_sum, delayed_sum}
use Rattle.nr_state.specs.Valid.{IsValidWorld, IsBounded}
use Rattle.nr_state.specs.World.{World}

-- the receipts that wait nowhere after an offering: the one that runs or clashes, and a datum that was stored
abbrev pub leaving : Receipt → Offered → List Receipt
leaving r (Run q inputs) = cond (is_act r.body) (q ∷ []) (r ∷ q ∷ [])
leaving r (Postponed id) = []
leaving r (Stored id) = r ∷ []
leaving r (Clash q held) = q ∷ []

-- a receipt that runs is one of actions, its gas price and its prepaid gas fit in 64 bits, and it gets as many data
-- as it has inputs
pub record CanRun (c : Config) (r : Receipt) (found : List (Option (List ℕ))) : Type 0 where
  pub action : is_act r.body ≡ true
  pub bounded : IsBounded c r
  pub inputs : length found ≡ length (inputs_of r.body)

-- a receipt of actions runs, waits or clashes, a datum sets one free, is stored or clashes; what clashes is what was
-- offered
abbrev pub Fares : Config → Receipt → Offered → Type 0
Fares c r (Run q inputs) = CanRun c q inputs
Fares c r (Postponed id) = is_act r.body ≡ true
Fares c r (Stored id) = is_act r.body ≡ false
Fares c r (Clash q held) = q ≡ r

-- from a valid world and a receipt that was offered to the world after it
pub record IsOffered (c : Config) (w : World) (r : Receipt) (after : World) (offered : Offered) : Type 0 where
  -- the world stays valid
  pub valid : IsValidWorld c after
  -- only received data and postponed receipts change
  pub rest : after ≡ record w { received = after.received; postponed = after.postponed }
  -- no token is lost
  pub tokens : world_tokens c after + list_tokens c (leaving r offered) ≡ world_tokens c w + list_tokens c (r ∷ [])
  -- nor is anything else that receipts have, as the count of one of them
  pub sums : (f : Receipt → ℕ) → postponed_sum f after + sum_by f (leaving r offered) ≡ postponed_sum f w + f r
  pub fares : Fares c r offered

-- a receipt joins the delayed queue
pub record IsDelayed (c : Config) (w : World) (r : Receipt) (after : World) : Type 0 where
  pub valid : IsValidWorld c after
  pub rest : after ≡ record w { delayed = after.delayed }
  pub tokens : world_tokens c after ≡ world_tokens c w + list_tokens c (r ∷ [])
  pub sums : (f : Receipt → ℕ) → delayed_sum f after ≡ delayed_sum f w + f r

-- the receipt at its front leaves it
pub record IsServed (c : Config) (w : World) (r : Receipt) (after : World) : Type 0 where
  pub valid : IsValidWorld c after
  pub rest : after ≡ record w { delayed = after.delayed; served = after.served }
  pub tokens : world_tokens c after + list_tokens c (r ∷ []) ≡ world_tokens c w
  pub sums : (f : Receipt → ℕ) → delayed_sum f after + f r ≡ delayed_sum f w
  -- its gas price and its prepaid gas fit in 64 bits
  pub bounded : IsBounded c r
