-- What a chunk needs to serve receipts, and what it keeps. This project's own.
use Rattle.std.specs.Prelude.{◌≡◌, ℕ, ◌+◌, ◌^◌, ◌≤◌, List, [], ◌∷◌, Option, Some, None, slice_get, Ok}
use Rattle.nr_chunk.specs.Chain.{AreBounded, working_tokens}
use Rattle.nr_chunk.specs.Views.{Working}
use Rattle.nr_config.specs.Config.{Config}
use Rattle.nr_fees.specs.Fees.{receipt_tokens}
use Rattle.nr_ids.specs.declared.key.Hash32.{Hash32}
use Rattle.nr_join.specs.Keeping.{IsOffered, IsDelayed, IsServed}
use Rattle.nr_join.specs.Offering.{offer}
use Rattle.nr_join.specs.declared.offered.Offered.{Offered}
use Rattle.nr_receipt.specs.Execution.{execute, settle_clash}
use Rattle.nr_receipt.specs.Keeping.{IsExecuted, IsSettled}
use Rattle.nr_records.specs.declared.receipt.ActionReceipt.{ActionReceipt}
use Rattle.nr_records.specs.declared.receipt.Body.{Body}
use Rattle.nr_records.specs.declared.receipt.Body.TheVariants.{Act, Datum}
use Rattle.nr_records.specs.declared.receipt.Receipt.{Receipt}
use Rattle.nr_records.specs.declared.transaction.Transaction.{Transaction}
use Rattle.nr_state.specs.Calls.{Called}
use Rattle.nr_state.specs.Changes.{with_delayed, served_front}
use Rattle.nr_state.specs.Tokens.{list_tokens, world_tokens}
use Rattle.nr_state.specs.Valid.{IsValidWorld, IsBounded}
use Rattle.nr_state.specs.World.{World}
use Rattle.nr_state.specs.declared.calls.CallContext.{CallContext}
use Rattle.nr_state.specs.declared.place.Place.{Place}
use Rattle.nr_txconvert.specs.Conversion.{convert}
use Rattle.nr_txconvert.specs.Keeping.{IsPaid}
use Rattle.nr_txconvert.specs.declared.converted.Converted.{Converted}

-- a working state and the receipts that it is still to serve: the world is valid, the gas prices and the prepaid gas
-- of all these receipts fit in 64 bits, and together there are at most 2^127 tokens
pub record CanServe (c : Config) (k : Working) (list : List Receipt) : Type 0 where
  pub config : k.config ≡ c
  pub valid : IsValidWorld c k.world
  pub coming : AreBounded c list
  pub room : working_tokens c k + list_tokens c list ≤ 2 ^ 127

-- from a working state to another, in which so many tokens came: they are all there, and the world is valid
pub record Keeps (c : Config) (before after : Working) (came : ℕ) : Type 0 where
  pub config : after.config ≡ before.config
  pub valid : IsValidWorld c after.world
  pub tokens : working_tokens c after ≡ working_tokens c before + came

-- the id of a datum
abbrev pub datum_of : Receipt → Body → Option Hash32
datum_of r (Act act) = None
datum_of r (Datum d) = Some r.receipt_id

-- ---- what executing, settling, offering and delaying keep
pub record Promise (c : Config) (call : World → CallContext → Called) : Type 0 where
  pub executed : (w : World) (r : Receipt) (act : ActionReceipt) (inputs : List (Option (List ℕ))) (place : Place)
      → IsValidWorld c w → r.body ≡ Act act → IsBounded c r → world_tokens c w + receipt_tokens c r ≤ 2 ^ 127
      → IsExecuted c w r (execute c call w r act inputs place)
  pub settled : (r : Receipt) (act : ActionReceipt) (place : Place) → r.body ≡ Act act → IsBounded c r
      → IsSettled c r (settle_clash c r act place)
  pub offered : (w : World) (r : Receipt) (after : World) (o : Offered) → IsValidWorld c w → IsBounded c r
      → world_tokens c w + list_tokens c (r ∷ []) ≤ 2 ^ 127
      → offer w r ≡ (after, o) → IsOffered c w r after o
  pub delayed : (w : World) (r : Receipt) → IsValidWorld c w → IsBounded c r
      → world_tokens c w + list_tokens c (r ∷ []) ≤ 2 ^ 127 → IsDelayed c w r (with_delayed w r)
  pub served : (w : World) (r : Receipt) → IsValidWorld c w → slice_get w.delayed 0 ≡ Some r
      → IsServed c w r (served_front w w.delayed)

-- what converting keeps
abbrev pub Pays : Config → Type 0
Pays c =
    (w : World) (tx : Transaction) (place : Place) (after : World) (made : Converted) → IsValidWorld c w
    → convert c w tx place ≡ Ok (after, made) → IsPaid c w place.price after made
