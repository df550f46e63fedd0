-- Calls of contracts: what a call comes to, what it answers, and what every caller promises. After the Nomicon,
-- Runtime Specification (Function Call); the promises are this project's.
use Rattle.std.specs.Prelude.{◌≡◌, ◌≢◌, ℕ, ◌+◌, ◌≤◌, true, false, List, Option, Some, None, IsSome, Result, Ok, Err}
use Rattle.std.specs.Prelude.{sum_by}
use Rattle.std.specs.FinMap.{get}
use Rattle.std.specs.List.{AllByRecursion, list_any}
use Rattle.std.specs.Str.{bytes_eq}
use Rattle.nr_config.specs.Config.{Config}
use Rattle.nr_fees.specs.Fees.{deposits, body_gas}
use Rattle.nr_records.specs.declared.account.Account.{Account}
use Rattle.nr_records.specs.declared.receipt.Body.{Body}
use Rattle.nr_records.specs.declared.receipt.Body.TheVariants.{Act, Datum}
use Rattle.nr_records.specs.declared.receipt.Receipt.{Receipt}
use Rattle.nr_state.specs.declared.calls.CallContext.{CallContext}
use Rattle.nr_state.specs.declared.calls.CallEnd.{CallEnd}
use Rattle.nr_state.specs.declared.calls.CallStop.{CallStop}
use Rattle.nr_state.specs.declared.calls.CallStop.TheVariants.{Failed, Memory}
use Rattle.nr_state.specs.declared.calls.Returned.{Returned}
use Rattle.nr_state.specs.declared.calls.Returned.TheVariants.{Value, Promise}
use Rattle.nr_state.specs.Tokens.{world_tokens}
use Rattle.nr_state.specs.Valid.{IsValidWorld}
use Rattle.nr_state.specs.View.{StateView}
use Rattle.nr_state.specs.World.{World}

-- ---- what a call comes to: an end and the world after it, or a failure and the gas that it burnt
pub data Called : Type 0 where
  Ended : (end : CallEnd) (after : World) → Called
  Stopped : (kind : ℕ) (part : ℕ) (burnt : ℕ) → Called

-- the current account stands, and has code
pub record CanCall (w : World) (x : CallContext) : Type 0 where
  pub stands : IsSome (get w.accounts x.current)
  pub code : IsSome (get w.code x.current)

-- ---- what it answers
-- the checkpoints stand with their worlds as before, at least as many more can be made, and the configuration is the
-- same
pub record Stands (old new : StateView) : Type 0 where
  pub marks : new.marks ≡ old.marks
  pub spare : old.spare ≤ new.spare
  pub config : new.config ≡ old.config
  pub whole : new.whole ≡ true

-- a failure leaves the world as it was; where memory runs out nothing is said
abbrev pub Answers : Result CallEnd CallStop → StateView → StateView → Called → Type 0
Answers (Ok end) old new called = called ≡ Ended end new.world
Answers (Err (Failed kind part burnt)) old new called = (called ≡ Stopped kind part burnt) × (new.world ≡ old.world)
Answers (Err Memory) old new called = Unit {0}

abbrev pub Leaves : Result CallEnd CallStop → StateView → StateView → Type 0
Leaves (Ok end) old new = Stands old new
Leaves (Err (Failed kind part burnt)) old new = Stands old new
Leaves (Err Memory) old new = Unit {0}

-- ---- the receipts that a call makes
abbrev pub body_deposits : Body → ℕ
body_deposits (Act act) = deposits act.actions
body_deposits (Datum d) = 0

abbrev pub made_deposits : List Receipt → ℕ
made_deposits made = sum_by (λ r. body_deposits r.body) made

abbrev pub made_gas : Config → List Receipt → ℕ
made_gas c made = sum_by (λ r. body_gas c false r.body) made

abbrev pub HasPrice : ℕ → Body → Type 0
HasPrice price (Act act) = act.gas_price ≡ price
HasPrice price (Datum d) = ⊥

-- an action receipt of the current account, at the context's gas price
pub record IsMade (x : CallContext) (r : Receipt) : Type 0 where
  pub predecessor : r.predecessor ≡ x.current
  pub price : HasPrice x.gas_price r.body

abbrev pub IsReturned : List Receipt → Returned → Type 0
IsReturned made (Value bytes) = Unit {0}
IsReturned made (Promise id) = list_any (λ r. bytes_eq r.receipt_id.0 id.0) made ≡ true

-- an account that stands goes on, with another amount and another usage at most; none is made
abbrev pub GoesOn : Option Account → Option Account → Type 0
GoesOn None None = Unit {0}
GoesOn None (Some after) = ⊥
GoesOn (Some account) None = ⊥
GoesOn (Some account) (Some after) =
    after ≡ record account { amount = after.amount; storage_usage = after.storage_usage }

-- nothing changes but an account's amount and usage, and its data
pub record ChangesOnly (id : List ℕ) (w after : World) : Type 0 where
  -- all but accounts and data is the same
  pub rest : after ≡ record w { accounts = after.accounts; data_of = after.data_of }
  -- no other account changes
  pub others : (q : List ℕ) → q ≢ id → get after.accounts q ≡ get w.accounts q
  -- the account keeps its locked tokens and its code hash
  pub account : GoesOn (get w.accounts id) (get after.accounts id)
  -- no data of others change
  pub data_of : (k : List ℕ × List ℕ) → k.0 ≢ id → get after.data_of k ≡ get w.data_of k

-- ---- what every caller promises
pub record IsEnd (c : Config) (w : World) (x : CallContext) (end : CallEnd) (after : World) : Type 0 where
  -- burnt and promised gas together are at most the gas of the call
  pub gas : end.burnt + end.promised ≤ x.gas
  -- the promised gas is the prepaid gas of the receipts made
  pub promised : end.promised ≡ made_gas c end.made
  -- the tokens that leave the world are the deposits of the receipts made
  pub tokens : world_tokens c w ≡ world_tokens c after + made_deposits end.made
  -- only the current account, its usage and its data change
  pub changes : ChangesOnly x.current w after
  -- each receipt made is an action receipt of the current account, at the context's gas price
  pub made : AllByRecursion (IsMade x) end.made
  -- a returned promise is among the receipts made
  pub returned : IsReturned end.made end.returned
  -- a valid world stays valid
  pub valid : IsValidWorld c w → IsValidWorld c after

pub record IsCaller (c : Config) (call : World → CallContext → Called) : Type 0 where
  -- a call that ends keeps all of these
  pub ended : (w : World) (x : CallContext) (end : CallEnd) (after : World) → CanCall w x → call w x ≡ Ended end after
      → IsEnd c w x end after
  -- a failure burns at most the gas of the call
  pub stopped : (w : World) (x : CallContext) (kind part burnt : ℕ) → CanCall w x → call w x ≡ Stopped kind part burnt
      → burnt ≤ x.gas
