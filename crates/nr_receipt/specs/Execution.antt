-- How a receipt of actions is executed, and how one is settled that clashes. After the Nomicon, Runtime Specification
-- (Receipts, Refunds, Runtime Fees) and Economics (Gas, Contract rewards); clashes are this project's.
use Rattle.std.specs.Prelude.{◌≡◌, ℕ, ◌+◌, ◌-◌, ◌*◌, List, [], length, Option, Result, Ok, Err}
use Rattle.nr_actions.specs.declared.frame.Frame.{Frame}
use Rattle.nr_config.specs.Config.{Config}
use Rattle.nr_receipt.specs.Drawing.{with_result, with_gas_refund, deposits_lost, given_up}
use Rattle.nr_receipt.specs.Frames.{first_frame, burning_price, burnt_gas}
use Rattle.nr_receipt.specs.Rewards.{reward_of, with_reward, reward_paid}
use Rattle.nr_receipt.specs.Running.{Ran, Done, Broken, run_actions}
use Rattle.nr_receipt.specs.declared.executed.Executed.{Executed}
use Rattle.nr_records.specs.declared.chunk_result.RunStatus.{RunStatus}
use Rattle.nr_records.specs.declared.chunk_result.RunStatus.TheVariants as status
use Rattle.nr_records.specs.declared.receipt.ActionReceipt.{ActionReceipt}
use Rattle.nr_records.specs.declared.receipt.Body.{Body}
use Rattle.nr_records.specs.declared.receipt.Body.TheVariants.{Act, Datum}
use Rattle.nr_records.specs.declared.receipt.Receipt.{Receipt}
use Rattle.nr_state.specs.Calls.{Called, Stands}
use Rattle.nr_state.specs.View.{StateView}
use Rattle.nr_state.specs.World.{World}
use Rattle.nr_state.specs.declared.calls.CallContext.{CallContext}
use Rattle.nr_state.specs.declared.calls.Returned.{Returned}
use Rattle.nr_state.specs.declared.calls.Returned.TheVariants.{Value, Promise}
use Rattle.nr_state.specs.declared.place.Place.{Place}

-- what an execution gives: the world after it, and what it tells and made
pub record Execution : Type 0 where
  pub world : World
  pub executed : Executed

abbrev pub status_of : Returned → RunStatus
status_of (Value bytes) = status.Value bytes
status_of (Promise id) = status.Promise id

abbrev pub executed_as : Frame → RunStatus → ℕ → ℕ → Executed
executed_as f status gas burnt =
    record {
      outcome = record { receipt_id = f.receipt_id; status = status; gas = gas; burnt = burnt; logs = f.logs };
      made = f.made;
    }

-- the reward is paid, and what is left of the gas goes back; the burnt gas is burnt at its price, but for the reward,
-- and with it what is lost
abbrev pub concluded : Config → World → Frame → RunStatus → ℕ → ℕ → Execution
concluded c w f status gas lost =
    let reward = reward_of c f in
    record {
      world = with_reward w f.receiver reward;
      executed =
          executed_as (with_gas_refund c gas f) status gas
          (gas * burning_price f - reward_paid w f.receiver reward + lost);
    }

-- on success the changes stay, and the result goes to those who wait for it
abbrev pub succeeded : Config → World → Frame → Execution
succeeded c w f =
    concluded c w (with_result f.returned f) (status_of f.returned) (burnt_gas c f (length f.act.actions)) 0

-- on failure the changes, the receipts made, the logs and the promised gas are dropped, and ids are drawn from the
-- first one again
abbrev pub dropped : Frame → Frame
dropped f = record f { next_ordinal = 0; made = []; logs = []; promised = 0 }

abbrev pub failed : Config → World → ℕ → ℕ → ℕ → Frame → Execution
failed c w index kind part f =
    concluded c w (given_up f) (status.Failure index kind part) (burnt_gas c f (index + 1)) (deposits_lost f)

abbrev pub ended : Config → World → Ran → Execution
ended c before (Done after f) = succeeded c after f
ended c before (Broken index kind part f) = failed c before index kind part (dropped f)

-- ---- the whole, by what calls mean
unfoldable pub execute : Config → (World → CallContext → Called) → World → Receipt → ActionReceipt
    → List (Option (List ℕ)) → Place → Execution
execute c call w r act inputs place = ended c w (run_actions c call w (first_frame r act inputs place))

-- ---- a clash is a failure that burns no gas and changes no state
abbrev pub settled : Config → Frame → Executed
settled c f = executed_as (with_gas_refund c 0 (given_up f)) status.Clash 0 (deposits_lost f)

unfoldable pub settle_clash : Config → Receipt → ActionReceipt → Place → Executed
settle_clash c r act place = settled c (first_frame r act [] place)

-- ---- what the call answers of a receipt of actions: exactly that. Where memory runs out nothing is said.
abbrev pub Executes : {E : Type 0} → Result Executed E → StateView → StateView → Execution → Type 0
Executes (Ok done) old new execution = (execution ≡ record { world = new.world; executed = done }) × Stands old new
Executes (Err want) old new execution = Unit {0}

abbrev pub OfActions : Body → (ActionReceipt → Type 0) → Type 0
OfActions (Act act) P = P act
OfActions (Datum d) P = ⊥
