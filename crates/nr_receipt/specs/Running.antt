-- The actions of a receipt in order, up to the first failure, and the check of storage behind the last one. After the
-- Nomicon, Runtime Specification, Receipts and Actions.
use Rattle.std.specs.Prelude.{ℕ, ◌+◌, ◌==◌, ◌&&◌, not, Bool, false, cond, List, [], ◌∷◌, length, Option, Some}
use Rattle.std.specs.Prelude.{None, nat_lt}
use Rattle.std.specs.FinMap.{get}
use Rattle.nr_actions.specs.Actions.{Acted, Acts, Fails, act}
use Rattle.nr_actions.specs.Failures.{number}
use Rattle.nr_actions.specs.declared.failure.Failure.TheVariants.{LackBalanceForState}
use Rattle.nr_actions.specs.declared.frame.Frame.{Frame}
use Rattle.nr_config.specs.Config.{Config}
use Rattle.nr_ids.specs.Grammar.{is_system}
use Rattle.nr_records.specs.declared.account.Account.{Account}
use Rattle.nr_records.specs.declared.action.Action.{Action}
use Rattle.nr_state.specs.Calls.{Called}
use Rattle.nr_state.specs.Usage.{storage_stake}
use Rattle.nr_state.specs.World.{World, account_tokens}
use Rattle.nr_state.specs.declared.calls.CallContext.{CallContext}

-- ---- what the actions come to: the world and the frame after all of them, or a failure by its index, number and
-- part, with the frame that it came in
pub data Ran : Type 0 where
  Done : (after : World) (frame : Frame) → Ran
  Broken : (index : ℕ) (kind : ℕ) (part : ℕ) (frame : Frame) → Ran

-- ---- the check of storage, which no receipt of the system
-- has: a receiver that stands must have enough for what it uses
abbrev pub lacks_balance : Config → Account → Bool
lacks_balance c account = nat_lt (account_tokens account) (storage_stake c account)

abbrev pub receiver_lacks : Config → Option Account → Bool
receiver_lacks c None = false
receiver_lacks c (Some account) = lacks_balance c account

abbrev pub fails_storage : Config → World → Frame → Bool
fails_storage c w f = not (is_system f.predecessor) && receiver_lacks c (get w.accounts f.receiver)

-- its index is the number of actions
abbrev pub checked : Config → World → Frame → Ran
checked c w f = cond (fails_storage c w f) (Broken (length f.act.actions) (number LackBalanceForState) 0 f) (Done w f)

-- ---- one action after the other, from an index on
-- what a call burnt that failed is burnt
abbrev pub with_burnt : Frame → ℕ → Frame
with_burnt f burnt = record f { call_burnt = f.call_burnt + burnt }

abbrev pub go_on : (World → Frame → Ran) → ℕ → Frame → Acted → Ran
go_on rest index f (Acts after g) = rest after g
go_on rest index f (Fails kind part burnt) = Broken index kind part (with_burnt f burnt)

abbrev pub is_last : Frame → ℕ → Bool
is_last f index = index + 1 == length f.act.actions

unfoldable pub run_from : Config → (World → CallContext → Called) → ℕ → List Action → World → Frame → Ran
run_from c call index [] w f = checked c w f
run_from c call index (a ∷ rest) w f =
    go_on (run_from c call (index + 1) rest) index f (act c call w f (is_last f index) a)

abbrev pub run_actions : Config → (World → CallContext → Called) → World → Frame → Ran
run_actions c call w f = run_from c call 0 f.act.actions w f
