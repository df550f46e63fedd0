-- What the parts of the code need and answer: how the actions go on, and the bounds of numbers. This project's own.
use Rattle.std.specs.Prelude.{◌≡◌, ℕ, ◌+◌, ◌*◌, ◌^◌, ◌<◌, ◌≤◌, true, false, [], ◌∷◌, length, drop, Result, Ok, Err}
use Rattle.nr_actions.specs.Actions.{Acted, Acts, HasRoom, IsFailed}
use Rattle.nr_actions.specs.Calling.{price_of}
use Rattle.nr_actions.specs.declared.frame.Frame.{Frame}
use Rattle.nr_config.specs.Config.{Config}
use Rattle.nr_fees.specs.Fees.{attached_gas, deposits}
use Rattle.nr_ids.specs.Grammar.{is_system}
use Rattle.nr_receipt.specs.Drawing.{deposits_lost}
use Rattle.nr_receipt.specs.Frames.{burning_price, burnt_gas, prepaid}
use Rattle.nr_receipt.specs.Running.{Ran, Done, Broken, checked}
use Rattle.nr_receipt.specs.declared.running.Stop.{Stop}
use Rattle.nr_receipt.specs.declared.running.Stop.TheVariants.{Failed, Memory}
use Rattle.nr_state.specs.Calls.{Stands}
use Rattle.nr_state.specs.Tokens.{world_tokens}
use Rattle.nr_state.specs.Valid.{IsValidWorld}
use Rattle.nr_state.specs.View.{StateView}
use Rattle.nr_state.specs.World.{World}
use Rattle.nr_state.specs.declared.calls.Returned.TheVariants.{Value}

-- ---- what a receipt's first frame is, with the world that it
-- meets: fresh, and with all that it holds within the bounds
pub record IsReady (c : Config) (w : World) (f : Frame) : Type 0 where
  pub valid : IsValidWorld c w
  pub price : f.act.gas_price < 2 ^ 64
  pub gas : prepaid c f < 2 ^ 64
  pub room : world_tokens c w + (deposits f.act.actions + prepaid c f * price_of f) ≤ 2 ^ 127
  pub made : f.made ≡ []
  pub returned : f.returned ≡ Value []
  pub burnt : f.call_burnt ≡ 0
  pub promised : f.promised ≡ 0

-- ---- the actions from an index on can be done: all that they bring and that their calls promise fits in the world
pub record CanRun (c : Config) (index : ℕ) (w : World) (f : Frame) : Type 0 where
  pub valid : IsValidWorld c w
  pub room : world_tokens c w + (deposits (drop index f.act.actions) + attached_gas (drop index f.act.actions)
      * price_of f) ≤ 2 ^ 127
  pub burnt : f.call_burnt + f.promised ≤ index * 2 ^ 64

-- one action: as its definition says, or the failure with its index; where memory runs out nothing is said
abbrev pub Steps : {A : Type 0} → Result A Stop → StateView → StateView → Frame → Frame → ℕ → Acted → Type 0
Steps (Ok done) old new before after index acted = (acted ≡ Acts new.world after) × Stands old new
Steps (Err (Failed i kind part)) old new before after index acted =
    (i ≡ index) × IsFailed kind part old new before after acted
Steps (Err Memory) old new before after index acted = Unit {0}

-- all actions: then comes the check of storage, or some action failed
abbrev pub RunsAll : {A : Type 0} → Config → ℕ → Result A Stop → StateView → StateView → Frame → Ran → Type 0
RunsAll c count (Ok done) old new after ran =
    (ran ≡ checked c new.world after) × Stands old new × (length after.act.actions ≡ count)
RunsAll c count (Err (Failed index kind part)) old new after ran = (ran ≡ Broken index kind part after) × Stands old new
RunsAll c count (Err Memory) old new after ran = Unit {0}

abbrev pub Runs : {A : Type 0} → Result A Stop → StateView → StateView → Frame → Ran → Type 0
Runs (Ok done) old new after ran = (ran ≡ Done new.world after) × Stands old new
Runs (Err (Failed index kind part)) old new after ran = (ran ≡ Broken index kind part after) × Stands old new
Runs (Err Memory) old new after ran = Unit {0}

-- ---- the numbers of a conclusion fit: so much gas is burnt, and so many tokens are lost
pub record CanConclude (c : Config) (w : World) (f : Frame) (gas lost : ℕ) : Type 0 where
  pub price : f.act.gas_price < 2 ^ 64
  pub paid_for : prepaid c f < 2 ^ 64
  pub by_calls : is_system f.predecessor ≡ false → f.call_burnt < 2 ^ 64
  pub in_all : gas < 2 ^ 64
  pub burnt : gas * burning_price f + lost < 2 ^ 128
  pub deposited : deposits f.act.actions < 2 ^ 128
  pub room : HasRoom w f.receiver (f.call_burnt * burning_price f)

-- ---- a checkpoint is made, and room for one more
pub record IsMarked (old new : StateView) : Type 0 where
  pub world : new.world ≡ old.world
  pub marks : new.marks ≡ old.world ∷ old.marks
  pub spare : old.spare ≤ new.spare + 1
  pub room : 0 < new.spare
  pub config : new.config ≡ old.config
  pub whole : new.whole ≡ true

-- all actions with the check of storage: the changes are kept, or the world is as it was. What comes behind them can
-- be done.
pub record IsTried (c : Config) (old new : StateView) (after : Frame) (come : Ran) : Type 0 where
  pub ran : come ≡ Done new.world after
  pub stands : Stands old new
  pub can : CanConclude c new.world after (burnt_gas c after (length after.act.actions)) 0

pub record IsUndone (c : Config) (index kind part : ℕ) (old new : StateView) (after : Frame) (come : Ran) : Type 0 where
  pub ran : come ≡ Broken index kind part after
  pub world : new.world ≡ old.world
  pub stands : Stands old new
  pub can : CanConclude c new.world after (burnt_gas c after (index + 1)) (deposits_lost after)

abbrev pub Tries : {A : Type 0} → Config → Result A Stop → StateView → StateView → Frame → Ran → Type 0
Tries c (Ok done) old new after ran = IsTried c old new after ran
Tries c (Err (Failed index kind part)) old new after ran = IsUndone c index kind part old new after ran
Tries c (Err Memory) old new after ran = Unit {0}
