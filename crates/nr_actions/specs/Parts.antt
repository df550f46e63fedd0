-- What the parts of the code answer: what an action does to its frame, and how it ends. This project's own.
use Rattle.std.specs.Prelude.{◌≡◌, ℕ, ◌==◌, cond, List, Option, Some, None, Result, Ok, Err}
use Rattle.nr_actions.specs.Actions.{Acted, Acts, Fails, next_id, with_drawn}
use Rattle.nr_actions.specs.Calling.{after_call}
use Rattle.nr_actions.specs.Refunds.{deposit_refund}
use Rattle.nr_actions.specs.declared.effect.Effect.{Effect}
use Rattle.nr_actions.specs.declared.effect.Effect.TheVariants.{Same, Actor, Deleted, Called}
use Rattle.nr_actions.specs.declared.effect.Stop.{Stop}
use Rattle.nr_actions.specs.declared.effect.Stop.TheVariants.{Failed, Memory}
use Rattle.nr_actions.specs.declared.frame.Frame.{Frame}
use Rattle.nr_records.specs.declared.receipt.Receipt.{Receipt}
use Rattle.nr_state.specs.Calls.{Stands}
use Rattle.nr_state.specs.View.{StateView}

-- ---- the frame once an action was done
abbrev pub with_made : Frame → Option Receipt → Frame
with_made f None = f
with_made f (Some refund) = with_drawn f refund

abbrev pub frame_after : Frame → Effect → Frame
frame_after f Same = f
frame_after f (Actor actor) = record f { actor = actor }
frame_after f (Deleted actor refund) = record (with_made f refund) { actor = actor }
frame_after f (Called end last) = after_call f last end

-- the receipt of what an account had that goes, unless it had nothing
abbrev pub refund_to : Frame → List ℕ → ℕ → Option Receipt
refund_to f receiver amount =
    cond (amount == 0) None (Some (deposit_refund receiver (next_id f) amount))

-- ---- an action is done as its definition says, or it failed so and the world is as it was; where memory runs out
-- nothing is said
abbrev pub Performs : Result Effect Stop → StateView → StateView → Frame → Acted → Type 0
Performs (Ok effect) old new f acted = (acted ≡ Acts new.world (frame_after f effect)) × Stands old new
Performs (Err (Failed kind part burnt)) old new f acted =
    (acted ≡ Fails kind part burnt) × (new.world ≡ old.world) × Stands old new
Performs (Err Memory) old new f acted = Unit {0}
