-- The frame that a receipt begins with, its gas, and what that costs. After the Nomicon, Runtime Specification
-- (Receipts) and Economics (Gas); that a receipt of the system counts no gas and the price of burnt gas are this
-- project's.
use Rattle.std.specs.Prelude.{ℕ, ◌+◌, ◌-◌, ◌*◌, min, cond, List, [], Option, take}
use Rattle.nr_actions.specs.Calling.{price_of}
use Rattle.nr_actions.specs.declared.frame.Frame.{Frame}
use Rattle.nr_config.specs.Config.{Config}
use Rattle.nr_fees.specs.Fees.{exec_gas, act_gas}
use Rattle.nr_ids.specs.Grammar.{is_system}
use Rattle.nr_records.specs.declared.receipt.ActionReceipt.{ActionReceipt}
use Rattle.nr_records.specs.declared.receipt.Receipt.{Receipt}
use Rattle.nr_state.specs.declared.calls.Returned.TheVariants.{Value}
use Rattle.nr_state.specs.declared.place.Place.{Place}

-- the predecessor acts first
abbrev pub first_frame : Receipt → ActionReceipt → List (Option (List ℕ)) → Place → Frame
first_frame r act inputs place =
    record {
      predecessor = r.predecessor;
      receiver = r.receiver;
      actor = r.predecessor;
      act = act;
      receipt_id = r.receipt_id;
      inputs = inputs;
      place = place;
      next_ordinal = 0;
      made = [];
      returned = Value [];
      logs = [];
      call_burnt = 0;
      promised = 0;
    }

-- ---- gas, of which a receipt of the system has none
-- what was paid for: to execute the actions, and what is attached to them
abbrev pub prepaid : Config → Frame → ℕ
prepaid c f = act_gas c (is_system f.predecessor) f.act.actions

-- what is burnt once so many actions were begun: the execution fees of the receipt and of these actions, and what
-- calls burnt
abbrev pub burnt_gas : Config → Frame → ℕ → ℕ
burnt_gas c f begun = cond (is_system f.predecessor) 0 (exec_gas c (take begun f.act.actions) + f.call_burnt)

-- ---- tokens
-- gas is bought at the receipt's price, and burnt at the lesser of that and the price of the block that runs the
-- receipt
abbrev pub burning_price : Frame → ℕ
burning_price f = min (price_of f) f.place.price

-- what was paid for gas that isn't promised goes back, less what is burnt
abbrev pub gas_back : Config → Frame → ℕ → ℕ
gas_back c f burnt = (prepaid c f - f.promised) * price_of f - burnt * burning_price f
