-- What actions keep. Laws of this project's own.
use Rattle.std.specs.Prelude.{◌≡◌, ℕ, ◌+◌, ◌*◌, ◌^◌, ◌<◌, ◌≤◌, true, List, ◌++◌}
use Rattle.std.specs.List.{AllByRecursion}
use Rattle.nr_actions.specs.Calling.{price_of}
use Rattle.nr_actions.specs.declared.frame.Frame.{Frame}
use Rattle.nr_config.specs.Config.{Config}
use Rattle.nr_fees.specs.Fees.{attached, deposit_of}
use Rattle.nr_records.specs.declared.action.Action.{Action}
use Rattle.nr_records.specs.declared.receipt.Receipt.{Receipt}
use Rattle.nr_state.specs.Calls.{IsReturned}
use Rattle.nr_state.specs.Queues.{is_act}
use Rattle.nr_state.specs.Tokens.{world_tokens, list_tokens}
use Rattle.nr_state.specs.Valid.{IsValidWorld, IsBounded}
use Rattle.nr_state.specs.World.{World}

-- an action on a valid world and a frame, done, with the receipts that it made and the gas that it burnt and promised
pub record IsDone (c : Config) (w : World) (f : Frame) (a : Action) (after : World) (g : Frame) : Type 0 where
  pub made : List Receipt
  pub burnt : ℕ
  pub promised : ℕ
  -- the world stays valid
  pub valid : IsValidWorld c after
  -- the deposit comes in; what leaves the world is in the receipts made, whose gas is paid for by the receipt
  pub tokens : world_tokens c w + deposit_of a + promised * price_of f ≡ world_tokens c after + list_tokens c made
  -- what waits is the same
  pub rest : after ≡ record w {
    accounts = after.accounts;
    keys = after.keys;
    code = after.code;
    data_of = after.data_of;
  }
  -- the frame has what was made, burnt and promised
  pub all_made : g.made ≡ f.made ++ made
  pub all_burnt : g.call_burnt ≡ f.call_burnt + burnt
  pub all_promised : g.promised ≡ f.promised + promised
  -- its receipt is the same
  pub receipt : g ≡ record f {
    actor = g.actor;
    next_ordinal = g.next_ordinal;
    made = g.made;
    returned = g.returned;
    logs = g.logs;
    call_burnt = g.call_burnt;
    promised = g.promised;
  }
  -- it burns and promises no more than the gas attached to it
  pub gas : burnt + promised ≤ attached a
  -- the receipts made are of actions
  pub actions : AllByRecursion (λ r. is_act r.body ≡ true) made
  -- the gas price and the prepaid gas of the receipts made fit in 64 bits, where those of this one do
  pub bounded : f.act.gas_price < 2 ^ 64 → attached a < 2 ^ 64 → AllByRecursion (IsBounded c) made
  -- a returned promise is among the receipts made
  pub returned : IsReturned f.made f.returned → IsReturned g.made g.returned
