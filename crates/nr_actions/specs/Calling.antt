-- What a call of a contract is given by its receipt, and what it gives the receipt. After the Nomicon, Runtime
-- Specification (Function Call, Receipts); how the parts are counted is this project's.
use Rattle.std.specs.Prelude.{ℕ, ◌+◌, Bool, cond, List, [], ◌++◌}
use Rattle.nr_actions.specs.declared.frame.Frame.{Frame}
use Rattle.nr_ids.specs.Grammar.{is_system}
use Rattle.nr_state.specs.declared.calls.CallContext.{CallContext}
use Rattle.nr_state.specs.declared.calls.CallEnd.{CallEnd}

-- a receipt of the system has no gas to pay for
abbrev pub price_of : Frame → ℕ
price_of f = cond (is_system f.predecessor) 0 f.act.gas_price

-- the receipt's last action gives its result to the receipt's outputs
abbrev pub context_of : Frame → Bool → List ℕ → List ℕ → ℕ → ℕ → CallContext
context_of f last method args gas deposit =
    record {
      current = f.receiver;
      predecessor = f.predecessor;
      signer = f.act.signer;
      signer_key = f.act.signer_key;
      method = method;
      args = args;
      deposit = deposit;
      gas = gas;
      gas_price = price_of f;
      inputs = f.inputs;
      outputs = cond last f.act.outputs [];
      receipt_id = f.receipt_id;
      next_ordinal = f.next_ordinal;
      height = f.place.height;
      timestamp = f.place.timestamp;
    }

-- only the last action's result is the receipt's
abbrev pub after_call : Frame → Bool → CallEnd → Frame
after_call f last end =
    record f {
      next_ordinal = end.next_ordinal;
      made = f.made ++ end.made;
      returned = cond last end.returned f.returned;
      logs = f.logs ++ end.logs;
      call_burnt = f.call_burnt + end.burnt;
      promised = f.promised + end.promised;
    }
