-- The receipts that an execution makes behind its actions, each under the next id: the result for those who wait for
-- it, and refunds. After the Nomicon, Runtime Specification
-- (Receipts, Refunds); the ids and their order are this project's.
use Rattle.std.specs.Prelude.{ℕ, ◌==◌, cond, List, [], ◌∷◌, ◌++◌, Option, Some, None, fold}
use Rattle.std.specs.Str.{bytes_eq}
use Rattle.nr_actions.specs.Actions.{with_refund}
pub use Rattle.nr_actions.specs.Actions.{next_id, with_drawn}
use Rattle.nr_actions.specs.Refunds.{refund}
use Rattle.nr_actions.specs.declared.frame.Frame.{Frame}
use Rattle.nr_config.specs.Config.{Config}
use Rattle.nr_fees.specs.Fees.{deposits}
use Rattle.nr_ids.specs.Grammar.{is_system}
use Rattle.nr_ids.specs.declared.key.Hash32.{Hash32}
use Rattle.nr_receipt.specs.Frames.{gas_back}
use Rattle.nr_records.specs.declared.receipt.Body.{Body}
use Rattle.nr_records.specs.declared.receipt.Body.TheVariants.{Act, Datum}
use Rattle.nr_records.specs.declared.receipt.DataReceiver.{DataReceiver}
use Rattle.nr_records.specs.declared.receipt.Receipt.{Receipt}
use Rattle.nr_state.specs.declared.calls.Returned.{Returned}
use Rattle.nr_state.specs.declared.calls.Returned.TheVariants.{Value, Promise}

-- ---- a datum for each output, in order: the value, or none where the receipt failed
abbrev pub datum_for : Frame → Option (List ℕ) → DataReceiver → Receipt
datum_for f bytes to =
    record {
      predecessor = f.receiver;
      receiver = to.receiver;
      receipt_id = next_id f;
      body = Datum (record { data_id = to.data_id; bytes = bytes });
    }

abbrev pub with_datum : Option (List ℕ) → Frame → DataReceiver → Frame
with_datum bytes f to = with_drawn f (datum_for f bytes to)

abbrev pub with_data : Option (List ℕ) → Frame → Frame
with_data bytes f = fold (with_datum bytes) f f.act.outputs

-- ---- a promise: the first receipt made that has its id gives its result to the outputs, behind its own
abbrev pub with_outputs : List DataReceiver → Body → Body
with_outputs outputs (Act act) = Act (record act { outputs = act.outputs ++ outputs })
with_outputs outputs (Datum d) = Datum d

abbrev pub handed_on : List DataReceiver → Hash32 → List Receipt → List Receipt
handed_on outputs id [] = []
handed_on outputs id (r ∷ rest) =
    cond (bytes_eq r.receipt_id.0 id.0) (record r { body = with_outputs outputs r.body } ∷ rest)
    (r ∷ handed_on outputs id rest)

abbrev pub with_result : Returned → Frame → Frame
with_result (Value bytes) f = with_data (Some bytes) f
with_result (Promise id) f = record f { made = handed_on f.act.outputs id f.made }

-- ---- refunds: of the deposits to the predecessor, where that isn't the system, and of what is left of the gas to
-- the signer. A refund of nothing isn't made.
abbrev pub deposits_back : Frame → ℕ
deposits_back f = cond (is_system f.predecessor) 0 (deposits f.act.actions)

abbrev pub deposits_lost : Frame → ℕ
deposits_lost f = cond (is_system f.predecessor) (deposits f.act.actions) 0

abbrev pub with_deposits_back : Frame → Frame
with_deposits_back f = with_refund f f.predecessor (deposits_back f)

abbrev pub with_gas_back : Frame → ℕ → Frame
with_gas_back f amount =
    cond (amount == 0) f (with_drawn f (refund f.act.signer (next_id f) f.act.signer f.act.signer_key amount))

-- where so much gas is burnt
abbrev pub with_gas_refund : Config → ℕ → Frame → Frame
with_gas_refund c burnt f = with_gas_back f (gas_back c f burnt)

-- ---- a failure gives the outputs none, and the deposits back
abbrev pub given_up : Frame → Frame
given_up f = with_deposits_back (with_data None f)
