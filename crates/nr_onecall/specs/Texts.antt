-- The lines that tell how a call ended: its end in the words of the report, with the gas that it burnt; and of a call
-- that came to its end what it logged, the data of its account, and the receipts that it made. This project's own.
use Rattle.std.specs.Prelude.{◌≡◌, ℕ, Bool, true, false, cond, List, [], ◌∷◌, ◌++◌, length, take, drop, codes, decimal}
use Rattle.std.specs.Prelude.{string_bytes}
use Rattle.std.specs.FinMap.{entries}
use Rattle.std.specs.List.{flat_map}
use Rattle.std.specs.Str.{bytes_eq}
use Rattle.serde_json.specs.Written.{compact_text}
use Rattle.nr_ids.specs.declared.key.Hash32.{Hash32}
use Rattle.nr_records.specs.declared.action.Action.{Action}
use Rattle.nr_records.specs.declared.receipt.ActionReceipt.{ActionReceipt}
use Rattle.nr_records.specs.declared.receipt.Body.{Body}
use Rattle.nr_records.specs.declared.receipt.Body.TheVariants.{Act, Datum}
use Rattle.nr_records.specs.declared.receipt.DataReceiver.{DataReceiver}
use Rattle.nr_records.specs.declared.receipt.Receipt.{Receipt}
use Rattle.nr_columns.specs.Keys.{owner_prefix}
use Rattle.nr_json.specs.Actions.{action_json}
use Rattle.nr_report.specs.Lines.{bytes_word, hash_word, line, log_line}
use Rattle.nr_state.specs.Calls.{Called, Ended, Stopped}
use Rattle.nr_state.specs.Flat.{flat}
use Rattle.nr_state.specs.declared.calls.CallEnd.{CallEnd}
use Rattle.nr_state.specs.declared.calls.Returned.{Returned}
use Rattle.nr_state.specs.declared.calls.Returned.TheVariants.{Value, Promise}
use Rattle.nr_onecall.specs.Setting.{contract}
use Rattle.nr_onecall.specs.declared.trial.Trial.{Trial}

-- ---- the end
-- what was returned, and the gas that was burnt
abbrev pub end_line : Returned → ℕ → List ℕ
end_line (Value bytes) burnt = line (codes "value" ∷ bytes_word bytes ∷ decimal burnt ∷ [])
end_line (Promise id) burnt = line (codes "promise" ∷ hash_word id ∷ decimal burnt ∷ [])

abbrev pub failure_line : ℕ → ℕ → ℕ → List ℕ
failure_line kind part burnt = line (codes "failure" ∷ decimal kind ∷ decimal part ∷ decimal burnt ∷ [])

-- ---- the data: those entries of the state's trie whose keys begin so
abbrev pub data_prefix : List ℕ
data_prefix = owner_prefix 9 contract

abbrev pub is_datum : List ℕ → Bool
is_datum key = bytes_eq (take (length data_prefix) key) data_prefix

abbrev pub stored_line : List ℕ → List ℕ → List ℕ
stored_line key value = line (codes "store" ∷ bytes_word key ∷ bytes_word value ∷ [])

abbrev pub stored_text : List ℕ × List ℕ → List ℕ
stored_text e = cond (is_datum e.0) (stored_line (drop (length data_prefix) e.0) e.1) []

-- ---- a receipt: its id and its receiver, the data that it waits for, who gets its result, and its actions
abbrev pub wait_line : Hash32 → List ℕ
wait_line id = line (codes "wait" ∷ hash_word id ∷ [])

abbrev pub give_line : DataReceiver → List ℕ
give_line d = line (codes "give" ∷ hash_word d.data_id ∷ d.receiver ∷ [])

-- as a JSON text without spaces between its parts
abbrev pub action_line : Action → List ℕ
action_line action = line (codes "action" ∷ compact_text (action_json action) ∷ [])

unfoldable pub act_text : ActionReceipt → List ℕ
act_text act = flat_map wait_line act.inputs ++ flat_map give_line act.outputs ++ flat_map action_line act.actions

-- a call makes receipts of actions alone
abbrev pub body_text : Body → List ℕ
body_text (Act act) = act_text act
body_text (Datum d) = []

unfoldable pub receipt_text : Receipt → List ℕ
receipt_text r = line (codes "receipt" ∷ hash_word r.receipt_id ∷ r.receiver ∷ []) ++ body_text r.body

-- ---- all of it
unfoldable pub ended_text : CallEnd → List (List ℕ × List ℕ) → List ℕ
ended_text end stored =
    end_line end.returned end.burnt ++ flat_map log_line end.logs ++ flat_map stored_text stored
    ++ flat_map receipt_text end.made

abbrev pub called_text : Called → List ℕ
called_text (Ended end after) = ended_text end (entries (flat after))
called_text (Stopped kind part burnt) = failure_line kind part burnt

-- it came to its end
abbrev pub has_ended : Called → Bool
has_ended (Ended end after) = true
has_ended (Stopped kind part burnt) = false

-- what tells how a call ended
abbrev pub TellsTrial : Trial → Called → Type 0
TellsTrial trial called = (string_bytes trial.text ≡ called_text called) × (trial.ended ≡ has_ended called)
