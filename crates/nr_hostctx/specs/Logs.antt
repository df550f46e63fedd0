-- The bindings of logs, of the returned value and of panics, each as its row. After the NEAR Nomicon, "Bindings
-- Specification", Miscellaneous API.
use Rattle.std.specs.Prelude.{ℕ, ◌+◌, ◌*◌, ◌++◌, [], ◌∷◌, not, ◌||◌, nat_le, nat_lt, if◌then◌else◌, List}
use Rattle.std.specs.Prelude.{length, drop, take, sum_by, Option}
use Rattle.std.specs.Option.{option_map}
use Rattle.std.specs.Str.{is_utf8, bytes_eq}
use Rattle.memchr.specs.Find.{places, first_of, is_byte}
use Rattle.nr_config.specs.Config.{Config, max_logs, max_log_bytes, max_return_bytes}
use Rattle.nr_fees.specs.declared.table.Fee.TheVariants.{DataByte}
use Rattle.nr_guest.specs.Guest.{is_register}
use Rattle.nr_records.specs.declared.receipt.DataReceiver.{DataReceiver}
use Rattle.nr_state.specs.declared.calls.Returned.TheVariants.{Value}
use Rattle.nr_wasmmem.specs.declared.fault.HostStop.TheVariants as stop
use Rattle.nr_hostctx.specs.Acts.{Act, Goes, Stops, ◌>>=◌, give, fault, fault_if, or_fault, burn, begin, pay_bytes}
use Rattle.nr_hostctx.specs.Acts.{bytes_of, guest_bytes}
use Rattle.nr_hostctx.specs.Costs.{both_fees}
use Rattle.nr_hostctx.specs.Faults.{bad_utf8, too_many_logs, guest_panic, return_too_long, out_of_bounds}

-- ---- a text: where no length is given it ends before the first zero byte, of which there has to be one
unfoldable pub before_zero : List ℕ → Option (List ℕ)
before_zero bytes = option_map (λ i. take i bytes) (first_of (places (is_byte 0) bytes))

abbrev pub text_at : ℕ → Act (List ℕ)
text_at ptr = λ s. or_fault (before_zero (drop ptr s.guest)) out_of_bounds s

unfoldable pub zero_ended : ℕ → Act (List ℕ)
zero_ended ptr = do
  text ← text_at ptr
  paid ← pay_bytes (length text)
  give text

abbrev pub text_of : ℕ → ℕ → Act (List ℕ)
text_of len ptr = if is_register len then zero_ended ptr else guest_bytes len ptr

abbrev pub utf8 : List ℕ → Act (Unit {0})
utf8 text = fault_if (not (is_utf8 text)) bad_utf8

-- ---- logs
abbrev pub log_bytes : List (List ℕ) → ℕ
log_bytes logs = sum_by length logs

unfoldable pub add_log : List ℕ → Act (Unit {0})
add_log text s =
    if nat_le (max_logs s.config) (length s.logs) || nat_lt (max_log_bytes s.config) (log_bytes s.logs + length text)
    then Stops s (stop.Fault too_many_logs)
    else Goes (record s { logs = s.logs ++ text ∷ [] }) tt

unfoldable pub log_utf8 : ℕ → ℕ → Act (Unit {0})
log_utf8 len ptr = do
  begun ← begin
  text ← text_of len ptr
  fits ← utf8 text
  add_log text

-- ---- panics
unfoldable pub panic_utf8 : ℕ → ℕ → Act (Unit {0})
panic_utf8 len ptr = do
  begun ← begin
  text ← text_of len ptr
  fits ← utf8 text
  fault guest_panic

unfoldable pub abort : Act (Unit {0})
abort = do
  begun ← begin
  fault guest_panic

-- ---- the returned value, which goes to each output of the receipt: what sending it costs
unfoldable pub output_cost : Config → List ℕ → ℕ → DataReceiver → ℕ
output_cost c current n output = both_fees c (bytes_eq output.receiver current) DataByte * n

abbrev pub outputs_cost : Config → List ℕ → List DataReceiver → ℕ → ℕ
outputs_cost c current outputs n = sum_by (output_cost c current n) outputs

abbrev pub short_return : List ℕ → Act (Unit {0})
short_return value = λ s. fault_if (nat_lt (max_return_bytes s.config) (length value)) return_too_long s

abbrev pub pay_outputs : ℕ → Act (Unit {0})
pay_outputs n = λ s. burn (outputs_cost s.config s.context.current s.context.outputs n) s

unfoldable pub set_value : List ℕ → Act (Unit {0})
set_value value s = Goes (record s { returned = Value value }) tt

unfoldable pub value_return : ℕ → ℕ → Act (Unit {0})
value_return len ptr = do
  begun ← begin
  value ← bytes_of len ptr
  small ← short_return value
  paid ← pay_outputs (length value)
  set_value value
