-- The bindings that make promises and read their results, each as its row. After the NEAR Nomicon, "Bindings
-- Specification", Promises API; the fees and the order of the faults are this project's.
use Rattle.std.specs.Prelude.{◌≡◌, ◌<◌, ◌≤◌, ℕ, ◌*◌, ◌^◌, is_none, nat_le, nat_lt}
use Rattle.std.specs.Prelude.{if◌then◌else◌, List, length, map, take, drop, Option, Some, None, Result, Ok, Err}
use Rattle.std.specs.List.{slice_get, range_with_len}
use Rattle.nr_bytes.specs.Numbers.{number}
use Rattle.nr_config.specs.Config.{max_promises}
use Rattle.nr_fees.specs.Fees.{fee}
use Rattle.nr_fees.specs.declared.table.Fee.TheVariants.{ActionReceipt, DataBase}
use Rattle.nr_fees.specs.declared.table.Payment.TheVariants.{Execute}
use Rattle.nr_ids.specs.Grammar.{id_fault}
use Rattle.nr_ids.specs.declared.key.Hash32.{Hash32}
use Rattle.nr_promises.specs.Book.{create, then, join, inputs_of, receipt_of}
use Rattle.nr_promises.specs.declared.contents.Book.{Book}
use Rattle.nr_promises.specs.declared.fault.PromiseFault.{PromiseFault}
use Rattle.nr_state.specs.declared.calls.Returned.TheVariants.{Promise}
use Rattle.nr_wasmmem.specs.declared.fault.HostStop.{HostStop}
use Rattle.nr_wasmmem.specs.declared.fault.HostStop.TheVariants.{Fault, Memory}
use Rattle.nr_hostctx.specs.Acts.{Act, Goes, Stops, ◌>>=◌, give, look, fault, fault_if, or_fault, burn, promise}
use Rattle.nr_hostctx.specs.Acts.{begin, bytes_of, guest_bytes, to_register}
use Rattle.nr_hostctx.specs.Faults.{promise_stop, out_of_bounds, bad_account_id, too_many_promises, bad_result}
use Rattle.nr_hostctx.specs.Costs.{is_local, sending, both_fees}

-- ---- the book of promises: what it answers, and the book after it
abbrev pub from_book : {A : Type 0} → Result A PromiseFault → Act A
from_book (Ok value) = give value
from_book (Err e) = λ s. Stops s (promise_stop e)

abbrev pub with_book : {A : Type 0} → Result (Book × A) PromiseFault → Act A
with_book (Ok came) = λ s. Goes (record s { book = came.0 }) came.1
with_book (Err e) = λ s. Stops s (promise_stop e)

unfoldable pub make : List ℕ → Act ℕ
make receiver s = with_book (create s.book receiver) s

unfoldable pub make_after : ℕ → List ℕ → Act ℕ
make_after index receiver s = with_book ((then) s.book index receiver) s

unfoldable pub make_joint : List ℕ → Act ℕ
make_joint indices s = with_book (join s.book indices) s

-- ---- what is tried first
-- how many receipts a promise holds, which has to be there
abbrev pub inputs_at : ℕ → Act ℕ
inputs_at index = λ s. from_book (inputs_of s.book index) s

-- bytes that are an account id
abbrev pub account_id : List ℕ → Act (List ℕ)
account_id bytes = if is_none (id_fault bytes) then give bytes else fault bad_account_id

-- one more promise may be made
abbrev pub place_for_one : Act (Unit {0})
place_for_one = λ s. fault_if (nat_le (max_promises s.config) (length s.book.promises)) too_many_promises s

-- ---- what is paid for a new receipt: sending it is burnt, executing it is promised
abbrev pub send_receipt : List ℕ → Act (Unit {0})
send_receipt receiver = λ s. burn (fee s.config (sending (is_local s receiver)) ActionReceipt) s

abbrev pub prepay_receipt : Act (Unit {0})
prepay_receipt = λ s. promise (fee s.config Execute ActionReceipt) s

unfoldable pub pay_receipt : List ℕ → Act (Unit {0})
pay_receipt receiver = do
  sent ← send_receipt receiver
  prepay_receipt

-- so many data that it waits for
unfoldable pub pay_inputs : ℕ → List ℕ → Act (Unit {0})
pay_inputs count receiver s = burn (both_fees s.config (is_local s receiver) DataBase * count) s

-- ---- a new promise: its receipt is paid for, and made
unfoldable pub create_promise : List ℕ → Act ℕ
create_promise receiver = do
  paid ← pay_receipt receiver
  make receiver

-- one whose receipt waits for those that a promise holds, so many: their data are paid for too
unfoldable pub chain_promise : ℕ → ℕ → List ℕ → Act ℕ
chain_promise index inputs receiver = do
  paid ← pay_receipt receiver
  connected ← pay_inputs inputs receiver
  make_after index receiver

-- ---- the bindings
unfoldable pub promise_batch_create : ℕ → ℕ → Act ℕ
promise_batch_create alen aptr = do
  begun ← begin
  bytes ← bytes_of alen aptr
  receiver ← account_id bytes
  place ← place_for_one
  create_promise receiver

unfoldable pub promise_batch_then : ℕ → ℕ → ℕ → Act ℕ
promise_batch_then index alen aptr = do
  begun ← begin
  bytes ← bytes_of alen aptr
  inputs ← inputs_at index
  receiver ← account_id bytes
  place ← place_for_one
  chain_promise index inputs receiver

-- so many numbers of 8 bytes each, the lowest byte first
abbrev pub number_at : List ℕ → ℕ → ℕ
number_at bytes i = number (take 8 (drop (8 * i) bytes))

abbrev pub numbers_in : ℕ → List ℕ → List ℕ
numbers_in count bytes = map (number_at bytes) (range_with_len 0 count)

-- so many numbers of 8 bytes: a size that passes 64 bits is outside any memory
abbrev pub indices_size : ℕ → Act ℕ
indices_size count = if nat_lt (8 * count) (2 ^ 64) then give (8 * count) else fault out_of_bounds

unfoldable pub promise_and : ℕ → ℕ → Act ℕ
promise_and ptr count = do
  begun ← begin
  size ← indices_size count
  bytes ← guest_bytes size ptr
  make_joint (numbers_in count bytes)

-- ---- results
unfoldable pub promise_results_count : Act ℕ
promise_results_count = do
  begun ← begin
  look (λ s. length s.context.inputs)

abbrev pub result_at : ℕ → Act (Option (List ℕ))
result_at index = λ s. or_fault (slice_get s.context.inputs index) bad_result s

-- 1 with the bytes in the register, or 2 where there are none
abbrev pub result_in : ℕ → Option (List ℕ) → Act ℕ
result_in reg None = give 2
result_in reg (Some bytes) = do
  put ← to_register reg bytes
  give 1

unfoldable pub promise_result : ℕ → ℕ → Act ℕ
promise_result index reg = do
  begun ← begin
  result ← result_at index
  result_in reg result

abbrev pub receipt_at : ℕ → Act Hash32
receipt_at index = λ s. from_book (receipt_of s.book index) s

unfoldable pub set_promise : Hash32 → Act (Unit {0})
set_promise id s = Goes (record s { returned = Promise id }) tt

unfoldable pub promise_return : ℕ → Act (Unit {0})
promise_return index = do
  begun ← begin
  id ← receipt_at index
  set_promise id

-- ---- what parts of the code answer
abbrev pub Sized : Result ℕ HostStop → ℕ → Type 0
Sized (Ok size) count = (size ≡ 8 * count) × (8 * count < 2 ^ 64)
Sized (Err why) count = (why ≡ Fault out_of_bounds) × (2 ^ 64 ≤ 8 * count)

abbrev pub MakesNumbers : Result (List ℕ) HostStop → List ℕ → Type 0
MakesNumbers (Ok made) numbers = made ≡ numbers
MakesNumbers (Err why) numbers = why ≡ Memory
