-- What holds of every binding: a binding is a chain of acts, so what holds of each act, and of one act after the other,
-- holds of it. Laws of this project's own.
use Rattle.std.specs.Prelude.{◌≡◌, ℕ, ◌+◌, ◌*◌, ◌^◌, ◌≤◌, ◌++◌, ◌||◌, nat_le, slice_get, [], ◌∷◌, take, drop, Bool}
use Rattle.std.specs.Prelude.{true, false}
use Rattle.std.specs.Prelude.{List, length, Option, Some, None, Result, Ok, Err, ◌==◌, nat_lt, refl}
use Rattle.std.specs.Prelude.{if◌then◌else◌, is_none}
use Rattle.std.proofs.Common.{arith}
use Rattle.std.proofs.lemmas.Bool.{leb-true}
use Rattle.std.proofs.lemmas.List.{length-take, length-drop, length-append}
use Rattle.std.specs.Str.{is_utf8}
use Rattle.nr_bytes.specs.Numbers.{number}
use Rattle.nr_config.specs.Config.{Config}
use Rattle.nr_guest.specs.Guest.{RegisterView, set_register, argument, argument_size}
use Rattle.nr_guest.specs.declared.fault.GuestFault.{GuestFault}
use Rattle.nr_ids.specs.Grammar.{id_fault}
use Rattle.nr_ids.specs.declared.key.Hash32.{Hash32}
use Rattle.nr_ids.specs.declared.key.PublicKey.{PublicKey}
use Rattle.nr_promises.specs.Book.{receipt_of, inputs_of, actions_of}
use Rattle.nr_promises.specs.declared.fault.PromiseFault.{PromiseFault}
use Rattle.nr_records.specs.Ids.{key_at}
use Rattle.nr_records.specs.Reading.{all_of}
use Rattle.nr_records.specs.declared.action.Action.{Action}
use Rattle.nr_records.specs.declared.fault.RecordFault.{RecordFault}
use Rattle.nr_state.specs.declared.calls.Returned.TheVariants as end
use Rattle.nr_wasmmem.specs.Bytes.{put_over}
use Rattle.nr_wasmmem.specs.declared.fault.HostStop.{HostStop}
use Rattle.nr_wasmtypes.specs.declared.host.HostFn.{HostFn}
use Rattle.nr_wasmtypes.specs.declared.host.HostFn.TheVariants as host
use Rattle.nr_hostctx.specs.Context as context
use Rattle.nr_hostctx.specs.Hashes as hash
use Rattle.nr_hostctx.specs.Logs as log
use Rattle.nr_hostctx.specs.PromiseActions as action
use Rattle.nr_hostctx.specs.Promises as promises
use Rattle.nr_hostctx.specs.Registers as register
use Rattle.nr_hostctx.specs.Rows.{row, none, some, arg}
use Rattle.nr_hostctx.specs.State.{HostState}
use Rattle.nr_hostctx.specs.Storage as storage
use Rattle.nr_guest.specs.Guest.{register as register_of}
use Rattle.nr_bytes.specs.Numbers.{little}
use Rattle.nr_config.specs.Config.{max_key_bytes, max_value_bytes, max_logs, max_log_bytes, max_promises, max_actions}
use Rattle.nr_config.specs.Config.{max_return_bytes}
use Rattle.nr_hostctx.specs.Faults.{out_of_bounds, too_many_logs, too_many_promises, too_many_actions, bad_register}
use Rattle.nr_hostctx.specs.Faults.{bad_result, return_too_long, key_too_long, value_too_long}
use Rattle.nr_ids.specs.Keys.{key_bytes}
use Rattle.nr_wasmmem.specs.declared.fault.HostStop.TheVariants as stop
use Rattle.nr_wasmmem.specs.Bytes.{range_in}
use Rattle.nr_records.specs.declared.account.Account.{Account}
use Rattle.nr_state.specs.World.{World}
use Rattle.nr_hostctx.specs.Accounts.{account_of}
use Rattle.nr_hostctx.specs.Acts.{Came, Goes, Stops, Act, onward, ◌>>=◌, give, look, fault, fault_if, or_fault}
use Rattle.nr_hostctx.specs.Acts.{from_guest, burn, pay, begin, pay_bytes, bytes_of, argument_size_at}
use Rattle.nr_hostctx.specs.Acts.{guest_bytes, registers_or_fault, to_register, guest_or_fault}
use Rattle.nr_hostctx.specs.Acts.{to_guest}

abbrev pub IsAsLong : Option (List ℕ) → List ℕ → Type 0
IsAsLong None bytes = Unit {0}
IsAsLong (Some new) bytes = length new ≡ length bytes

-- what is looked at isn't the world
abbrev pub IsApart : {A : Type 0} → (HostState → A) → Type 0
IsApart f = (s : HostState) (w : World) → f (record s { world = w }) ≡ f s

-- what holds of an act holds of every binding, where it holds of these acts
pub record AreKept (P : (A : Type 0) → Act A → Type 0) : Type 1 where
  -- one act and then the next
  pub chained : (A B : Type 0) (act : Act A) (next : A → Act B) → P A act → ((a : A) → P B (next a))
      → P B (act >>= next)
  -- a value or a stop, and nothing else
  pub goes : (A : Type 0) (a : A) → P A (give a)
  pub stops : (A : Type 0) (why : HostStop) → P A (λ s. Stops s why)
  -- a look at all but the world, at the account, and at its data
  pub looks : (A : Type 0) (f : HostState → A) → IsApart f → P A (look f)
  pub account_seen : (A : Type 0) (f : Account → A) → P A (look (λ s. f (account_of s)))
  pub datum_seen : (key : List ℕ) → P (Option (List ℕ)) (storage.datum key)
  pub datum_there : (key : List ℕ) → P Bool (storage.has_datum key)
  pub burns : (n : ℕ) → P (Unit {0}) (burn n)
  -- other registers, bytes of the guest, logs and another returned value
  pub registers_set : (r : RegisterView) → P (Unit {0}) (λ s. Goes (record s { registers = r }) tt)
  pub guest_set : (f : List ℕ → Option (List ℕ)) → ((bytes : List ℕ) → IsAsLong (f bytes) bytes)
      → P (Unit {0}) (λ s. guest_or_fault (f s.guest) s)
  pub logs_set : (logs : List (List ℕ)) → P (Unit {0}) (λ s. Goes (record s { logs = logs }) tt)
  pub value_set : (value : List ℕ) → P (Unit {0}) (λ s. Goes (record s { returned = end.Value value }) tt)
  pub promise_set : (index : ℕ) → P (Unit {0}) (promises.receipt_at index >>= λ id. promises.set_promise id)
  -- data of the account
  pub datum_set : (key value : List ℕ) → P (Unit {0}) (storage.set_datum key value)
  pub datum_removed : (key : List ℕ) → P (Unit {0}) (storage.remove_datum key)
  -- promises, and their actions
  pub created : (receiver : List ℕ) → P ℕ (promises.create_promise receiver)
  pub chain_made : (index inputs : ℕ) (receiver : List ℕ) → P ℕ (promises.chain_promise index inputs receiver)
  pub joined : (indices : List ℕ) → P ℕ (promises.make_joint indices)
  pub appended : (index : ℕ) (a : Action) → P (Unit {0}) (action.append index a)

-- ---- a write leaves the size of the guest's memory
fits_at : (bytes : List ℕ) (ptr : ℕ) (part : List ℕ) → ptr + length part ≤ length bytes
    → length (take ptr bytes ++ part ++ drop (ptr + length part) bytes) ≡ length bytes
fits_at bytes ptr part h = simp (length-append, length-take, length-drop) (omega (arith, h))

long_if : (b : Bool) (new bytes : List ℕ) → (b ≡ true → length new ≡ length bytes)
    → IsAsLong (if b then Some new else None) bytes
long_if true new bytes h = h refl
long_if false new bytes h = tt

put_long : (bytes : List ℕ) (ptr : ℕ) (part : List ℕ) → IsAsLong (put_over bytes ptr part) bytes
unfolding put_over
put_long bytes ptr part = long_if _ _ bytes (λ is. fits_at bytes ptr part (leb-true _ _ is))

module _ (P : (A : Type 0) → Act A → Type 0) (kept : AreKept P) where
  abbrev Stays : {A : Type 0} → Act A → Type 0
  Stays {A} act = P A act

  chain : {A B : Type 0} → (act : Act A) (next : A → Act B) → Stays act → ((a : A) → Stays (next a))
      → Stays (act >>= next)
  chain {A} {B} act next h k = kept.chained A B act next h k

  -- ---- values and faults
  gives : {A : Type 0} → (a : A) → Stays (give a)
  gives {A} a = kept.goes A a

  faults : {A : Type 0} → (kind : ℕ) → Stays (fault {A = A} kind)
  faults {A} kind = kept.stops A _

  either : {A : Type 0} → (b : Bool) (y z : Act A) → Stays y → Stays z → Stays (if b then y else z)
  either true y z h k = h
  either false y z h k = k

  tested : (b : Bool) (kind : ℕ) → Stays (fault_if b kind)
  tested true kind = faults kind
  tested false kind = gives tt

  found : {A : Type 0} → (o : Option A) (kind : ℕ) → Stays (or_fault o kind)
  found None kind = faults kind
  found (Some a) kind = gives a

  answered : {A : Type 0} → (r : Result A GuestFault) → Stays (from_guest r)
  answered (Ok a) = gives a
  answered {A} (Err e) = kept.stops A _

  from_book_is : {A : Type 0} → (r : Result A PromiseFault) → Stays (promises.from_book r)
  from_book_is (Ok a) = gives a
  from_book_is {A} (Err e) = kept.stops A _

  -- ---- what depends on a look at all but the world
  looks : {A : Type 0} → (f : HostState → A) → IsApart f → Stays (look f)
  looks {A} f apart = kept.looks A f apart

  seeing : {A B : Type 0} → (f : HostState → A) (next : A → Act B) → IsApart f → ((a : A) → Stays (next a))
      → Stays (λ s. next (f s) s)
  seeing f next apart h = chain (look f) next (looks f apart) h

  -- ---- gas
  pays : (cost : Config → ℕ) → Stays (pay cost)
  pays cost = seeing (λ s. cost s.config) burn (λ s w. refl) kept.burns

  -- ---- bytes
  arguments : (len ptr : ℕ) → Stays (bytes_of len ptr)
  unfolding bytes_of
  arguments len ptr =
      chain (argument_size_at len ptr) _
      (seeing (λ s. argument_size s.registers len ptr) from_guest (λ s w. refl) answered) (λ size.
      chain (pay_bytes size) _ (pays _) (λ paid.
      seeing (λ s. argument s.registers s.guest len ptr) from_guest (λ s w. refl) answered))

  ranges : (len ptr : ℕ) → Stays (guest_bytes len ptr)
  unfolding guest_bytes
  ranges len ptr =
      chain (pay_bytes len) _ (pays _) (λ paid.
      seeing (λ s. range_in s.guest ptr len) (λ o. or_fault o out_of_bounds) (λ s w. refl) (λ o. found o _))

  registers_by : (o : Option RegisterView) → Stays (registers_or_fault o)
  registers_by None = faults _
  registers_by (Some r) = kept.registers_set r

  writes : (id : ℕ) (bytes : List ℕ) → Stays (to_register id bytes)
  unfolding to_register
  writes id bytes =
      chain (pay_bytes (length bytes)) _ (pays _) (λ paid.
      seeing (λ s. set_register s.registers id bytes) registers_or_fault (λ s w. refl) registers_by)

  stores : (ptr : ℕ) (bytes : List ℕ) → Stays (to_guest ptr bytes)
  unfolding to_guest
  stores ptr bytes =
      chain (pay_bytes (length bytes)) _ (pays _) (λ paid.
      kept.guest_set (λ guest. put_over guest ptr bytes) (λ guest. put_long guest ptr bytes))

  -- ---- texts, logs and values
  zeros : (ptr : ℕ) → Stays (log.zero_ended ptr)
  unfolding log.zero_ended
  zeros ptr =
      chain (log.text_at ptr) _
      (seeing (λ s. log.before_zero (drop ptr s.guest)) (λ o. or_fault o out_of_bounds) (λ s w. refl)
      (λ o. found o _)) (λ text.
      chain (pay_bytes (length text)) _ (pays _) (λ paid. gives text))

  texts : (len ptr : ℕ) → Stays (log.text_of len ptr)
  texts len ptr = either _ (log.zero_ended ptr) (guest_bytes len ptr) (zeros ptr) (ranges len ptr)

  is_text : (text : List ℕ) → Stays (log.utf8 text)
  is_text text = tested _ 4

  log_if : (full : Bool) (why : HostStop) (logs : List (List ℕ))
      → Stays {A = Unit {0}} (λ s. if full then Stops s why else Goes (record s { logs = logs }) tt)
  log_if true why logs = kept.stops _ why
  log_if false why logs = kept.logs_set logs

  adds_log : (text : List ℕ) → Stays (log.add_log text)
  unfolding log.add_log
  adds_log text =
      seeing
      (λ s. (
        nat_le (max_logs s.config) (length s.logs)
            || nat_lt (max_log_bytes s.config) (log.log_bytes s.logs + length text),
        s.logs ++ text ∷ [],
      ))
      (λ (p : Bool × List (List ℕ)). λ s. if p.0 then Stops s (stop.Fault too_many_logs) else Goes
      (record s { logs = p.1 }) tt)
      (λ s w. refl) (λ p. log_if p.0 _ p.1)

  returns : (value : List ℕ) → Stays (log.set_value value)
  unfolding log.set_value
  returns value = kept.value_set value

  -- ---- data
  short_key : (key : List ℕ) → Stays (storage.short_key key)
  short_key key =
      seeing (λ s. nat_lt (max_key_bytes s.config) (length key)) (λ b. fault_if b key_too_long) (λ s w. refl)
      (λ b. tested b _)

  short_value : (value : List ℕ) → Stays (storage.short_value value)
  short_value value =
      seeing (λ s. nat_lt (max_value_bytes s.config) (length value)) (λ b. fault_if b value_too_long) (λ s w. refl)
      (λ b. tested b _)

  founds : (reg : ℕ) (o : Option (List ℕ)) → Stays (storage.found_in reg o)
  founds reg None = gives {A = ℕ} 0
  founds reg (Some bytes) = chain (to_register reg bytes) _ (writes reg bytes) (λ put. gives {A = ℕ} 1)

  -- ---- promises
  inputs : (index : ℕ) → Stays (promises.inputs_at index)
  inputs index = seeing (λ s. inputs_of s.book index) promises.from_book (λ s w. refl) from_book_is

  ids : (bytes : List ℕ) → Stays (promises.account_id bytes)
  ids bytes = either (is_none (id_fault bytes)) (give bytes) _ (gives bytes) (faults _)

  place : Stays promises.place_for_one
  place =
      seeing (λ s. nat_le (max_promises s.config) (length s.book.promises)) (λ b. fault_if b too_many_promises)
      (λ s w. refl) (λ b. tested b _)

  sizes : (count : ℕ) → Stays (promises.indices_size count)
  sizes count =
      either {A = ℕ} (nat_lt (8 * count) (2 ^ 64)) (give (8 * count)) (fault 2) (gives (8 * count)) (faults 2)

  results : (reg : ℕ) (o : Option (List ℕ)) → Stays (promises.result_in reg o)
  results reg None = gives {A = ℕ} 2
  results reg (Some bytes) = chain (to_register reg bytes) _ (writes reg bytes) (λ put. gives {A = ℕ} 1)

  -- ---- actions
  amounts : (ptr : ℕ) → Stays (action.amount_at ptr)
  amounts ptr = chain (guest_bytes 16 ptr) _ (ranges 16 ptr) (λ bytes. gives (number bytes))

  key_is : (r : Result PublicKey RecordFault) → Stays (action.key_of r)
  key_is (Ok key) = gives key
  key_is (Err e) = faults _

  keys : (bytes : List ℕ) → Stays (action.public_key bytes)
  keys bytes = key_is (all_of key_at bytes)

  arguments_of_call : (mlen mptr args_len args_ptr amount_ptr : ℕ)
      → Stays (action.call_arguments mlen mptr args_len args_ptr amount_ptr)
  unfolding action.call_arguments
  arguments_of_call mlen mptr args_len args_ptr amount_ptr =
      chain (bytes_of mlen mptr) _ (arguments mlen mptr) (λ method.
      chain (bytes_of args_len args_ptr) _ (arguments args_len args_ptr) (λ args.
      chain (action.amount_at amount_ptr) _ (amounts amount_ptr) (λ amount.
      gives (action.call_arguments_of method args amount))))

  texts_in : (bytes : List ℕ) → Stays (action.text_in bytes)
  texts_in bytes = either (is_utf8 bytes) (give bytes) _ (gives bytes) (faults _)

  names : (bytes : List ℕ) → Stays (action.method_name bytes)
  names bytes =
      chain (action.text_in bytes) _ (texts_in bytes) (λ name.
      either (length name == 0) _ (give name) (faults _) (gives name))

  counts : (index : ℕ) → Stays (action.actions_at index)
  counts index = seeing (λ s. actions_of s.book index) promises.from_book (λ s w. refl) from_book_is

  room : (count : ℕ) → Stays (action.has_room count)
  room count =
      seeing (λ s. nat_le (max_actions s.config) count) (λ b. fault_if b too_many_actions) (λ s w. refl)
      (λ b. tested b _)

  -- ---- the rows
  read_register : (reg ptr : ℕ) → Stays (register.read_register reg ptr)
  unfolding register.read_register
  read_register reg ptr =
      chain begin _ (pays _) (λ b. chain (register.register_at reg) _
      (seeing (λ s. register_of s.registers reg) (λ o. or_fault o bad_register) (λ s w. refl) (λ o. found o _))
      (λ bytes. stores ptr bytes))

  register_len : (reg : ℕ) → Stays (register.register_len reg)
  unfolding register.register_len
  register_len reg = chain begin _ (pays _) (λ b. looks _ (λ s w. refl))

  write_register : (reg len ptr : ℕ) → Stays (register.write_register reg len ptr)
  unfolding register.write_register
  write_register reg len ptr =
      chain begin _ (pays _) (λ b. chain (bytes_of len ptr) _ (arguments len ptr) (λ bytes. writes reg bytes))

  current_account_id : (reg : ℕ) → Stays (context.current_account_id reg)
  unfolding context.current_account_id
  current_account_id reg =
      chain begin _ (pays _) (λ b. seeing (λ s. s.context.current) (to_register reg) (λ s w. refl) (writes reg))

  signer_account_id : (reg : ℕ) → Stays (context.signer_account_id reg)
  unfolding context.signer_account_id
  signer_account_id reg =
      chain begin _ (pays _) (λ b. seeing (λ s. s.context.signer) (to_register reg) (λ s w. refl) (writes reg))

  predecessor_account_id : (reg : ℕ) → Stays (context.predecessor_account_id reg)
  unfolding context.predecessor_account_id
  predecessor_account_id reg =
      chain begin _ (pays _) (λ b. seeing (λ s. s.context.predecessor) (to_register reg) (λ s w. refl) (writes reg))

  signer_account_pk : (reg : ℕ) → Stays (context.signer_account_pk reg)
  unfolding context.signer_account_pk
  signer_account_pk reg =
      chain begin _ (pays _) (λ b. seeing (λ s. key_bytes s.context.signer_key) (to_register reg) (λ s w. refl)
      (writes reg))

  input : (reg : ℕ) → Stays (context.input reg)
  unfolding context.input
  input reg =
      chain begin _ (pays _) (λ b. seeing (λ s. s.context.args) (to_register reg) (λ s w. refl) (writes reg))

  block_index : Stays context.block_index
  unfolding context.block_index
  block_index = chain begin _ (pays _) (λ b. looks _ (λ s w. refl))

  block_timestamp : Stays context.block_timestamp
  unfolding context.block_timestamp
  block_timestamp = chain begin _ (pays _) (λ b. looks _ (λ s w. refl))

  storage_usage : Stays context.storage_usage
  unfolding context.storage_usage
  storage_usage = chain begin _ (pays _) (λ b. kept.account_seen _ (λ account. account.storage_usage))

  prepaid_gas : Stays context.prepaid_gas
  unfolding context.prepaid_gas
  prepaid_gas = chain begin _ (pays _) (λ b. looks _ (λ s w. refl))

  used_gas : Stays context.used_gas
  unfolding context.used_gas
  used_gas = chain begin _ (pays _) (λ b. looks _ (λ s w. refl))

  account_balance : (ptr : ℕ) → Stays (context.account_balance ptr)
  unfolding context.account_balance
  account_balance ptr =
      chain begin _ (pays _) (λ b. chain (look (λ s. (account_of s).amount)) _
      (kept.account_seen _ (λ account. account.amount))
      (λ amount. stores ptr (little 16 amount)))

  account_locked_balance : (ptr : ℕ) → Stays (context.account_locked_balance ptr)
  unfolding context.account_locked_balance
  account_locked_balance ptr =
      chain begin _ (pays _) (λ b. chain (look (λ s. (account_of s).locked)) _
      (kept.account_seen _ (λ account. account.locked))
      (λ locked. stores ptr (little 16 locked)))

  attached_deposit : (ptr : ℕ) → Stays (context.attached_deposit ptr)
  unfolding context.attached_deposit
  attached_deposit ptr =
      chain begin _ (pays _) (λ b. seeing (λ s. s.context.deposit) (λ n. to_guest ptr (little 16 n)) (λ s w. refl)
      (λ n. stores ptr (little 16 n)))

  sha256 : (len ptr reg : ℕ) → Stays (hash.sha256 len ptr reg)
  unfolding hash.sha256
  sha256 len ptr reg =
      chain begin _ (pays _) (λ b. chain (bytes_of len ptr) _ (arguments len ptr) (λ bytes.
      chain (pay _) _ (pays _) (λ p. writes reg _)))

  value_return : (len ptr : ℕ) → Stays (log.value_return len ptr)
  unfolding log.value_return
  value_return len ptr =
      chain begin _ (pays _) (λ b. chain (bytes_of len ptr) _ (arguments len ptr) (λ value.
      chain (log.short_return value) _
      (seeing (λ s. nat_lt (max_return_bytes s.config) (length value)) (λ b. fault_if b return_too_long) (λ s w. refl)
      (λ b. tested b _)) (λ a.
      chain (log.pay_outputs (length value)) _
      (seeing (λ s. log.outputs_cost s.config s.context.current s.context.outputs (length value)) burn (λ s w. refl)
      kept.burns)
      (λ p. returns value))))

  panic_utf8 : (len ptr : ℕ) → Stays (log.panic_utf8 len ptr)
  unfolding log.panic_utf8
  panic_utf8 len ptr =
      chain begin _ (pays _) (λ b. chain (log.text_of len ptr) _ (texts len ptr) (λ text.
      chain (log.utf8 text) _ (is_text text) (λ a. faults _)))

  log_utf8 : (len ptr : ℕ) → Stays (log.log_utf8 len ptr)
  unfolding log.log_utf8
  log_utf8 len ptr =
      chain begin _ (pays _) (λ b. chain (log.text_of len ptr) _ (texts len ptr) (λ text.
      chain (log.utf8 text) _ (is_text text) (λ a. adds_log text)))

  abort : Stays log.abort
  unfolding log.abort
  abort = chain begin _ (pays _) (λ b. faults _)

  storage_write : (klen kptr vlen vptr reg : ℕ) → Stays (storage.storage_write klen kptr vlen vptr reg)
  unfolding storage.storage_write
  storage_write klen kptr vlen vptr reg =
      chain begin _ (pays _) (λ b. chain (bytes_of klen kptr) _ (arguments klen kptr) (λ key.
      chain (bytes_of vlen vptr) _ (arguments vlen vptr) (λ value.
      chain (storage.short_key key) _ (short_key key) (λ a.
      chain (storage.short_value value) _ (short_value value) (λ c.
      chain (storage.datum key) _ (kept.datum_seen key) (λ old.
      chain (storage.pay_storage (length key + length value + storage.size_of old)) _ (pays _) (λ p.
      chain (storage.set_datum key value) _ (kept.datum_set key value) (λ d. founds reg old))))))))

  storage_read : (klen kptr reg : ℕ) → Stays (storage.storage_read klen kptr reg)
  unfolding storage.storage_read
  storage_read klen kptr reg =
      chain begin _ (pays _) (λ b. chain (bytes_of klen kptr) _ (arguments klen kptr) (λ key.
      chain (storage.short_key key) _ (short_key key) (λ a.
      chain (storage.datum key) _ (kept.datum_seen key) (λ value.
      chain (storage.pay_storage (length key + storage.size_of value)) _ (pays _) (λ p. founds reg value)))))

  storage_remove : (klen kptr reg : ℕ) → Stays (storage.storage_remove klen kptr reg)
  unfolding storage.storage_remove
  storage_remove klen kptr reg =
      chain begin _ (pays _) (λ b. chain (bytes_of klen kptr) _ (arguments klen kptr) (λ key.
      chain (storage.short_key key) _ (short_key key) (λ a.
      chain (storage.datum key) _ (kept.datum_seen key) (λ old.
      chain (storage.pay_storage (length key + storage.size_of old)) _ (pays _) (λ p.
      chain (storage.remove_datum key) _ (kept.datum_removed key) (λ d. founds reg old))))))

  storage_has_key : (klen kptr : ℕ) → Stays (storage.storage_has_key klen kptr)
  unfolding storage.storage_has_key
  storage_has_key klen kptr =
      chain begin _ (pays _) (λ b. chain (bytes_of klen kptr) _ (arguments klen kptr) (λ key.
      chain (storage.short_key key) _ (short_key key) (λ a.
      chain (storage.has_datum key) _ (kept.datum_there key) (λ there.
      chain (storage.pay_storage (length key)) _ (pays _) (λ p. gives {A = ℕ} (if there then 1 else 0))))))

  promise_batch_create : (alen aptr : ℕ) → Stays (promises.promise_batch_create alen aptr)
  unfolding promises.promise_batch_create
  promise_batch_create alen aptr =
      chain begin _ (pays _) (λ b. chain (bytes_of alen aptr) _ (arguments alen aptr) (λ bytes.
      chain (promises.account_id bytes) _ (ids bytes) (λ receiver.
      chain promises.place_for_one _ place (λ p. kept.created receiver))))

  promise_batch_then : (index alen aptr : ℕ) → Stays (promises.promise_batch_then index alen aptr)
  unfolding promises.promise_batch_then
  promise_batch_then index alen aptr =
      chain begin _ (pays _) (λ b. chain (bytes_of alen aptr) _ (arguments alen aptr) (λ bytes.
      chain (promises.inputs_at index) _ (inputs index) (λ count.
      chain (promises.account_id bytes) _ (ids bytes) (λ receiver.
      chain promises.place_for_one _ place (λ p. kept.chain_made index count receiver)))))

  promise_and : (ptr count : ℕ) → Stays (promises.promise_and ptr count)
  unfolding promises.promise_and
  promise_and ptr count =
      chain begin _ (pays _) (λ b. chain (promises.indices_size count) _ (sizes count) (λ size.
      chain (guest_bytes size ptr) _ (ranges size ptr) (λ bytes. kept.joined _)))

  promise_create : (alen aptr mlen mptr args_len args_ptr amount_ptr gas : ℕ)
      → Stays (action.promise_create alen aptr mlen mptr args_len args_ptr amount_ptr gas)
  unfolding action.promise_create
  promise_create alen aptr mlen mptr args_len args_ptr amount_ptr gas =
      chain begin _ (pays _) (λ b. chain (bytes_of alen aptr) _ (arguments alen aptr) (λ bytes.
      chain (action.call_arguments mlen mptr args_len args_ptr amount_ptr) _ (arguments_of_call _ _ _ _ _) (λ call.
      chain (promises.account_id bytes) _ (ids bytes) (λ receiver. chain promises.place_for_one _ place (λ p.
      chain (action.method_name call.method) _ (names call.method) (λ name.
      chain (promises.create_promise receiver) _ (kept.created receiver) (λ index.
      chain (action.append index _) _ (kept.appended index _) (λ called. gives index))))))))

  promise_then : (after alen aptr mlen mptr args_len args_ptr amount_ptr gas : ℕ)
      → Stays (action.promise_then after alen aptr mlen mptr args_len args_ptr amount_ptr gas)
  unfolding action.promise_then
  promise_then after alen aptr mlen mptr args_len args_ptr amount_ptr gas =
      chain begin _ (pays _) (λ b. chain (bytes_of alen aptr) _ (arguments alen aptr) (λ bytes.
      chain (action.call_arguments mlen mptr args_len args_ptr amount_ptr) _ (arguments_of_call _ _ _ _ _) (λ call.
      chain (promises.inputs_at after) _ (inputs after) (λ count.
      chain (promises.account_id bytes) _ (ids bytes) (λ receiver. chain promises.place_for_one _ place (λ p.
      chain (action.method_name call.method) _ (names call.method) (λ name.
      chain (promises.chain_promise after count receiver) _ (kept.chain_made after count receiver) (λ index.
      chain (action.append index _) _ (kept.appended index _) (λ called. gives index)))))))))

  function_call : (index mlen mptr args_len args_ptr amount_ptr gas : ℕ)
      → Stays (action.promise_batch_action_function_call index mlen mptr args_len args_ptr amount_ptr gas)
  unfolding action.promise_batch_action_function_call
  function_call index mlen mptr args_len args_ptr amount_ptr gas =
      chain begin _ (pays _) (λ b.
      chain (action.call_arguments mlen mptr args_len args_ptr amount_ptr) _ (arguments_of_call _ _ _ _ _) (λ call.
      chain (action.actions_at index) _ (counts index) (λ actions.
      chain (action.method_name call.method) _ (names call.method) (λ name.
      chain (action.has_room actions) _ (room actions) (λ r. kept.appended index _)))))

  create_account : (index : ℕ) → Stays (action.promise_batch_action_create_account index)
  unfolding action.promise_batch_action_create_account
  create_account index =
      chain begin _ (pays _) (λ b. chain (action.actions_at index) _ (counts index) (λ actions.
      chain (action.has_room actions) _ (room actions) (λ r. kept.appended index _)))

  deploy_contract : (index len ptr : ℕ) → Stays (action.promise_batch_action_deploy_contract index len ptr)
  unfolding action.promise_batch_action_deploy_contract
  deploy_contract index len ptr =
      chain begin _ (pays _) (λ b. chain (bytes_of len ptr) _ (arguments len ptr) (λ code.
      chain (action.actions_at index) _ (counts index) (λ actions.
      chain (action.has_room actions) _ (room actions) (λ r. kept.appended index _))))

  transfer : (index amount_ptr : ℕ) → Stays (action.promise_batch_action_transfer index amount_ptr)
  unfolding action.promise_batch_action_transfer
  transfer index amount_ptr =
      chain begin _ (pays _) (λ b. chain (action.amount_at amount_ptr) _ (amounts amount_ptr) (λ amount.
      chain (action.actions_at index) _ (counts index) (λ actions.
      chain (action.has_room actions) _ (room actions) (λ r. kept.appended index _))))

  delete_account : (index alen aptr : ℕ) → Stays (action.promise_batch_action_delete_account index alen aptr)
  unfolding action.promise_batch_action_delete_account
  delete_account index alen aptr =
      chain begin _ (pays _) (λ b. chain (bytes_of alen aptr) _ (arguments alen aptr) (λ bytes.
      chain (action.actions_at index) _ (counts index) (λ actions.
      chain (promises.account_id bytes) _ (ids bytes) (λ beneficiary.
      chain (action.has_room actions) _ (room actions) (λ r. kept.appended index _)))))

  add_full_key : (index klen kptr nonce : ℕ)
      → Stays (action.promise_batch_action_add_key_with_full_access index klen kptr nonce)
  unfolding action.promise_batch_action_add_key_with_full_access
  add_full_key index klen kptr nonce =
      chain begin _ (pays _) (λ b. chain (bytes_of klen kptr) _ (arguments klen kptr) (λ bytes.
      chain (action.actions_at index) _ (counts index) (λ actions.
      chain (action.public_key bytes) _ (keys bytes) (λ key.
      chain (action.has_room actions) _ (room actions) (λ r. kept.appended index _)))))

  add_call_key : (index klen kptr nonce allowance_ptr rlen rptr mlen mptr : ℕ)
      → Stays
      (action.promise_batch_action_add_key_with_function_call
      index klen kptr nonce allowance_ptr rlen rptr mlen mptr)
  unfolding action.promise_batch_action_add_key_with_function_call
  add_call_key index klen kptr nonce allowance_ptr rlen rptr mlen mptr =
      chain begin _ (pays _) (λ b. chain (bytes_of klen kptr) _ (arguments klen kptr) (λ bytes.
      chain (action.amount_at allowance_ptr) _ (amounts allowance_ptr) (λ allowance.
      chain (bytes_of rlen rptr) _ (arguments rlen rptr) (λ id.
      chain (bytes_of mlen mptr) _ (arguments mlen mptr) (λ methods.
      chain (action.actions_at index) _ (counts index) (λ actions.
      chain (action.public_key bytes) _ (keys bytes) (λ key. chain (promises.account_id id) _ (ids id) (λ receiver.
      chain (action.text_in methods) _ (texts_in methods) (λ names.
      chain (action.has_room actions) _ (room actions) (λ r. kept.appended index _))))))))))

  delete_key : (index klen kptr : ℕ) → Stays (action.promise_batch_action_delete_key index klen kptr)
  unfolding action.promise_batch_action_delete_key
  delete_key index klen kptr =
      chain begin _ (pays _) (λ b. chain (bytes_of klen kptr) _ (arguments klen kptr) (λ bytes.
      chain (action.actions_at index) _ (counts index) (λ actions.
      chain (action.public_key bytes) _ (keys bytes) (λ key.
      chain (action.has_room actions) _ (room actions) (λ r. kept.appended index _)))))

  promise_results_count : Stays promises.promise_results_count
  unfolding promises.promise_results_count
  promise_results_count = chain begin _ (pays _) (λ b. looks _ (λ s w. refl))

  promise_result : (index reg : ℕ) → Stays (promises.promise_result index reg)
  unfolding promises.promise_result
  promise_result index reg =
      chain begin _ (pays _) (λ b.
      chain (promises.result_at index) _
      (seeing (λ s. slice_get s.context.inputs index) (λ o. or_fault o bad_result) (λ s w. refl) (λ o. found o _))
      (λ result. results reg result))

  promise_return : (index : ℕ) → Stays (promises.promise_return index)
  unfolding promises.promise_return
  promise_return index = chain begin _ (pays _) (λ b. kept.promise_set index)

  -- ---- all of them, by their names
  nones : (act : Act (Unit {0})) → Stays act → Stays (none act)
  nones act h = chain act _ h (λ d. gives _)

  somes : (act : Act ℕ) → Stays act → Stays (some act)
  somes act h = chain act _ h (λ n. gives _)

  pub act_kept : (f : HostFn) (a : List ℕ) → Stays (row f a)
  unfolding row
  act_kept host.ReadRegister a = nones _ (read_register (arg a 0) (arg a 1))
  act_kept host.RegisterLen a = somes _ (register_len (arg a 0))
  act_kept host.WriteRegister a = nones _ (write_register (arg a 0) (arg a 1) (arg a 2))
  act_kept host.CurrentAccountId a = nones _ (current_account_id (arg a 0))
  act_kept host.SignerAccountId a = nones _ (signer_account_id (arg a 0))
  act_kept host.PredecessorAccountId a = nones _ (predecessor_account_id (arg a 0))
  act_kept host.SignerAccountPk a = nones _ (signer_account_pk (arg a 0))
  act_kept host.Input a = nones _ (input (arg a 0))
  act_kept host.BlockIndex a = somes _ block_index
  act_kept host.BlockTimestamp a = somes _ block_timestamp
  act_kept host.StorageUsage a = somes _ storage_usage
  act_kept host.PrepaidGas a = somes _ prepaid_gas
  act_kept host.UsedGas a = somes _ used_gas
  act_kept host.AccountBalance a = nones _ (account_balance (arg a 0))
  act_kept host.AccountLockedBalance a = nones _ (account_locked_balance (arg a 0))
  act_kept host.AttachedDeposit a = nones _ (attached_deposit (arg a 0))
  act_kept host.Sha256 a = nones _ (sha256 (arg a 0) (arg a 1) (arg a 2))
  act_kept host.ValueReturn a = nones _ (value_return (arg a 0) (arg a 1))
  act_kept host.PanicUtf8 a = nones _ (panic_utf8 (arg a 0) (arg a 1))
  act_kept host.LogUtf8 a = nones _ (log_utf8 (arg a 0) (arg a 1))
  act_kept host.Abort a = nones _ abort
  act_kept host.StorageWrite a = somes _ (storage_write (arg a 0) (arg a 1) (arg a 2) (arg a 3) (arg a 4))
  act_kept host.StorageRead a = somes _ (storage_read (arg a 0) (arg a 1) (arg a 2))
  act_kept host.StorageRemove a = somes _ (storage_remove (arg a 0) (arg a 1) (arg a 2))
  act_kept host.StorageHasKey a = somes _ (storage_has_key (arg a 0) (arg a 1))
  act_kept host.PromiseBatchCreate a = somes _ (promise_batch_create (arg a 0) (arg a 1))
  act_kept host.PromiseBatchThen a = somes _ (promise_batch_then (arg a 0) (arg a 1) (arg a 2))
  act_kept host.PromiseAnd a = somes _ (promise_and (arg a 0) (arg a 1))
  act_kept host.PromiseCreate a =
      somes _ (promise_create (arg a 0) (arg a 1) (arg a 2) (arg a 3) (arg a 4) (arg a 5) (arg a 6) (arg a 7))
  act_kept host.PromiseThen a =
      somes _ (promise_then (arg a 0) (arg a 1) (arg a 2) (arg a 3) (arg a 4) (arg a 5) (arg a 6) (arg a 7) (arg a 8))
  act_kept host.PromiseBatchActionCreateAccount a = nones _ (create_account (arg a 0))
  act_kept host.PromiseBatchActionDeployContract a = nones _ (deploy_contract (arg a 0) (arg a 1) (arg a 2))
  act_kept host.PromiseBatchActionFunctionCall a =
      nones _ (function_call (arg a 0) (arg a 1) (arg a 2) (arg a 3) (arg a 4) (arg a 5) (arg a 6))
  act_kept host.PromiseBatchActionTransfer a = nones _ (transfer (arg a 0) (arg a 1))
  act_kept host.PromiseBatchActionAddKeyWithFullAccess a =
      nones _ (add_full_key (arg a 0) (arg a 1) (arg a 2) (arg a 3))
  act_kept host.PromiseBatchActionAddKeyWithFunctionCall a =
      nones _ (add_call_key (arg a 0) (arg a 1) (arg a 2) (arg a 3) (arg a 4) (arg a 5) (arg a 6) (arg a 7) (arg a 8))
  act_kept host.PromiseBatchActionDeleteKey a = nones _ (delete_key (arg a 0) (arg a 1) (arg a 2))
  act_kept host.PromiseBatchActionDeleteAccount a = nones _ (delete_account (arg a 0) (arg a 1) (arg a 2))
  act_kept host.PromiseResultsCount a = somes _ promise_results_count
  act_kept host.PromiseResult a = somes _ (promise_result (arg a 0) (arg a 1))
  act_kept host.PromiseReturn a = nones _ (promise_return (arg a 0))

-- ---- by states
-- what holds of a state and of what an act comes to there is kept by every binding, where these acts keep it
pub record IsKept (Q : (A : Type 0) → HostState → Came A → Type 0) : Type 1 where
  -- one act and then the next
  pub chained : (A B : Type 0) (s : HostState) (came : Came A) (next : A → Act B) → Q A s came
      → ((a : A) (t : HostState) → Q B t (next a t)) → Q B s (onward came next)
  -- a value or a stop, and nothing else
  pub goes : (A : Type 0) (s : HostState) (a : A) → Q A s (Goes s a)
  pub stops : (A : Type 0) (s : HostState) (why : HostStop) → Q A s (Stops s why)
  pub burns : (n : ℕ) (s : HostState) → Q (Unit {0}) s (burn n s)
  -- other registers, bytes of the guest, logs and another returned value
  pub registers_set : (s : HostState) (r : RegisterView) → Q (Unit {0}) s (Goes (record s { registers = r }) tt)
  pub guest_set : (s : HostState) (bytes : List ℕ) → length bytes ≡ length s.guest
      → Q (Unit {0}) s (Goes (record s { guest = bytes }) tt)
  pub logs_set : (s : HostState) (logs : List (List ℕ)) → Q (Unit {0}) s (Goes (record s { logs = logs }) tt)
  pub value_set : (s : HostState) (value : List ℕ)
      → Q (Unit {0}) s (Goes (record s { returned = end.Value value }) tt)
  pub promise_set : (s : HostState) (index : ℕ) (id : Hash32) → receipt_of s.book index ≡ Ok id
      → Q (Unit {0}) s (Goes (record s { returned = end.Promise id }) tt)
  -- data of the account
  pub datum_set : (key value : List ℕ) (s : HostState) → Q (Unit {0}) s (storage.set_datum key value s)
  pub datum_removed : (key : List ℕ) (s : HostState) → Q (Unit {0}) s (storage.remove_datum key s)
  -- promises, and their actions
  pub created : (receiver : List ℕ) (s : HostState) → Q ℕ s (promises.create_promise receiver s)
  pub chain_made : (index inputs : ℕ) (receiver : List ℕ) (s : HostState)
      → Q ℕ s (promises.chain_promise index inputs receiver s)
  pub joined : (indices : List ℕ) (s : HostState) → Q ℕ s (promises.make_joint indices s)
  pub appended : (index : ℕ) (a : Action) (s : HostState) → Q (Unit {0}) s (action.append index a s)

module _ (Q : (A : Type 0) → HostState → Came A → Type 0) (kept : IsKept Q) where
  abbrev Each : (A : Type 0) → Act A → Type 0
  Each A act = (s : HostState) → Q A s (act s)

  guest_by : (s : HostState) (o : Option (List ℕ)) → IsAsLong o s.guest → Q (Unit {0}) s (guest_or_fault o s)
  guest_by s None h = kept.stops _ s _
  guest_by s (Some bytes) h = kept.guest_set s bytes h

  returns_promise : (index : ℕ) (s : HostState) (r : Result Hash32 PromiseFault) → receipt_of s.book index ≡ r
      → Q (Unit {0}) s (onward (promises.from_book r s) (λ id. promises.set_promise id))
  unfolding promises.set_promise
  returns_promise index s (Ok id) is = kept.promise_set s index id is
  returns_promise index s (Err e) is = kept.stops _ s _

  each_kept : AreKept Each
  each_kept =
      record {
        chained = λ A B act next h k s. kept.chained A B s (act s) next (h s) k;
        goes = λ A a s. kept.goes A s a;
        stops = λ A why s. kept.stops A s why;
        looks = λ A f apart s. kept.goes A s (f s);
        account_seen = λ A f s. kept.goes A s (f (account_of s));
        datum_seen = λ key s. kept.goes _ s _;
        datum_there = λ key s. kept.goes _ s _;
        burns = kept.burns;
        registers_set = λ r s. kept.registers_set s r;
        guest_set = λ f long s. guest_by s (f s.guest) (long s.guest);
        logs_set = λ logs s. kept.logs_set s logs;
        value_set = λ value s. kept.value_set s value;
        promise_set = λ index s. returns_promise index s (receipt_of s.book index) refl;
        datum_set = kept.datum_set;
        datum_removed = kept.datum_removed;
        created = kept.created;
        chain_made = kept.chain_made;
        joined = kept.joined;
        appended = kept.appended;
      }

  pub row_kept : (f : HostFn) (a : List ℕ) (s : HostState) → Q (Option ℕ) s (row f a s)
  row_kept f a = act_kept Each each_kept f a
