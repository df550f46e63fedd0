-- What each of the host's functions gives is a number of its type, or none, and the numbers of the state fit on.
use Rattle.std.proofs.Common.{◌≡◌, ℕ, ◌+◌, ◌^◌, ◌<◌, ◌≤◌, Bool, true, false, nat_lt, List, [], length, Option, Some, None}
use Rattle.std.proofs.Common.{refl, arith}
use Rattle.std.specs.Prelude.{if◌then◌else◌}
use Rattle.std.specs.List.{slice_get}
use Rattle.nr_bytes.specs.Numbers.{little}
use Rattle.nr_config.specs.Config.{Config, max_key_bytes, max_return_bytes, max_value_bytes}
use Rattle.nr_contract_laws.proofs.Turning.{AnyValue, Counts, Small, Turn, adds_log, after, amounts, appends, arguments}
use Rattle.nr_contract_laws.proofs.Turning.{arguments_of_call, burns, chain, chains, counts, creates, faults, found}
use Rattle.nr_contract_laws.proofs.Turning.{founds, gives, has_room, ids, inputs, is_text, keys, length_fits, looks}
use Rattle.nr_contract_laws.proofs.Turning.{makes_joint, names, pays, place, ranges, receipt_is, removes, results}
use Rattle.nr_contract_laws.proofs.Turning.{returns, seeing, seen, sets, sets_promise, short_key, short_value, sizes}
use Rattle.nr_contract_laws.proofs.Turning.{stores, tested, texts, texts_in, writes}
use Rattle.nr_contract_laws.specs.Numbers.{most_added}
use Rattle.nr_guest.specs.Guest.{register as register_of}
use Rattle.nr_hostctx.specs.Accounts.{account_of}
use Rattle.nr_hostctx.specs.Acts.{Act, begin, burn, bytes_of, fault_if, guest_bytes, look, or_fault, pay, to_guest}
use Rattle.nr_hostctx.specs.Acts.{to_register}
use Rattle.nr_hostctx.specs.Context as context
use Rattle.nr_hostctx.specs.Faults.{bad_register, bad_result, return_too_long}
use Rattle.nr_hostctx.specs.Hashes as hash
use Rattle.nr_hostctx.specs.Logs as log
use Rattle.nr_hostctx.specs.PromiseActions as action
use Rattle.nr_hostctx.specs.Promises as promises
use Rattle.nr_hostctx.specs.Registers as register
use Rattle.nr_hostctx.specs.Rows.{arg, none, row, some}
use Rattle.nr_hostctx.specs.Storage as storage
use Rattle.nr_hostctx.specs.declared.seen.HostState.{HostState}
use Rattle.nr_ids.specs.Keys.{key_bytes}
use Rattle.nr_machine_laws.specs.Typed.{AreOf}
use Rattle.nr_state.specs.Usage.{datum_usage}
use Rattle.nr_wasmexec.specs.Reduction.{on_those}
use Rattle.nr_wasmtypes.specs.Host.{host_type}
use Rattle.nr_wasmtypes.specs.declared.host.HostFn.{HostFn}
use Rattle.nr_wasmtypes.specs.declared.host.HostFn.TheVariants as host
use Rattle.nr_wasmtypes.specs.declared.instr.ValType.TheVariants.{I64}
use Rattle.nr_wasmvalid.specs.Rules.{Types?, types}

-- a number of the type, or none where there is no type, on this condition
abbrev pub IsGiven : Type 0 → Types? → Option ℕ → Type 0
IsGiven Met t value = Met → AreOf (types t) (on_those value [])

-- of `storage_usage` it is that the account is counted as less than 2 ^ 64 bytes
abbrev pub IsSmall : HostFn → ℕ → Type 0
IsSmall f u = f ≡ host.StorageUsage → u < 2 ^ 64

module _ (c : Config) (u : ℕ) where
  abbrev pub K : HostState → Type 0
  K s = Counts c u s

  -- behind a call the account may be counted as so much more
  abbrev pub More : HostState → Type 0
  More s = Counts c (u + most_added c) s

  abbrev Gives : {A : Type 0} → (A → Type 0) → Act A → Type 0
  Gives V a = Turn K K V a

  abbrev Stays : {A : Type 0} → Act A → Type 0
  Stays a = Turn K K AnyValue a

  pub rises : (s : HostState) → K s → More s
  rises s h = record { fits = h.fits; config = h.config; usage = omega (arith, h.usage) }

  begins : Stays begin
  begins = pays c u _

  -- ---- registers
  read_register : (reg ptr : ℕ) → Stays (register.read_register reg ptr)
  unfolding register.read_register
  read_register reg ptr =
      after begin _ begins (λ b. after (register.register_at reg) _
      (seeing c u (λ s. register_of s.registers reg) (λ o. or_fault o bad_register) (λ o. found c u o _))
      (λ bytes. stores c u ptr bytes))

  register_len : (reg : ℕ) → Gives Small (register.register_len reg)
  unfolding register.register_len
  register_len reg =
      after begin _ begins (λ b. looks c u Small _ (λ s h. length_fits s.registers reg
      (let held = h.fits.held in omega (arith, held, h.fits.registers))))

  write_register : (reg len ptr : ℕ) → Stays (register.write_register reg len ptr)
  unfolding register.write_register
  write_register reg len ptr =
      after begin _ begins (λ b. after (bytes_of len ptr) _ (arguments c u len ptr) (λ bytes. writes c u reg bytes))

  -- ---- the context
  current_account_id : (reg : ℕ) → Stays (context.current_account_id reg)
  unfolding context.current_account_id
  current_account_id reg =
      after begin _ begins (λ b. seeing c u (λ s. s.context.current) (to_register reg) (writes c u reg))

  signer_account_id : (reg : ℕ) → Stays (context.signer_account_id reg)
  unfolding context.signer_account_id
  signer_account_id reg =
      after begin _ begins (λ b. seeing c u (λ s. s.context.signer) (to_register reg) (writes c u reg))

  predecessor_account_id : (reg : ℕ) → Stays (context.predecessor_account_id reg)
  unfolding context.predecessor_account_id
  predecessor_account_id reg =
      after begin _ begins (λ b. seeing c u (λ s. s.context.predecessor) (to_register reg) (writes c u reg))

  signer_account_pk : (reg : ℕ) → Stays (context.signer_account_pk reg)
  unfolding context.signer_account_pk
  signer_account_pk reg =
      after begin _ begins (λ b. seeing c u (λ s. key_bytes s.context.signer_key) (to_register reg) (writes c u reg))

  input : (reg : ℕ) → Stays (context.input reg)
  unfolding context.input
  input reg = after begin _ begins (λ b. seeing c u (λ s. s.context.args) (to_register reg) (writes c u reg))

  block_index : Gives Small context.block_index
  unfolding context.block_index
  block_index = after begin _ begins (λ b. looks c u Small _ (λ s h. h.fits.context.height))

  block_timestamp : Gives Small context.block_timestamp
  unfolding context.block_timestamp
  block_timestamp = after begin _ begins (λ b. looks c u Small _ (λ s h. h.fits.context.time))

  storage_usage : Gives (λ n. n ≤ u) context.storage_usage
  unfolding context.storage_usage
  storage_usage = after begin _ begins (λ b. looks c u (λ n. n ≤ u) _ (λ s h. h.usage))

  prepaid_gas : Gives Small context.prepaid_gas
  unfolding context.prepaid_gas
  prepaid_gas = after begin _ begins (λ b. looks c u Small _ (λ s h. h.fits.limit))

  used_gas : Gives Small context.used_gas
  unfolding context.used_gas
  used_gas = after begin _ begins (λ b. looks c u Small _ (λ s h. omega (arith, h.fits.within, h.fits.limit)))

  account_balance : (ptr : ℕ) → Stays (context.account_balance ptr)
  unfolding context.account_balance
  account_balance ptr =
      after begin _ begins (λ b. after (look (λ s. (account_of s).amount)) _ (seen c u _)
      (λ amount. stores c u ptr (little 16 amount)))

  account_locked_balance : (ptr : ℕ) → Stays (context.account_locked_balance ptr)
  unfolding context.account_locked_balance
  account_locked_balance ptr =
      after begin _ begins (λ b. after (look (λ s. (account_of s).locked)) _ (seen c u _)
      (λ locked. stores c u ptr (little 16 locked)))

  attached_deposit : (ptr : ℕ) → Stays (context.attached_deposit ptr)
  unfolding context.attached_deposit
  attached_deposit ptr =
      after begin _ begins (λ b. seeing c u (λ s. s.context.deposit) (λ n. to_guest ptr (little 16 n))
      (λ n. stores c u ptr (little 16 n)))

  -- ---- hashes, values and texts
  sha256 : (len ptr reg : ℕ) → Stays (hash.sha256 len ptr reg)
  unfolding hash.sha256
  sha256 len ptr reg =
      after begin _ begins (λ b. after (bytes_of len ptr) _ (arguments c u len ptr) (λ bytes.
      after (pay _) _ (pays c u _) (λ p. writes c u reg _)))

  value_return : (len ptr : ℕ) → Stays (log.value_return len ptr)
  unfolding log.value_return
  value_return len ptr =
      after begin _ begins (λ b. after (bytes_of len ptr) _ (arguments c u len ptr) (λ value.
      after (log.short_return value) _
      (seeing c u (λ s. nat_lt (max_return_bytes s.config) (length value)) (λ b. fault_if b return_too_long)
      (λ b. tested c u b _)) (λ a.
      after (log.pay_outputs (length value)) _
      (seeing c u (λ s. log.outputs_cost s.config s.context.current s.context.outputs (length value)) burn
      (burns c u))
      (λ p. returns c u value))))

  panic_utf8 : (len ptr : ℕ) → Stays (log.panic_utf8 len ptr)
  unfolding log.panic_utf8
  panic_utf8 len ptr =
      after begin _ begins (λ b. after (log.text_of len ptr) _ (texts c u len ptr) (λ text.
      after (log.utf8 text) _ (is_text c u text) (λ a. faults c u AnyValue _)))

  log_utf8 : (len ptr : ℕ) → Stays (log.log_utf8 len ptr)
  unfolding log.log_utf8
  log_utf8 len ptr =
      after begin _ begins (λ b. after (log.text_of len ptr) _ (texts c u len ptr) (λ text.
      after (log.utf8 text) _ (is_text c u text) (λ a. adds_log c u text)))

  abort : Stays log.abort
  unfolding log.abort
  abort = after begin _ begins (λ b. faults c u AnyValue _)

  -- ---- storage
  few : (key value : List ℕ) → length key ≤ max_key_bytes c → length value ≤ max_value_bytes c
      → datum_usage c key value ≤ most_added c
  few key value k v = omega (arith, k, v)

  storage_write : (klen kptr vlen vptr reg : ℕ) → Turn K More Small (storage.storage_write klen kptr vlen vptr reg)
  unfolding storage.storage_write
  storage_write klen kptr vlen vptr reg =
      after begin _ begins (λ b. after (bytes_of klen kptr) _ (arguments c u klen kptr) (λ key.
      after (bytes_of vlen vptr) _ (arguments c u vlen vptr) (λ value.
      chain (storage.short_key key) _ (short_key c u key) (λ a k.
      chain (storage.short_value value) _ (short_value c u value) (λ d v.
      after (storage.datum key) _ (seen c u _) (λ old.
      after (storage.pay_storage (length key + length value + storage.size_of old)) _ (pays c u _) (λ p.
      after (storage.set_datum key value) _ (sets c u (most_added c) key value (few key value k v)) (λ done.
      founds c (u + most_added c) reg old))))))))

  storage_read : (klen kptr reg : ℕ) → Gives Small (storage.storage_read klen kptr reg)
  unfolding storage.storage_read
  storage_read klen kptr reg =
      after begin _ begins (λ b. after (bytes_of klen kptr) _ (arguments c u klen kptr) (λ key.
      chain (storage.short_key key) _ (short_key c u key) (λ a k.
      after (storage.datum key) _ (seen c u _) (λ value.
      after (storage.pay_storage (length key + storage.size_of value)) _ (pays c u _) (λ p.
      founds c u reg value)))))

  storage_remove : (klen kptr reg : ℕ) → Gives Small (storage.storage_remove klen kptr reg)
  unfolding storage.storage_remove
  storage_remove klen kptr reg =
      after begin _ begins (λ b. after (bytes_of klen kptr) _ (arguments c u klen kptr) (λ key.
      chain (storage.short_key key) _ (short_key c u key) (λ a k.
      after (storage.datum key) _ (seen c u _) (λ old.
      after (storage.pay_storage (length key + storage.size_of old)) _ (pays c u _) (λ p.
      after (storage.remove_datum key) _ (removes c u key) (λ d. founds c u reg old))))))

  one_if : (b : Bool) → (if b then 1 else 0) < 2 ^ 64
  one_if true = omega arith
  one_if false = omega arith

  storage_has_key : (klen kptr : ℕ) → Gives Small (storage.storage_has_key klen kptr)
  unfolding storage.storage_has_key
  storage_has_key klen kptr =
      after begin _ begins (λ b. after (bytes_of klen kptr) _ (arguments c u klen kptr) (λ key.
      chain (storage.short_key key) _ (short_key c u key) (λ a k.
      after (storage.has_datum key) _ (seen c u _) (λ there.
      after (storage.pay_storage (length key)) _ (pays c u _) (λ p.
      gives c u Small (if there then 1 else 0) (one_if there))))))

  -- ---- promises
  promise_batch_create : (alen aptr : ℕ) → Gives Small (promises.promise_batch_create alen aptr)
  unfolding promises.promise_batch_create
  promise_batch_create alen aptr =
      after begin _ begins (λ b. after (bytes_of alen aptr) _ (arguments c u alen aptr) (λ bytes.
      after (promises.account_id bytes) _ (ids c u bytes) (λ receiver.
      after promises.place_for_one _ (place c u) (λ p. creates c u receiver))))

  promise_batch_then : (index alen aptr : ℕ) → Gives Small (promises.promise_batch_then index alen aptr)
  unfolding promises.promise_batch_then
  promise_batch_then index alen aptr =
      after begin _ begins (λ b. after (bytes_of alen aptr) _ (arguments c u alen aptr) (λ bytes.
      after (promises.inputs_at index) _ (inputs c u index) (λ count.
      after (promises.account_id bytes) _ (ids c u bytes) (λ receiver.
      after promises.place_for_one _ (place c u) (λ p. chains c u index count receiver)))))

  promise_and : (ptr count : ℕ) → Gives Small (promises.promise_and ptr count)
  unfolding promises.promise_and
  promise_and ptr count =
      after begin _ begins (λ b. after (promises.indices_size count) _ (sizes c u count) (λ size.
      after (guest_bytes size ptr) _ (ranges c u size ptr) (λ bytes. makes_joint c u _)))

  promise_create : (alen aptr mlen mptr args_len args_ptr amount_ptr gas : ℕ)
      → Gives Small (action.promise_create alen aptr mlen mptr args_len args_ptr amount_ptr gas)
  unfolding action.promise_create
  promise_create alen aptr mlen mptr args_len args_ptr amount_ptr gas =
      after begin _ begins (λ b. after (bytes_of alen aptr) _ (arguments c u alen aptr) (λ bytes.
      after (action.call_arguments mlen mptr args_len args_ptr amount_ptr) _ (arguments_of_call c u _ _ _ _ _) (λ call.
      after (promises.account_id bytes) _ (ids c u bytes) (λ receiver.
      after promises.place_for_one _ (place c u) (λ p.
      after (action.method_name call.method) _ (names c u call.method) (λ name.
      chain (promises.create_promise receiver) _ (creates c u receiver) (λ index v.
      after (action.append index _) _ (appends c u index _) (λ called. gives c u Small index v))))))))

  promise_then : (first alen aptr mlen mptr args_len args_ptr amount_ptr gas : ℕ)
      → Gives Small (action.promise_then first alen aptr mlen mptr args_len args_ptr amount_ptr gas)
  unfolding action.promise_then
  promise_then first alen aptr mlen mptr args_len args_ptr amount_ptr gas =
      after begin _ begins (λ b. after (bytes_of alen aptr) _ (arguments c u alen aptr) (λ bytes.
      after (action.call_arguments mlen mptr args_len args_ptr amount_ptr) _ (arguments_of_call c u _ _ _ _ _) (λ call.
      after (promises.inputs_at first) _ (inputs c u first) (λ count.
      after (promises.account_id bytes) _ (ids c u bytes) (λ receiver.
      after promises.place_for_one _ (place c u) (λ p.
      after (action.method_name call.method) _ (names c u call.method) (λ name.
      chain (promises.chain_promise first count receiver) _ (chains c u first count receiver)
      (λ index v.
      after (action.append index _) _ (appends c u index _) (λ called. gives c u Small index v)))))))))

  promise_results_count : Gives Small promises.promise_results_count
  unfolding promises.promise_results_count
  promise_results_count = after begin _ begins (λ b. looks c u Small _ (λ s h. h.fits.context.inputs))

  promise_result : (index reg : ℕ) → Gives Small (promises.promise_result index reg)
  unfolding promises.promise_result
  promise_result index reg =
      after begin _ begins (λ b.
      after (promises.result_at index) _
      (seeing c u (λ s. slice_get s.context.inputs index) (λ o. or_fault o bad_result) (λ o. found c u o _))
      (λ result. results c u reg result))

  promise_return : (index : ℕ) → Stays (promises.promise_return index)
  unfolding promises.promise_return
  promise_return index =
      after begin _ begins (λ b. after (promises.receipt_at index) _ (receipt_is c u index) (λ id.
      sets_promise c u id))

  -- ---- actions
  function_call : (index mlen mptr args_len args_ptr amount_ptr gas : ℕ)
      → Stays (action.promise_batch_action_function_call index mlen mptr args_len args_ptr amount_ptr gas)
  unfolding action.promise_batch_action_function_call
  function_call index mlen mptr args_len args_ptr amount_ptr gas =
      after begin _ begins (λ b.
      after (action.call_arguments mlen mptr args_len args_ptr amount_ptr) _ (arguments_of_call c u _ _ _ _ _) (λ call.
      after (action.actions_at index) _ (counts c u index) (λ actions.
      after (action.method_name call.method) _ (names c u call.method) (λ name.
      after (action.has_room actions) _ (has_room c u actions) (λ r. appends c u index _)))))

  create_account : (index : ℕ) → Stays (action.promise_batch_action_create_account index)
  unfolding action.promise_batch_action_create_account
  create_account index =
      after begin _ begins (λ b. after (action.actions_at index) _ (counts c u index) (λ actions.
      after (action.has_room actions) _ (has_room c u actions) (λ r. appends c u index _)))

  deploy_contract : (index len ptr : ℕ) → Stays (action.promise_batch_action_deploy_contract index len ptr)
  unfolding action.promise_batch_action_deploy_contract
  deploy_contract index len ptr =
      after begin _ begins (λ b. after (bytes_of len ptr) _ (arguments c u len ptr) (λ code.
      after (action.actions_at index) _ (counts c u index) (λ actions.
      after (action.has_room actions) _ (has_room c u actions) (λ r. appends c u index _))))

  transfer : (index amount_ptr : ℕ) → Stays (action.promise_batch_action_transfer index amount_ptr)
  unfolding action.promise_batch_action_transfer
  transfer index amount_ptr =
      after begin _ begins (λ b. after (action.amount_at amount_ptr) _ (amounts c u amount_ptr) (λ amount.
      after (action.actions_at index) _ (counts c u index) (λ actions.
      after (action.has_room actions) _ (has_room c u actions) (λ r. appends c u index _))))

  delete_account : (index alen aptr : ℕ) → Stays (action.promise_batch_action_delete_account index alen aptr)
  unfolding action.promise_batch_action_delete_account
  delete_account index alen aptr =
      after begin _ begins (λ b. after (bytes_of alen aptr) _ (arguments c u alen aptr) (λ bytes.
      after (action.actions_at index) _ (counts c u index) (λ actions.
      after (promises.account_id bytes) _ (ids c u bytes) (λ beneficiary.
      after (action.has_room actions) _ (has_room c u actions) (λ r. appends c u index _)))))

  add_full_key : (index klen kptr nonce : ℕ)
      → Stays (action.promise_batch_action_add_key_with_full_access index klen kptr nonce)
  unfolding action.promise_batch_action_add_key_with_full_access
  add_full_key index klen kptr nonce =
      after begin _ begins (λ b. after (bytes_of klen kptr) _ (arguments c u klen kptr) (λ bytes.
      after (action.actions_at index) _ (counts c u index) (λ actions.
      after (action.public_key bytes) _ (keys c u bytes) (λ key.
      after (action.has_room actions) _ (has_room c u actions) (λ r. appends c u index _)))))

  add_call_key : (index klen kptr nonce allowance_ptr rlen rptr mlen mptr : ℕ)
      → Stays
      (action.promise_batch_action_add_key_with_function_call
      index klen kptr nonce allowance_ptr rlen rptr mlen mptr)
  unfolding action.promise_batch_action_add_key_with_function_call
  add_call_key index klen kptr nonce allowance_ptr rlen rptr mlen mptr =
      after begin _ begins (λ b. after (bytes_of klen kptr) _ (arguments c u klen kptr) (λ bytes.
      after (action.amount_at allowance_ptr) _ (amounts c u allowance_ptr) (λ allowance.
      after (bytes_of rlen rptr) _ (arguments c u rlen rptr) (λ id.
      after (bytes_of mlen mptr) _ (arguments c u mlen mptr) (λ methods.
      after (action.actions_at index) _ (counts c u index) (λ actions.
      after (action.public_key bytes) _ (keys c u bytes) (λ key.
      after (promises.account_id id) _ (ids c u id) (λ receiver.
      after (action.text_in methods) _ (texts_in c u methods) (λ names.
      after (action.has_room actions) _ (has_room c u actions) (λ r. appends c u index _))))))))))

  delete_key : (index klen kptr : ℕ) → Stays (action.promise_batch_action_delete_key index klen kptr)
  unfolding action.promise_batch_action_delete_key
  delete_key index klen kptr =
      after begin _ begins (λ b. after (bytes_of klen kptr) _ (arguments c u klen kptr) (λ bytes.
      after (action.actions_at index) _ (counts c u index) (λ actions.
      after (action.public_key bytes) _ (keys c u bytes) (λ key.
      after (action.has_room actions) _ (has_room c u actions) (λ r. appends c u index _)))))

  -- ---- all of them, by their names
  nones : (Met : Type 0) (a : Act (Unit {0})) → Stays a → Turn K More (IsGiven Met None) (none a)
  nones Met a h = after a _ h (λ d. record { at = λ s k. ((λ met. tt), rises s k) })

  numbers : (Met : Type 0) (a : Act ℕ) → Turn K More Small a → Turn K More (IsGiven Met (Some I64)) (some a)
  numbers Met a h = chain a _ h (λ n v. record { at = λ s k. ((λ met. (v, tt)), k) })

  somes : (Met : Type 0) (a : Act ℕ) → Gives Small a → Turn K More (IsGiven Met (Some I64)) (some a)
  somes Met a h = chain a _ h (λ n v. record { at = λ s k. ((λ met. (v, tt)), rises s k) })

  counted : (a : Act ℕ) → Gives (λ n. n ≤ u) a
      → Turn K More (IsGiven (IsSmall host.StorageUsage u) (Some I64)) (some a)
  counted a h =
      chain a _ h (λ n v. record { at = λ s k. ((λ met. (omega (arith, v, met refl), tt)), rises s k) })

  pub row_given : (f : HostFn) (a : List ℕ) → Turn K More (IsGiven (IsSmall f u) (host_type f).result) (row f a)
  unfolding row
  row_given host.ReadRegister a = nones _ _ (read_register (arg a 0) (arg a 1))
  row_given host.RegisterLen a = somes _ _ (register_len (arg a 0))
  row_given host.WriteRegister a = nones _ _ (write_register (arg a 0) (arg a 1) (arg a 2))
  row_given host.CurrentAccountId a = nones _ _ (current_account_id (arg a 0))
  row_given host.SignerAccountId a = nones _ _ (signer_account_id (arg a 0))
  row_given host.PredecessorAccountId a = nones _ _ (predecessor_account_id (arg a 0))
  row_given host.SignerAccountPk a = nones _ _ (signer_account_pk (arg a 0))
  row_given host.Input a = nones _ _ (input (arg a 0))
  row_given host.BlockIndex a = somes _ _ block_index
  row_given host.BlockTimestamp a = somes _ _ block_timestamp
  row_given host.StorageUsage a = counted _ storage_usage
  row_given host.PrepaidGas a = somes _ _ prepaid_gas
  row_given host.UsedGas a = somes _ _ used_gas
  row_given host.AccountBalance a = nones _ _ (account_balance (arg a 0))
  row_given host.AccountLockedBalance a = nones _ _ (account_locked_balance (arg a 0))
  row_given host.AttachedDeposit a = nones _ _ (attached_deposit (arg a 0))
  row_given host.Sha256 a = nones _ _ (sha256 (arg a 0) (arg a 1) (arg a 2))
  row_given host.ValueReturn a = nones _ _ (value_return (arg a 0) (arg a 1))
  row_given host.PanicUtf8 a = nones _ _ (panic_utf8 (arg a 0) (arg a 1))
  row_given host.LogUtf8 a = nones _ _ (log_utf8 (arg a 0) (arg a 1))
  row_given host.Abort a = nones _ _ abort
  row_given host.StorageWrite a =
      numbers _ _ (storage_write (arg a 0) (arg a 1) (arg a 2) (arg a 3) (arg a 4))
  row_given host.StorageRead a = somes _ _ (storage_read (arg a 0) (arg a 1) (arg a 2))
  row_given host.StorageRemove a = somes _ _ (storage_remove (arg a 0) (arg a 1) (arg a 2))
  row_given host.StorageHasKey a = somes _ _ (storage_has_key (arg a 0) (arg a 1))
  row_given host.PromiseBatchCreate a = somes _ _ (promise_batch_create (arg a 0) (arg a 1))
  row_given host.PromiseBatchThen a = somes _ _ (promise_batch_then (arg a 0) (arg a 1) (arg a 2))
  row_given host.PromiseAnd a = somes _ _ (promise_and (arg a 0) (arg a 1))
  row_given host.PromiseCreate a =
      somes _ _ (promise_create (arg a 0) (arg a 1) (arg a 2) (arg a 3) (arg a 4) (arg a 5) (arg a 6) (arg a 7))
  row_given host.PromiseThen a =
      somes _ _ (promise_then (arg a 0) (arg a 1) (arg a 2) (arg a 3) (arg a 4) (arg a 5) (arg a 6) (arg a 7) (arg a 8))
  row_given host.PromiseBatchActionCreateAccount a = nones _ _ (create_account (arg a 0))
  row_given host.PromiseBatchActionDeployContract a = nones _ _ (deploy_contract (arg a 0) (arg a 1) (arg a 2))
  row_given host.PromiseBatchActionFunctionCall a =
      nones _ _ (function_call (arg a 0) (arg a 1) (arg a 2) (arg a 3) (arg a 4) (arg a 5) (arg a 6))
  row_given host.PromiseBatchActionTransfer a = nones _ _ (transfer (arg a 0) (arg a 1))
  row_given host.PromiseBatchActionAddKeyWithFullAccess a =
      nones _ _ (add_full_key (arg a 0) (arg a 1) (arg a 2) (arg a 3))
  row_given host.PromiseBatchActionAddKeyWithFunctionCall a =
      nones _ _ (add_call_key (arg a 0) (arg a 1) (arg a 2) (arg a 3) (arg a 4) (arg a 5) (arg a 6) (arg a 7) (arg a 8))
  row_given host.PromiseBatchActionDeleteKey a = nones _ _ (delete_key (arg a 0) (arg a 1) (arg a 2))
  row_given host.PromiseBatchActionDeleteAccount a = nones _ _ (delete_account (arg a 0) (arg a 1) (arg a 2))
  row_given host.PromiseResultsCount a = somes _ _ promise_results_count
  row_given host.PromiseResult a = somes _ _ (promise_result (arg a 0) (arg a 1))
  row_given host.PromiseReturn a = nones _ _ (promise_return (arg a 0))
