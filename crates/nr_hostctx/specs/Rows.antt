-- The bindings by their names: what a call of each comes to, for its arguments. After the NEAR Nomicon, "Bindings
-- Specification".
use Rattle.std.specs.Prelude.{ℕ, List, Option, Some, None, slice_index, Result, Ok, Err, ◌≡◌}
use Rattle.nr_wasmmem.specs.declared.fault.HostStop.{HostStop}
use Rattle.nr_wasmtypes.specs.declared.host.HostFn.{HostFn}
use Rattle.nr_wasmtypes.specs.declared.host.HostFn.TheVariants as host
use Rattle.nr_hostctx.specs.Acts.{Act, ◌>>=◌, give}
use Rattle.nr_hostctx.specs.Context as context
use Rattle.nr_hostctx.specs.Hashes as hash
use Rattle.nr_hostctx.specs.Logs as log
use Rattle.nr_hostctx.specs.PromiseActions as act
use Rattle.nr_hostctx.specs.Promises as promise
use Rattle.nr_hostctx.specs.Registers as register
use Rattle.nr_hostctx.specs.Storage as storage

-- one without a result, and one with a number
abbrev pub none : Act (Unit {0}) → Act (Option ℕ)
none act = do
  done ← act
  give None

abbrev pub some : Act ℕ → Act (Option ℕ)
some act = do
  n ← act
  give (Some n)

-- what the code makes of an answer
abbrev pub NoNumber : Result (Unit {0}) HostStop → Result (Option ℕ) HostStop → Type 0
NoNumber (Ok done) result = result ≡ Ok None
NoNumber (Err why) result = result ≡ Err why

abbrev pub Number : Result ℕ HostStop → Result (Option ℕ) HostStop → Type 0
Number (Ok n) result = result ≡ Ok (Some n)
Number (Err why) result = result ≡ Err why

abbrev pub arg : List ℕ → ℕ → ℕ
arg args i = slice_index args i

unfoldable pub row : HostFn → List ℕ → Act (Option ℕ)
row host.ReadRegister a = none (register.read_register (arg a 0) (arg a 1))
row host.RegisterLen a = some (register.register_len (arg a 0))
row host.WriteRegister a = none (register.write_register (arg a 0) (arg a 1) (arg a 2))
row host.CurrentAccountId a = none (context.current_account_id (arg a 0))
row host.SignerAccountId a = none (context.signer_account_id (arg a 0))
row host.PredecessorAccountId a = none (context.predecessor_account_id (arg a 0))
row host.SignerAccountPk a = none (context.signer_account_pk (arg a 0))
row host.Input a = none (context.input (arg a 0))
row host.BlockIndex a = some context.block_index
row host.BlockTimestamp a = some context.block_timestamp
row host.StorageUsage a = some context.storage_usage
row host.PrepaidGas a = some context.prepaid_gas
row host.UsedGas a = some context.used_gas
row host.AccountBalance a = none (context.account_balance (arg a 0))
row host.AccountLockedBalance a = none (context.account_locked_balance (arg a 0))
row host.AttachedDeposit a = none (context.attached_deposit (arg a 0))
row host.Sha256 a = none (hash.sha256 (arg a 0) (arg a 1) (arg a 2))
row host.ValueReturn a = none (log.value_return (arg a 0) (arg a 1))
row host.PanicUtf8 a = none (log.panic_utf8 (arg a 0) (arg a 1))
row host.LogUtf8 a = none (log.log_utf8 (arg a 0) (arg a 1))
row host.Abort a = none log.abort
row host.StorageWrite a = some (storage.storage_write (arg a 0) (arg a 1) (arg a 2) (arg a 3) (arg a 4))
row host.StorageRead a = some (storage.storage_read (arg a 0) (arg a 1) (arg a 2))
row host.StorageRemove a = some (storage.storage_remove (arg a 0) (arg a 1) (arg a 2))
row host.StorageHasKey a = some (storage.storage_has_key (arg a 0) (arg a 1))
row host.PromiseBatchCreate a = some (promise.promise_batch_create (arg a 0) (arg a 1))
row host.PromiseBatchThen a = some (promise.promise_batch_then (arg a 0) (arg a 1) (arg a 2))
row host.PromiseAnd a = some (promise.promise_and (arg a 0) (arg a 1))
row host.PromiseCreate a =
    some (act.promise_create (arg a 0) (arg a 1) (arg a 2) (arg a 3) (arg a 4) (arg a 5) (arg a 6) (arg a 7))
row host.PromiseThen a =
    some (act.promise_then (arg a 0) (arg a 1) (arg a 2) (arg a 3) (arg a 4) (arg a 5) (arg a 6) (arg a 7) (arg a 8))
row host.PromiseBatchActionCreateAccount a = none (act.promise_batch_action_create_account (arg a 0))
row host.PromiseBatchActionDeployContract a =
    none (act.promise_batch_action_deploy_contract (arg a 0) (arg a 1) (arg a 2))
row host.PromiseBatchActionFunctionCall a =
    none (act.promise_batch_action_function_call (arg a 0) (arg a 1) (arg a 2) (arg a 3) (arg a 4) (arg a 5) (arg a 6))
row host.PromiseBatchActionTransfer a = none (act.promise_batch_action_transfer (arg a 0) (arg a 1))
row host.PromiseBatchActionAddKeyWithFullAccess a =
    none (act.promise_batch_action_add_key_with_full_access (arg a 0) (arg a 1) (arg a 2) (arg a 3))
row host.PromiseBatchActionAddKeyWithFunctionCall a =
    none
    (act.promise_batch_action_add_key_with_function_call
    (arg a 0) (arg a 1) (arg a 2) (arg a 3) (arg a 4) (arg a 5) (arg a 6) (arg a 7) (arg a 8))
row host.PromiseBatchActionDeleteKey a = none (act.promise_batch_action_delete_key (arg a 0) (arg a 1) (arg a 2))
row host.PromiseBatchActionDeleteAccount a =
    none (act.promise_batch_action_delete_account (arg a 0) (arg a 1) (arg a 2))
row host.PromiseResultsCount a = some promise.promise_results_count
row host.PromiseResult a = some (promise.promise_result (arg a 0) (arg a 1))
row host.PromiseReturn a = none (promise.promise_return (arg a 0))
