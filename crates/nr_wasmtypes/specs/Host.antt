-- NEAR Nomicon, "Bindings Spec": the functions of the host, by name and type.
use Rattle.std.specs.Prelude.{ℕ, List, [], ◌∷◌, replicate, find, Option, Some, None, codes}
use Rattle.std.specs.Str.{bytes_eq}
use Rattle.nr_wasmtypes.specs.declared.instr.ValType.TheVariants.{I32, I64}
use Rattle.nr_wasmtypes.specs.declared.module.FuncType.{FuncType}
use Rattle.nr_wasmtypes.specs.declared.host.HostFn.{HostFn}
use Rattle.nr_wasmtypes.specs.declared.host.HostFn.TheVariants as host

pub record Binding : Type 0 where
  pub name : List ℕ
  pub sig : FuncType

-- so many parameters of the type i64, with no result or one
abbrev pub takes : List ℕ → ℕ → Binding
takes name n = record { name = name; sig = record { params = replicate n I64; result = None } }

abbrev pub gives : List ℕ → ℕ → Binding
gives name n = record { name = name; sig = record { params = replicate n I64; result = Some I64 } }

-- `abort` alone has parameters of the type i32
abbrev pub aborts : List ℕ → Binding
aborts name = record { name = name; sig = record { params = replicate 4 I32; result = None } }

abbrev pub binding : HostFn → Binding
binding host.ReadRegister = takes (codes "read_register") 2
binding host.RegisterLen = gives (codes "register_len") 1
binding host.WriteRegister = takes (codes "write_register") 3
binding host.CurrentAccountId = takes (codes "current_account_id") 1
binding host.SignerAccountId = takes (codes "signer_account_id") 1
binding host.PredecessorAccountId = takes (codes "predecessor_account_id") 1
binding host.SignerAccountPk = takes (codes "signer_account_pk") 1
binding host.Input = takes (codes "input") 1
binding host.BlockIndex = gives (codes "block_index") 0
binding host.BlockTimestamp = gives (codes "block_timestamp") 0
binding host.StorageUsage = gives (codes "storage_usage") 0
binding host.PrepaidGas = gives (codes "prepaid_gas") 0
binding host.UsedGas = gives (codes "used_gas") 0
binding host.AccountBalance = takes (codes "account_balance") 1
binding host.AccountLockedBalance = takes (codes "account_locked_balance") 1
binding host.AttachedDeposit = takes (codes "attached_deposit") 1
binding host.Sha256 = takes (codes "sha256") 3
binding host.ValueReturn = takes (codes "value_return") 2
binding host.PanicUtf8 = takes (codes "panic_utf8") 2
binding host.LogUtf8 = takes (codes "log_utf8") 2
binding host.Abort = aborts (codes "abort")
binding host.StorageWrite = gives (codes "storage_write") 5
binding host.StorageRead = gives (codes "storage_read") 3
binding host.StorageRemove = gives (codes "storage_remove") 3
binding host.StorageHasKey = gives (codes "storage_has_key") 2
binding host.PromiseBatchCreate = gives (codes "promise_batch_create") 2
binding host.PromiseBatchThen = gives (codes "promise_batch_then") 3
binding host.PromiseAnd = gives (codes "promise_and") 2
binding host.PromiseCreate = gives (codes "promise_create") 8
binding host.PromiseThen = gives (codes "promise_then") 9
binding host.PromiseBatchActionCreateAccount = takes (codes "promise_batch_action_create_account") 1
binding host.PromiseBatchActionDeployContract = takes (codes "promise_batch_action_deploy_contract") 3
binding host.PromiseBatchActionFunctionCall = takes (codes "promise_batch_action_function_call") 7
binding host.PromiseBatchActionTransfer = takes (codes "promise_batch_action_transfer") 2
binding host.PromiseBatchActionAddKeyWithFullAccess = takes (codes "promise_batch_action_add_key_with_full_access") 4
binding host.PromiseBatchActionAddKeyWithFunctionCall =
    takes (codes "promise_batch_action_add_key_with_function_call") 9
binding host.PromiseBatchActionDeleteKey = takes (codes "promise_batch_action_delete_key") 3
binding host.PromiseBatchActionDeleteAccount = takes (codes "promise_batch_action_delete_account") 3
binding host.PromiseResultsCount = gives (codes "promise_results_count") 0
binding host.PromiseResult = gives (codes "promise_result") 2
binding host.PromiseReturn = takes (codes "promise_return") 1

abbrev pub host_name : HostFn → List ℕ
host_name f = (binding f).name

abbrev pub host_type : HostFn → FuncType
host_type f = (binding f).sig

abbrev pub host_functions : List HostFn
host_functions =
    host.ReadRegister
    ∷ host.RegisterLen
    ∷ host.WriteRegister
    ∷ host.CurrentAccountId
    ∷ host.SignerAccountId
    ∷ host.PredecessorAccountId
    ∷ host.SignerAccountPk
    ∷ host.Input
    ∷ host.BlockIndex
    ∷ host.BlockTimestamp
    ∷ host.StorageUsage
    ∷ host.PrepaidGas
    ∷ host.UsedGas
    ∷ host.AccountBalance
    ∷ host.AccountLockedBalance
    ∷ host.AttachedDeposit
    ∷ host.Sha256
    ∷ host.ValueReturn
    ∷ host.PanicUtf8
    ∷ host.LogUtf8
    ∷ host.Abort
    ∷ host.StorageWrite
    ∷ host.StorageRead
    ∷ host.StorageRemove
    ∷ host.StorageHasKey
    ∷ host.PromiseBatchCreate
    ∷ host.PromiseBatchThen
    ∷ host.PromiseAnd
    ∷ host.PromiseCreate
    ∷ host.PromiseThen
    ∷ host.PromiseBatchActionCreateAccount
    ∷ host.PromiseBatchActionDeployContract
    ∷ host.PromiseBatchActionFunctionCall
    ∷ host.PromiseBatchActionTransfer
    ∷ host.PromiseBatchActionAddKeyWithFullAccess
    ∷ host.PromiseBatchActionAddKeyWithFunctionCall
    ∷ host.PromiseBatchActionDeleteKey
    ∷ host.PromiseBatchActionDeleteAccount
    ∷ host.PromiseResultsCount
    ∷ host.PromiseResult
    ∷ host.PromiseReturn
    ∷ []

-- the function of the host that has a name
unfoldable pub host_named : List ℕ → Option HostFn
host_named name = find (λ f. bytes_eq (host_name f) name) host_functions
