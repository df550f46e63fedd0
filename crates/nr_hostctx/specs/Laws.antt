-- The bindings are a host: what every host promises. Laws of this project's own.
use Rattle.std.specs.Prelude.{◌≡◌, ℕ, ◌≤◌, List, length, Option, Some, None, refl}
use Rattle.std.proofs.Common.{arith}
use Rattle.nr_wasmmem.specs.Meaning.{Store, IsHost, IsResult}
use Rattle.nr_wasmmem.specs.declared.fault.HostStop.TheVariants as stop
use Rattle.nr_wasmtypes.specs.Host.{host_type}
use Rattle.nr_wasmtypes.specs.declared.host.HostFn.{HostFn}
use Rattle.nr_wasmtypes.specs.declared.host.HostFn.TheVariants as host
use Rattle.nr_wasmtypes.specs.declared.instr.ValType.TheVariants.{I64}
use Rattle.nr_hostctx.specs.Acts.{Came, Goes, Stops, onward, give}
use Rattle.nr_hostctx.specs.Host.{gas_left, with_guest, called, meaning}
use Rattle.nr_hostctx.specs.Bounds.{after_of, row_bounded}
use Rattle.nr_hostctx.specs.Rows.{row}
use Rattle.nr_hostctx.specs.State.{HostState}

-- ---- an answer has a number exactly where the function has a result
none_answers : (came : Came (Unit {0})) → IsResult None (called (onward came (λ done. give None))).answer
none_answers (Goes s value) = tt
none_answers (Stops s stop.Gas) = tt
none_answers (Stops s (stop.Fault kind)) = tt
none_answers (Stops s stop.Memory) = tt

some_answers : (came : Came ℕ) → IsResult (Some I64) (called (onward came (λ n. give (Some n)))).answer
some_answers (Goes s value) = tt
some_answers (Stops s stop.Gas) = tt
some_answers (Stops s (stop.Fault kind)) = tt
some_answers (Stops s stop.Memory) = tt

row_answers : (f : HostFn) (a : List ℕ) (s : HostState) → IsResult (host_type f).result (called (row f a s)).answer
unfolding row
row_answers host.ReadRegister a s = none_answers _
row_answers host.RegisterLen a s = some_answers _
row_answers host.WriteRegister a s = none_answers _
row_answers host.CurrentAccountId a s = none_answers _
row_answers host.SignerAccountId a s = none_answers _
row_answers host.PredecessorAccountId a s = none_answers _
row_answers host.SignerAccountPk a s = none_answers _
row_answers host.Input a s = none_answers _
row_answers host.BlockIndex a s = some_answers _
row_answers host.BlockTimestamp a s = some_answers _
row_answers host.StorageUsage a s = some_answers _
row_answers host.PrepaidGas a s = some_answers _
row_answers host.UsedGas a s = some_answers _
row_answers host.AccountBalance a s = none_answers _
row_answers host.AccountLockedBalance a s = none_answers _
row_answers host.AttachedDeposit a s = none_answers _
row_answers host.Sha256 a s = none_answers _
row_answers host.ValueReturn a s = none_answers _
row_answers host.PanicUtf8 a s = none_answers _
row_answers host.LogUtf8 a s = none_answers _
row_answers host.Abort a s = none_answers _
row_answers host.StorageWrite a s = some_answers _
row_answers host.StorageRead a s = some_answers _
row_answers host.StorageRemove a s = some_answers _
row_answers host.StorageHasKey a s = some_answers _
row_answers host.PromiseBatchCreate a s = some_answers _
row_answers host.PromiseBatchThen a s = some_answers _
row_answers host.PromiseAnd a s = some_answers _
row_answers host.PromiseCreate a s = some_answers _
row_answers host.PromiseThen a s = some_answers _
row_answers host.PromiseBatchActionCreateAccount a s = none_answers _
row_answers host.PromiseBatchActionDeployContract a s = none_answers _
row_answers host.PromiseBatchActionFunctionCall a s = none_answers _
row_answers host.PromiseBatchActionTransfer a s = none_answers _
row_answers host.PromiseBatchActionAddKeyWithFullAccess a s = none_answers _
row_answers host.PromiseBatchActionAddKeyWithFunctionCall a s = none_answers _
row_answers host.PromiseBatchActionDeleteKey a s = none_answers _
row_answers host.PromiseBatchActionDeleteAccount a s = none_answers _
row_answers host.PromiseResultsCount a s = some_answers _
row_answers host.PromiseResult a s = some_answers _
row_answers host.PromiseReturn a s = none_answers _

-- ---- gas and memory
no_more : (s : Store HostState) (came : Came (Option ℕ)) → gas_left (after_of came).gas ≤ gas_left s.host.gas
    → gas_left (called came).store.host.gas ≤ gas_left s.host.gas
no_more s (Goes t v) h = h
no_more s (Stops t w) h = h

same_size : (s : Store HostState) (came : Came (Option ℕ)) → length (after_of came).guest ≡ length s.memory
    → length (called came).store.memory ≡ length s.memory
same_size s (Goes t v) h = h
same_size s (Stops t w) h = h

pub meaning_is_host : IsHost meaning
meaning_is_host =
    record {
      gas_is = λ s n h. omega (arith, h);
      gas_over = λ s n k. refl;
      no_more_gas = λ s f args.
          no_more s (row f args (with_guest s.host s.memory))
          (row_bounded f args (with_guest s.host s.memory)).gas;
      result = λ s f args. row_answers f args (with_guest s.host s.memory);
      size = λ s f args.
          same_size s (row f args (with_guest s.host s.memory))
          (row_bounded f args (with_guest s.host s.memory)).guest;
    }
