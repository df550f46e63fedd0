-- An answer leaves no more gas.
use Rattle.std.proofs.Common.{◌≡◌, ℕ, ◌≤◌, List, Option, subst}
use Rattle.std.specs.Prelude.{◌≢◌, Result, Ok, Err}
use Rattle.nr_triedef.specs.declared.store.Store.{Ghosts}
use Rattle.nr_wasmmem.specs.declared.fault.HostStop.{HostStop}
use Rattle.nr_wasmmem.specs.declared.fault.HostStop.TheVariants as stop
use Rattle.nr_wasmtypes.specs.declared.host.HostFn.{HostFn}
use Rattle.nr_hostctx.specs.Acts.{Came, Goes, Stops, Does}
use Rattle.nr_hostctx.specs.Bounds.{after_of, row_bounded}
use Rattle.nr_hostctx.specs.Host.{gas_left, LeavesGas}
use Rattle.nr_hostctx.specs.Rows.{row}
use Rattle.nr_hostctx.specs.State.{HostState, state_of}
use Rattle.nr_hostctx.specs.declared.context.HostContext.{HostContext}

gas_after : (f : HostFn) (a : List ℕ) (s : HostState) (came : Came (Option ℕ)) → row f a s ≡ came
    → gas_left (after_of came).gas ≤ gas_left s.gas
gas_after f a s came e =
    subst (λ (x : Came (Option ℕ)). gas_left (after_of x).gas ≤ gas_left s.gas) e (row_bounded f a s).gas

gas_stop : stop.Gas ≢ stop.Memory
gas_stop e = cc

fault_stop : (kind : ℕ) → stop.Fault kind ≢ stop.Memory
fault_stop kind e = cc

pub leaves_gas : {S : Type 0} {G : Ghosts S} (f : HostFn) (a : List ℕ) (result : Result (Option ℕ) HostStop)
    (old new : HostContext S G) → Does result old new (row f a) → LeavesGas result old new
leaves_gas f a (Ok value) old new does = gas_after f a (state_of old) (Goes (state_of new) value) does.0
leaves_gas f a (Err stop.Gas) old new does =
    gas_after f a (state_of old) (Stops (state_of new) stop.Gas) (does gas_stop).0
leaves_gas f a (Err (stop.Fault kind)) old new does =
    gas_after f a (state_of old) (Stops (state_of new) (stop.Fault kind)) (does (fault_stop kind)).0
leaves_gas f a (Err stop.Memory) old new does = tt
