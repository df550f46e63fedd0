-- What parts of the code answer: runs over a host and over a state. This project's own.
use Rattle.std.specs.Prelude.{◌≡◌, ℕ, true, Result, Ok, Err}
use Rattle.nr_hostctx.specs.State.{rest_of, end_of, is_whole}
use Rattle.nr_hostctx.specs.declared.context.HostContext.{HostContext}
use Rattle.nr_hostctx.specs.declared.seen.HostState.{HostState}
use Rattle.nr_state.specs.Calls.{Called, Ended, Stopped}
use Rattle.nr_state.specs.View.{StateView}
use Rattle.nr_state.specs.declared.calls.CallEnd.{CallEnd}
use Rattle.nr_state.specs.declared.calls.CallStop.{CallStop}
use Rattle.nr_state.specs.declared.calls.CallStop.TheVariants as stop
use Rattle.nr_wasmexec.specs.declared.stop.RunStop.{RunStop}
use Rattle.nr_wasmexec.specs.declared.stop.RunStop.TheVariants as run
use Rattle.nr_triedef.specs.declared.store.Store.{Ghosts}
use Rattle.nr_contract.specs.Loading.{trapped, failed_binding, out_of_gas}

-- a run over a state did this, and left all of the state but its world
abbrev pub Runs : Result CallEnd CallStop → StateView → StateView → Called → Type 0
Runs (Ok end) old new due = (due ≡ Ended end new.world) × (rest_of new ≡ rest_of old)
Runs (Err (stop.Failed kind part burnt)) old new due = (due ≡ Stopped kind part burnt) × (rest_of new ≡ rest_of old)
Runs (Err stop.Memory) old new due = Unit {0}

-- how a run ended that burnt so much gas
abbrev pub ended_as : Result (Unit {0}) RunStop → ℕ → Result (Unit {0}) CallStop
ended_as (Ok u) burnt = Ok tt
ended_as (Err (run.Trap kind)) burnt = Err (stop.Failed trapped kind burnt)
ended_as (Err (run.HostFault kind)) burnt = Err (stop.Failed failed_binding kind burnt)
ended_as (Err run.GasExceeded) burnt = Err (stop.Failed out_of_gas 0 burnt)
ended_as (Err run.Memory) burnt = Err stop.Memory

-- a run led to this state of the host, or stopped
abbrev pub DrivesTo : Result (Unit {0}) CallStop → HostState → Called → Type 0
DrivesTo (Ok u) s due = due ≡ Ended (end_of s) s.world
DrivesTo (Err (stop.Failed kind part burnt)) s due = due ≡ Stopped kind part burnt
DrivesTo (Err stop.Memory) s due = Unit {0}

-- unless memory ran out, no change was left in the middle
abbrev pub StaysWhole : {S : Type 0} {G : Ghosts S} → Result (Unit {0}) CallStop → HostContext S G → Type 0
StaysWhole (Ok u) h = is_whole h ≡ true
StaysWhole (Err (stop.Failed kind part burnt)) h = is_whole h ≡ true
StaysWhole (Err stop.Memory) h = Unit {0}
