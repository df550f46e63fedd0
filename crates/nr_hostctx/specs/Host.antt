-- The bindings as a host of the machine: gas left, and calls. Between calls the guest's memory stands with the machine.
-- This project's own.
use Rattle.std.specs.Prelude.{◌≡◌, ℕ, ◌-◌, ◌≤◌, true, List, [], Option, Result, Ok, Err, refl}
use Rattle.std.proofs.Common.{◌∙◌}
use Rattle.nr_wasmmem.specs.Meaning.{HostMeaning, Called, Answer, Gives, OutOfGas, Fails}
use Rattle.nr_wasmmem.specs.declared.fault.HostStop.{HostStop}
use Rattle.nr_wasmmem.specs.declared.fault.HostStop.TheVariants as stop
use Rattle.nr_hostctx.specs.Acts.{Came, Goes, Stops}
use Rattle.nr_hostctx.specs.Rows.{row}
use Rattle.nr_hostctx.specs.State.{HostState, Gas, state_of, borrowed, rest_in, is_whole}
use Rattle.nr_triedef.specs.declared.store.Store.{Ghosts}
use Rattle.nr_hostctx.specs.declared.context.HostContext.{HostContext}

abbrev pub gas_left : Gas → ℕ
gas_left g = g.limit - g.promised - g.burnt

abbrev pub gas_with : Gas → ℕ → Gas
gas_with g n = record g { burnt = g.limit - g.promised - n }

abbrev pub with_gas_left : HostState → ℕ → HostState
with_gas_left s n = record s { gas = gas_with s.gas n }

abbrev pub with_guest : HostState → List ℕ → HostState
with_guest s bytes = record s { guest = bytes }

abbrev pub stopped : HostStop → Answer
stopped stop.Gas = OutOfGas
stopped (stop.Fault kind) = Fails kind
stopped stop.Memory = OutOfGas

-- the state, and the guest's memory apart
abbrev pub parted : HostState → Answer → Called HostState
parted s answer = record { store = record { host = with_guest s []; memory = s.guest }; answer = answer }

abbrev pub called : Came (Option ℕ) → Called HostState
called (Goes s value) = parted s (Gives value)
called (Stops s why) = parted s (stopped why)

abbrev pub meaning : HostMeaning HostState
meaning =
    record {
      gas = λ s. gas_left s.gas;
      with_gas = with_gas_left;
      call = λ s f args. called (row f args (with_guest s.host s.memory));
    }

-- a call leaves no more gas, unless memory ran out
abbrev pub LeavesGas : {S : Type 0} {G : Ghosts S} → Result (Option ℕ) HostStop → HostContext S G → HostContext S G
    → Type 0
LeavesGas (Ok value) old new = gas_left (state_of new).gas ≤ gas_left (state_of old).gas
LeavesGas (Err stop.Gas) old new = gas_left (state_of new).gas ≤ gas_left (state_of old).gas
LeavesGas (Err (stop.Fault kind)) old new = gas_left (state_of new).gas ≤ gas_left (state_of old).gas
LeavesGas (Err stop.Memory) old new = Unit {0}

-- ---- what a host holds on to
-- the state that it borrows, of which all but the world is as before unless memory ran out
pub record Holds {S : Type 0} {G : Ghosts S} (old new : HostContext S G) : Type 0 where
  pub state : borrowed new ≡ borrowed old
  pub whole : is_whole new ≡ true → (is_whole old ≡ true) × (rest_in new ≡ rest_in old)

pub holds_here : {S : Type 0} {G : Ghosts S} → (a : HostContext S G) → Holds a a
holds_here a = record { state = refl; whole = λ h. (h, refl) }

pub holds_on : {S : Type 0} {G : Ghosts S} → (a b c : HostContext S G) → Holds a b → Holds b c → Holds a c
holds_on a b c h k =
    record {
      state = k.state ∙ h.state;
      whole = λ w. ((h.whole (k.whole w).0).0, (k.whole w).1 ∙ (h.whole (k.whole w).0).1);
    }
