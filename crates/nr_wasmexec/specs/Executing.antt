-- Of this project's own: what the calls that run an instruction answer.
use Rattle.std.specs.Prelude.{◌≡◌, ℕ, Bool, true, false, ◌<◌, ◌≤◌, List, [], ◌∷◌, length, slice_set, Option, Some, None}
use Rattle.std.specs.Prelude.{Result, Ok, Err}
use Rattle.nr_wasmtypes.specs.Code.{after}
use Rattle.nr_wasmmem.specs.Meaning.{HostMeaning}
use Rattle.nr_wasmexec.specs.declared.stop.Stop.{Stop}
use Rattle.nr_wasmexec.specs.declared.stop.Stop.TheVariants as stop
use Rattle.nr_wasmmem.specs.declared.guest.Guest.{Guest}
use Rattle.nr_wasmexec.specs.declared.program.Func.{Func as Lent}
use Rattle.nr_wasmexec.specs.declared.program.Func.TheVariants as lent
use Rattle.nr_wasmexec.specs.declared.program.Program.{Program}
use Rattle.nr_wasmexec.specs.Functions.{Func, Hosted, Coded}
use Rattle.nr_wasmexec.specs.Reduction.{Trap, GasExceeded, HostFault, Effect, Writes, effect}
use Rattle.nr_wasmexec.specs.Place.{Place, Move, At, Trapped, Lost, Elsewhere, moved, Led, Leads, Halts, Nowhere, led}

-- from an old place, by an effect
abbrev pub by : Place → Effect → Move
by p e = moved p.locals (after p.code) p.contexts e

-- A call leads where the move says, unless memory runs out.
abbrev pub Moves : Result (Unit {0}) Stop → Place → Move → Type 0
Moves (Ok u) new move = move ≡ At new
Moves (Err (stop.Trap kind)) new move = move ≡ Trapped kind
Moves (Err stop.GasExceeded) new move = ⊥
Moves (Err (stop.HostFault kind)) new move = ⊥
Moves (Err stop.Lost) new move = move ≡ Lost
Moves (Err stop.Memory) new move = Unit {0}

-- where an effect leads that doesn't change the host
pub data Change : Type 0 where
  Becomes : (guest : Guest) (place : Place) → Change
  Fails : (kind : ℕ) → Change
  Missing : Change
  -- it calls the host
  Called : Change

abbrev pub with_guest : Guest → Move → Change
with_guest guest (At p) = Becomes guest p
with_guest guest (Trapped kind) = Fails kind
with_guest guest Lost = Missing
with_guest guest Elsewhere = Called

abbrev pub changed : Guest → Place → Effect → Change
changed guest p (Writes new values) =
    Becomes new (record { values = values; code = after p.code; locals = p.locals; contexts = p.contexts })
changed guest p e = with_guest guest (by p e)

-- A call changes the guest so, unless memory runs out; a trap leaves the guest as it was.
abbrev pub Changes : Result (Unit {0}) Stop → Guest → Guest → Place → Change → Type 0
Changes (Ok u) old guest new to = to ≡ Becomes guest new
Changes (Err (stop.Trap kind)) old guest new to = (to ≡ Fails kind) × (guest ≡ old)
Changes (Err stop.GasExceeded) old guest new to = ⊥
Changes (Err (stop.HostFault kind)) old guest new to = ⊥
Changes (Err stop.Lost) old guest new to = to ≡ Missing
Changes (Err stop.Memory) old guest new to = Unit {0}

-- the same with a host
abbrev pub Ends : {S : Type 0} → Result (Unit {0}) Stop → S → Guest → Place → Led S → Type 0
Ends (Ok u) host guest new to = to ≡ Leads (record { host = host; guest = guest }) new
Ends (Err (stop.Trap kind)) host guest new to = to ≡ Halts (record { host = host; guest = guest }) (Trap kind)
Ends (Err stop.GasExceeded) host guest new to = to ≡ Halts (record { host = host; guest = guest }) GasExceeded
Ends (Err (stop.HostFault kind)) host guest new to = to ≡ Halts (record { host = host; guest = guest }) (HostFault kind)
Ends (Err stop.Lost) host guest new to = to ≡ Nowhere
Ends (Err stop.Memory) host guest new to = Unit {0}

abbrev pub Arrives : Result (Unit {0}) Stop → Bool → Type 0
Arrives (Ok u) there = there ≡ true
Arrives (Err (stop.Trap kind)) there = ⊥
Arrives (Err stop.GasExceeded) there = ⊥
Arrives (Err (stop.HostFault kind)) there = ⊥
Arrives (Err stop.Lost) there = there ≡ false
Arrives (Err stop.Memory) there = ⊥

-- the topmost operand
abbrev pub Takes : Result ℕ Stop → Place → Place → Type 0
Takes (Ok v) old new = (old.values ≡ v ∷ new.values) × (new ≡ record old { values = new.values })
Takes (Err (stop.Trap kind)) old new = ⊥
Takes (Err stop.GasExceeded) old new = ⊥
Takes (Err (stop.HostFault kind)) old new = ⊥
Takes (Err stop.Lost) old new = old.values ≡ []
Takes (Err stop.Memory) old new = ⊥

-- where an effect leads
abbrev pub led_to : {S : Type 0} → HostMeaning S → S → Guest → Place → Effect → Led S
led_to m host guest p e = led m (record { host = host; guest = guest }) p.locals (after p.code) p.contexts e

-- where the instruction that is next leads
abbrev pub led_by : {S : Type 0} → HostMeaning S → Program → S → Guest → Place → Led S
led_by m program host guest p = led_to m host guest p (effect program guest p.locals p.values p.code)

-- the function that a program lends
abbrev pub func_of : Lent → Func
func_of (lent.Hosted sig name) = Hosted sig.now name
func_of (lent.Coded sig body) = Coded sig.now body.now

abbrev pub FindsFunc : Option Lent → Option Func → Type 0
FindsFunc None func = func ≡ None
FindsFunc (Some f) func = func ≡ Some (func_of f)

-- a value of a list is set, where it is there
abbrev pub SetsAt : Bool → ℕ → ℕ → List ℕ → List ℕ → Type 0
SetsAt false n v old new = (length old ≤ n) × (new ≡ old)
SetsAt true n v old new = (n < length old) × (new ≡ slice_set old n v)

-- neither the table nor the number of globals has changed
abbrev pub SameShape : Guest → Guest → Type 0
SameShape old new = (new.table ≡ old.table) × (length new.globals ≡ length old.globals)
