-- Of this project's own: what the calls of a machine answer.
use Rattle.std.specs.Prelude.{◌≡◌, ◌≢◌, ℕ, ◌+◌, ◌*◌, Bool, true, false, ◌||◌, nat_lt, List, length, Option, Some, None}
use Rattle.std.specs.Prelude.{Result, Ok, Err}
use Rattle.nr_wasmexec.specs.declared.stop.Stop.{Stop}
use Rattle.nr_wasmexec.specs.declared.stop.Stop.TheVariants as stop
use Rattle.nr_wasmexec.specs.declared.program.Limits.{Limits}
use Rattle.nr_wasmexec.specs.declared.stop.RunStop.{RunStop}
use Rattle.nr_wasmexec.specs.declared.stop.RunStop.TheVariants as end
use Rattle.nr_wasmmem.specs.Meaning.{HostMeaning}
use Rattle.nr_wasmmem.specs.declared.guest.Guest.{Guest}
use Rattle.nr_wasmexec.specs.declared.program.Program.{Program}
use Rattle.nr_wasmexec.specs.Reduction.{Trap, GasExceeded, HostFault, Step, To, Over, Stopping, IsDead, frames_of}
use Rattle.nr_wasmexec.specs.Reduction.{values_of, turn, runs, Runtime, Rules, Config, Outcome, Done, Halted, NeverFits}
use Rattle.nr_wasmexec.specs.Place.{Place, whole_of}

abbrev pub rules_of : {S : Type 0} → HostMeaning S → Program → Limits → Rules S
rules_of m program limits =
    record {
      host = m;
      program = program;
      cost = limits.cost;
      max_frames = limits.max_frames;
      max_values = limits.max_values;
    }

abbrev pub runtime : {S : Type 0} → S → Guest → Runtime S
runtime host guest = record { host = host; guest = guest }

abbrev pub config_of : {S : Type 0} → S → Guest → Place → Config S
config_of host guest p =
    record { store = record { host = host; guest = guest }; locals = (whole_of p).0; seq = (whole_of p).1 }

-- An instruction's step.
abbrev pub Steps : {S : Type 0} → Result (Unit {0}) Stop → S → Guest → Place → Step S → Type 0
Steps (Ok u) host guest new step = step ≡ To (runtime host guest) (whole_of new).0 (whole_of new).1
Steps (Err (stop.Trap kind)) host guest new step = step ≡ Stopping (runtime host guest) (Trap kind)
Steps (Err stop.GasExceeded) host guest new step = step ≡ Stopping (runtime host guest) GasExceeded
Steps (Err (stop.HostFault kind)) host guest new step = step ≡ Stopping (runtime host guest) (HostFault kind)
Steps (Err stop.Lost) host guest new step = IsDead step
Steps (Err stop.Memory) host guest new step = Unit {0}

-- Any step; false at the end.
abbrev pub Turns : {S : Type 0} → Result Bool Stop → S → Guest → Place → Runtime S → Step S → Type 0
Turns (Ok true) host guest new before step = step ≡ To (runtime host guest) (whole_of new).0 (whole_of new).1
Turns (Ok false) host guest new before step = ((values : List ℕ) × (step ≡ Over values)) × (before ≡ runtime host guest)
Turns (Err (stop.Trap kind)) host guest new before step = step ≡ Stopping (runtime host guest) (Trap kind)
Turns (Err stop.GasExceeded) host guest new before step = step ≡ Stopping (runtime host guest) GasExceeded
Turns (Err (stop.HostFault kind)) host guest new before step = step ≡ Stopping (runtime host guest) (HostFault kind)
Turns (Err stop.Lost) host guest new before step = IsDead step
Turns (Err stop.Memory) host guest new before step = Unit {0}

-- twice the gas that is left, and what is still to be left
abbrev pub work_left : {S : Type 0} → HostMeaning S → S → Place → ℕ
work_left m host p = 2 * m.gas host + length p.contexts

abbrev pub is_too_large_at : ℕ → ℕ → Place → Bool
is_too_large_at frames values p =
    nat_lt frames (frames_of (whole_of p).1) || nat_lt values (values_of (whole_of p).1 + length (whole_of p).0)

-- the run from a place
abbrev pub run_at : {S : Type 0} → Rules S → Runtime S → Place → ℕ → Outcome S
run_at w s p n = turn w s (To s (whole_of p).0 (whole_of p).1) (runs w n)

-- A run comes to this after some number of steps.
abbrev pub Drives : {S : Type 0} → Result (Unit {0}) Stop → S → Guest → (ℕ → Outcome S) → Type 0
Drives (Ok u) host guest outcome = (n : ℕ) × (outcome n ≡ Done (runtime host guest))
Drives (Err (stop.Trap kind)) host guest outcome = (n : ℕ) × (outcome n ≡ Halted (runtime host guest) (Trap kind))
Drives (Err stop.GasExceeded) host guest outcome = (n : ℕ) × (outcome n ≡ Halted (runtime host guest) GasExceeded)
Drives (Err (stop.HostFault kind)) host guest outcome =
    (n : ℕ) × (outcome n ≡ Halted (runtime host guest) (HostFault kind))
Drives (Err stop.Lost) host guest outcome = (n : ℕ) × (outcome n ≡ NeverFits)
Drives (Err stop.Memory) host guest outcome = Unit {0}

-- A run comes to its end after some number of steps.
abbrev pub Ends : {S : Type 0} → Result (Unit {0}) RunStop → S → Guest → (ℕ → Outcome S) → Type 0
Ends (Ok u) host guest outcome = (n : ℕ) × (outcome n ≡ Done (runtime host guest))
Ends (Err (end.Trap kind)) host guest outcome = (n : ℕ) × (outcome n ≡ Halted (runtime host guest) (Trap kind))
Ends (Err end.GasExceeded) host guest outcome = (n : ℕ) × (outcome n ≡ Halted (runtime host guest) GasExceeded)
Ends (Err (end.HostFault kind)) host guest outcome =
    (n : ℕ) × (outcome n ≡ Halted (runtime host guest) (HostFault kind))
Ends (Err end.Memory) host guest outcome = Unit {0}

-- it never comes to code that no rule fits
abbrev pub NeverStuck : {S : Type 0} → (ℕ → Outcome S) → Type 0
NeverStuck outcome = (n : ℕ) → outcome n ≢ NeverFits

-- Something was put into a list, where it fits.
abbrev pub PutsInto : {X : Type 0} → Bool → List X → Option (List X) → Type 0
PutsInto true new came = came ≡ Some new
PutsInto false new came = came ≡ None
