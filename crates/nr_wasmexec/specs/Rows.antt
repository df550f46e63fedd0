-- Of this project's own: what the calls answer that run quiet instructions in a row, which change neither the host nor
-- the guest, and pay for the row at its end.
use Rattle.std.specs.Prelude.{◌≡◌, ℕ, zero, suc, ◌+◌, ◌<◌, ◌≤◌, Bool, true, false, length, Option, Some, None, Result}
use Rattle.std.specs.Prelude.{Ok, Err, ◌⊎◌}
use Rattle.nr_wasmtypes.specs.Code.{Code, Then, begins}
use Rattle.nr_wasmtypes.specs.declared.instr.Plain.{Plain as Op}
use Rattle.nr_wasmtypes.specs.declared.instr.Plain.TheVariants as op
use Rattle.nr_wasmmem.specs.Meaning.{HostMeaning, burnt}
use Rattle.nr_wasmmem.specs.declared.guest.Guest.{Guest}
use Rattle.nr_wasmexec.specs.declared.stop.Stop.{Stop}
use Rattle.nr_wasmexec.specs.declared.stop.Stop.TheVariants as stop
use Rattle.nr_wasmexec.specs.declared.program.Program.{Program}
use Rattle.nr_wasmexec.specs.Reduction.{GasExceeded, Rules, Outcome, Done, Halted, effect}
use Rattle.nr_wasmexec.specs.Place.{Place, Move, held_in}
use Rattle.nr_wasmexec.specs.Executing.{by, Moves}
use Rattle.nr_wasmexec.specs.Machine.{runtime, run_at, Drives}

-- where the next instruction of a place leads
abbrev pub next_move : Program → Guest → Place → Move
next_move program guest p = by p (effect program guest p.locals p.values p.code)

-- An instruction that isn't quiet is left as it stands; any other leads where the move says.
abbrev pub Quiets : Option (Result (Unit {0}) Stop) → Place → Place → Move → Type 0
Quiets None old new move = new ≡ old
Quiets (Some done) old new move = Moves done new move

-- An instruction was there.
abbrev pub Begun : Option (Result (Unit {0}) Stop) → Code → Type 0
Begun None code = Unit {0}
Begun (Some done) code = begins code ≡ true

-- no call of a function
abbrev pub IsNoCall : Op → Type 0
IsNoCall (op.Call f) = ⊥
IsNoCall (op.CallIndirect t) = ⊥
IsNoCall o = Unit {0}

abbrev pub BeginsNoCall : Code → Type 0
BeginsNoCall (Then o rest) = IsNoCall o
BeginsNoCall code = Unit {0}

-- What was run is no call: a plain instruction, or the first of code.
abbrev pub RanNoCall : Option (Result (Unit {0}) Stop) → Op → Type 0
RanNoCall None o = Unit {0}
RanNoCall (Some done) o = IsNoCall o

abbrev pub PassedNoCall : Option (Result (Unit {0}) Stop) → Code → Type 0
PassedNoCall None code = Unit {0}
PassedNoCall (Some done) code = BeginsNoCall code

-- the operands and locals of all sequences and frames
abbrev pub holds : Place → ℕ
holds p = held_in p.contexts + length p.locals + length p.values

-- the state that has paid so much: nothing, or by burning it
abbrev pub paid_for : {S : Type 0} → HostMeaning S → S → ℕ → S
paid_for m s zero = s
paid_for m s (suc n) = burnt m s (suc n)

-- Whatever the host, with so much gas a run comes from p to q, and pays it.
pub record IsRow {S : Type 0} (w : Rules S) (guest : Guest) (due : ℕ) (p q : Place) : Type 0 where
  pub pays : (s : S) → due ≤ w.host.gas s → (k : ℕ)
      → (j : ℕ) × (run_at w (runtime s guest) p j ≡ run_at w (runtime (paid_for w.host s due) guest) q k)
  -- with less it ends on the way, with none left
  pub fails : (s : S) → w.host.gas s < due
      → (j : ℕ) × (run_at w (runtime s guest) p j ≡ Halted (runtime (burnt w.host s due) guest) GasExceeded)
  pub near : length q.contexts ≤ length p.contexts + due

-- The same of a row that ends at an instruction which stops the run; this one is paid for too.
pub record IsCut {S : Type 0} (w : Rules S) (guest : Guest) (due : ℕ) (p : Place) (why : Stop) : Type 0 where
  pub pays : (s : S) → due ≤ w.host.gas s
      → Drives (Err why) (paid_for w.host s due) guest (run_at w (runtime s guest) p)
  pub fails : (s : S) → w.host.gas s < due
      → (j : ℕ) × (run_at w (runtime s guest) p j ≡ Halted (runtime (burnt w.host s due) guest) GasExceeded)

abbrev pub Rows : {S : Type 0} → Rules S → Guest → ℕ → Place → Result (Unit {0}) Stop → Place → Type 0
Rows w guest due p (Ok u) q = IsRow w guest due p q
Rows w guest due p (Err why) q = IsCut w guest due p why

-- A row is paid for, and ends as it ended; or the gas wasn't enough.
abbrev pub Pays : {S : Type 0} → HostMeaning S → ℕ → Result (Unit {0}) Stop → Result (Unit {0}) Stop → S → S → Type 0
Pays m due end result old new =
    ((due ≤ m.gas old) × (new ≡ paid_for m old due) × (result ≡ end))
    ⊎ ((m.gas old < due) × (new ≡ burnt m old due) × (result ≡ Err stop.GasExceeded))

-- Whatever the run comes to from here, it comes to from where it was; or it has come to its end.
abbrev pub Rides : {S : Type 0} → Rules S → Result (Unit {0}) Stop → S → Guest → Place → (ℕ → Outcome S) → Type 0
Rides w (Ok u) host guest new outcome =
    (k : ℕ) → (j : ℕ) × (outcome j ≡ run_at w (runtime host guest) new k)
Rides w (Err why) host guest new outcome = Drives (Err why) host guest outcome

-- The same; false at the end of the run.
abbrev pub Leaps : {S : Type 0} → Rules S → Result Bool Stop → S → Guest → Place → (ℕ → Outcome S) → Type 0
Leaps w (Ok true) host guest new outcome =
    (k : ℕ) → (j : ℕ) × (outcome j ≡ run_at w (runtime host guest) new k)
Leaps w (Ok false) host guest new outcome = (n : ℕ) × (outcome n ≡ Done (runtime host guest))
Leaps w (Err why) host guest new outcome = Drives (Err why) host guest outcome
