-- The steps of a run.
use Rattle.std.proofs.Common.{◌≡◌, ℕ, suc, ◌+◌, ◌-◌, ◌<◌, ◌≤◌, Bool, true, false, List, [], ◌∷◌, length, None, Result, Ok, Err, nat_lt, refl, sym, ap, ◌∙◌, subst, arith}
use Rattle.std.specs.Prelude.{OnOk}
use Rattle.nr_wasmtypes.specs.Code.{End, after, begins}
use Rattle.nr_wasmexec.specs.declared.stop.Stop.{Stop}
use Rattle.nr_wasmexec.specs.declared.stop.Stop.TheVariants as stop
use Rattle.nr_wasmmem.specs.Meaning.{IsHost, burnt}
use Rattle.nr_wasmmem.specs.declared.guest.Guest.{Guest}
use Rattle.nr_wasmexec.specs.Reduction.{Plain, Trap, GasExceeded, effect, Step, To, Over, Branching, Returning, Stopping, NoRule, IsDead, Runtime, Rules, reduce, has_instr, frames_of, values_of, stepped, Outcome, Done, Halted, NeverFits, turn, runs}
use Rattle.nr_wasmexec.specs.Place.{Context, InLabel, InFrame, Place, whole_of, left, Led, frames_in, held_in}
use Rattle.nr_wasmexec.specs.Thread.{Reaches}
use Rattle.nr_wasmexec.specs.Executing as executing
use Rattle.nr_wasmexec.specs.Machine.{runtime, config_of, Steps, Turns, work_left, is_too_large_at, run_at, Drives}
use Rattle.nr_wasmexec.proofs.Plugged.{IsStep, IsNear, instr_is, end_is, has_instr_inside, frames_inside, held_inside, led_near}

-- ---- what a place holds
pub frames_at : (p : Place) → frames_in p.contexts ≡ frames_of (whole_of p).1
frames_at p = omega (arith, frames_inside p.contexts p.locals (Plain p.values p.code))

pub held_at : (p : Place) → held_in p.contexts + length p.locals + length p.values ≡ values_of (whole_of p).1 + length (whole_of p).0
held_at p = omega (arith, held_inside p.contexts p.locals (Plain p.values p.code))

-- ---- an instruction
has_next : (p : Place) → begins p.code ≡ true → has_instr (whole_of p).1 ≡ true
has_next p e = has_instr_inside p.contexts p.locals (Plain p.values p.code) ∙ e

has_none : (p : Place) → p.code ≡ End → has_instr (whole_of p).1 ≡ false
has_none p e = has_instr_inside p.contexts p.locals (Plain p.values p.code) ∙ ap begins e

not_less : (a b : ℕ) → b ≤ a → nat_lt a b ≡ false
not_less a b le = grind (arith)

less : (a b : ℕ) → a < b → nat_lt a b ≡ true
less a b lt = grind (arith)

module _ {S : Type 0} (w : Rules S) (host : S) (guest : Guest) (p : Place) where
  pub poor : (new : S) → begins p.code ≡ true → w.host.gas host < w.cost → new ≡ burnt w.host host w.cost → stepped w (config_of host guest p) ≡ Stopping (runtime new guest) GasExceeded
  poor new e lt is =
      let t : has_instr (whole_of p).1 ≡ true = has_next p e in
      let u : nat_lt (w.host.gas host) w.cost ≡ true = less (w.host.gas host) w.cost lt in
      rw (t, u, is) refl

  pays : (new : S) → begins p.code ≡ true → w.cost ≤ w.host.gas host → new ≡ burnt w.host host w.cost → stepped w (config_of host guest p) ≡ reduce w (runtime new guest) (whole_of p).0 (whole_of p).1
  pays new e le is =
      let t : has_instr (whole_of p).1 ≡ true = has_next p e in
      let u : nat_lt (w.host.gas host) w.cost ≡ false = not_less (w.host.gas host) w.cost le in
      rw (t, u, is) refl

  steps_of : (r : Result (Unit {0}) Stop) (h : S) (m : Guest) (new : Place) (to : Led S) (step : Step S) → executing.Ends r h m new to → IsStep step to → Steps r h m new step
  steps_of (Ok u) h m new to step e is = subst (IsStep step) e is
  steps_of (Err (stop.Trap kind)) h m new to step e is = subst (IsStep step) e is
  steps_of (Err stop.GasExceeded) h m new to step e is = subst (IsStep step) e is
  steps_of (Err (stop.HostFault kind)) h m new to step e is = subst (IsStep step) e is
  steps_of (Err stop.Lost) h m new to step e is = subst (IsStep step) e is
  steps_of (Err stop.Memory) h m new to step e is = tt

  -- an instruction that was paid for
  pub obeys : (paid : S) (r : Result (Unit {0}) Stop) (h : S) (m : Guest) (new : Place) → begins p.code ≡ true → w.cost ≤ w.host.gas host → paid ≡ burnt w.host host w.cost → executing.Ends r h m new (executing.led_by w.host w.program paid guest p) → Steps r h m new (stepped w (config_of host guest p))
  obeys paid r h m new e le is ends =
      subst (Steps r h m new) (sym (pays paid e le is))
      (steps_of r h m new (executing.led_by w.host w.program paid guest p) _ ends (instr_is w (runtime paid guest) p e))

  pub falls : (law : IsHost w.host) (paid : S) (r : Result (Unit {0}) Stop) (h : S) (m : Guest) (new : Place) → 1 ≤ w.cost → w.cost ≤ w.host.gas host → paid ≡ burnt w.host host w.cost → executing.Ends r h m new (executing.led_by w.host w.program paid guest p) → OnOk r (work_left w.host h new < work_left w.host host p)
  falls law paid (Err e) h m new one le is ends = tt
  falls law paid (Ok u) h m new one le is ends =
      let near : IsNear w.host (runtime paid guest) p.contexts (runtime h m) new = led_near w.host law (runtime paid guest) p.locals (after p.code) p.contexts (effect w.program guest p.locals p.values p.code) (runtime h m) new ends in
      let left_gas : w.host.gas paid ≡ w.host.gas host - w.cost = ap w.host.gas is ∙ law.gas_is host (w.host.gas host - w.cost) (omega arith) in
      omega (arith, near.gas, near.contexts, left_gas)

  -- the end of a sequence
  left_none : (cs : List Context) → left p cs ≡ None → cs ≡ []
  left_none [] e = refl
  left_none (InLabel values n again code ∷ around) e = cc
  left_none (InFrame values n outer code ∷ around) e = cc

  pub ends_sequence : (r : Bool) (new : Place) → p.code ≡ End → Reaches r new (left p p.contexts) → Turns (Ok r) host guest new (runtime host guest) (stepped w (config_of host guest p))
  ends_sequence true new e reached =
      let t : has_instr (whole_of p).1 ≡ false = has_none p e in
      rw t (end_is w (runtime host guest) p p.contexts e refl new reached)
  ends_sequence false new e reached =
      let t : has_instr (whole_of p).1 ≡ false = has_none p e in
      let cs : p.contexts ≡ [] = left_none p.contexts reached in
      rw t ((p.values, rw (cs, e) refl), refl)

-- by what the flag was
pub turns_on : {S : Type 0} → (b : Bool) (h : S) (m : Guest) (new : Place) (before : Runtime S) (step : Step S) → b ≡ true → Turns (Ok b) h m new before step → step ≡ To (runtime h m) (whole_of new).0 (whole_of new).1
turns_on true h m new before step e t = t
turns_on false h m new before step e t = cc

pub turns_off : {S : Type 0} → (b : Bool) (h : S) (m : Guest) (new : Place) (before : Runtime S) (step : Step S) → b ≡ false → Turns (Ok b) h m new before step → ((values : List ℕ) × (step ≡ Over values)) × (before ≡ runtime h m)
turns_off true h m new before step e t = cc
turns_off false h m new before step e t = t

-- ---- runs
module _ {S : Type 0} (w : Rules S) (s : Runtime S) (p : Place) where
  pub too_large : is_too_large_at w.max_frames w.max_values p ≡ true → run_at w s p 0 ≡ Halted s (Trap 8)
  too_large e = rw e refl

  pub goes_on : (k : ℕ) (t : Runtime S) (q : Place) → is_too_large_at w.max_frames w.max_values p ≡ false → stepped w (config_of s.host s.guest p) ≡ To t (whole_of q).0 (whole_of q).1 → run_at w s p (suc k) ≡ run_at w t q k
  goes_on k t q e step = rw (e, step) refl

  pub stops : (t : Runtime S) (stop : _) → is_too_large_at w.max_frames w.max_values p ≡ false → stepped w (config_of s.host s.guest p) ≡ Stopping t stop → run_at w s p 1 ≡ Halted t stop
  stops t stop e step = rw (e, step) refl

  pub over : (values : List ℕ) → is_too_large_at w.max_frames w.max_values p ≡ false → stepped w (config_of s.host s.guest p) ≡ Over values → run_at w s p 1 ≡ Done s
  over values e step = rw (e, step) refl

  dead_turn : (step : Step S) → IsDead step → turn w s step (runs w 0) ≡ NeverFits
  dead_turn (To t locals seq) h = absurd h
  dead_turn (Over values) h = absurd h
  dead_turn (Branching depth values) h = refl
  dead_turn (Returning values) h = refl
  dead_turn (Stopping t stop) h = absurd h
  dead_turn NoRule h = refl

  pub dead : is_too_large_at w.max_frames w.max_values p ≡ false → IsDead (stepped w (config_of s.host s.guest p)) → run_at w s p 1 ≡ NeverFits
  dead e h = rw e (dead_turn (stepped w (config_of s.host s.guest p)) h)

  -- an error ends the run, wherever it began
  pub errs : (outcome : ℕ → Outcome S) → ((k : ℕ) → (j : ℕ) × (outcome j ≡ run_at w s p k)) → is_too_large_at w.max_frames w.max_values p ≡ false → (e : Stop) (h : S) (m : Guest) (new : Place) (before : Runtime S) → Turns (Err e) h m new before (stepped w (config_of s.host s.guest p)) → Drives (Err e) h m outcome
  errs outcome leads small (stop.Trap kind) h m new before step = ((leads 1).0, (leads 1).1 ∙ stops _ _ small step)
  errs outcome leads small stop.GasExceeded h m new before step = ((leads 1).0, (leads 1).1 ∙ stops _ _ small step)
  errs outcome leads small (stop.HostFault kind) h m new before step = ((leads 1).0, (leads 1).1 ∙ stops _ _ small step)
  errs outcome leads small stop.Lost h m new before step = ((leads 1).0, (leads 1).1 ∙ dead small step)
  errs outcome leads small stop.Memory h m new before step = tt
