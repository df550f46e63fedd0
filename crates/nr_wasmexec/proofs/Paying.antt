-- Quiet instructions in a row, which are paid for together.
use Rattle.std.proofs.Common.{◌≡◌, ℕ, zero, suc, ◌+◌, ◌-◌, ◌*◌, ◌<◌, ◌≤◌, Bool, true, false, length, Option, Some, None, Result, Ok, Err, nat_lt, refl, sym, ap, ◌∙◌, subst, inl, inr, arith}
use Rattle.std.specs.Prelude.{IfOk, OnOk, IsTrue}
use Rattle.std.proofs.lemmas.Bool.{ltb-true, ltb-false}
use Rattle.std.proofs.lemmas.Nat.{mul-le}
use Rattle.nr_wasmtypes.specs.Code.{Code, after, begins, put}
use Rattle.nr_wasmtypes.specs.declared.instr.Instr.{Instr}
use Rattle.nr_wasmtypes.specs.declared.instr.Instr.TheVariants as instr
use Rattle.nr_wasmtypes.specs.declared.instr.Plain.{Plain as Op}
use Rattle.nr_wasmtypes.proofs.Levels.{put_plain}
use Rattle.nr_wasmmem.specs.Meaning.{HostMeaning, IsHost, burnt}
use Rattle.nr_wasmmem.specs.declared.guest.Guest.{Guest}
use Rattle.nr_wasmexec.specs.declared.gauge.Gauge.{Gauge}
use Rattle.nr_wasmexec.specs.declared.stop.Stop.{Stop}
use Rattle.nr_wasmexec.specs.declared.stop.Stop.TheVariants as stop
use Rattle.nr_wasmexec.specs.declared.program.Program.{Program}
use Rattle.nr_wasmexec.specs.Gauge.{gauge, gauge_is_host}
use Rattle.nr_wasmexec.specs.Reduction.{GasExceeded, plain_effect, effect, Step, Runtime, Rules, stepped, Outcome, Done, Halted}
use Rattle.nr_wasmexec.specs.Place.{Place, At}
use Rattle.nr_wasmexec.specs.Executing.{by, Moves}
use Rattle.nr_wasmexec.specs.Machine.{runtime, config_of, Steps, Turns, work_left, is_too_large_at, run_at, Drives}
use Rattle.nr_wasmexec.specs.Rows.{next_move, Quiets, Begun, paid_for, IsRow, IsCut, Rows, Pays, Rides, Leaps}
use Rattle.nr_wasmexec.proofs.Effects.{moves_end}
use Rattle.nr_wasmexec.proofs.Plugged.{IsNear, led_near}
use Rattle.nr_wasmexec.proofs.Turning.{poor, obeys, goes_on, stops, over, errs}

pub begun_any : (o : Option (Result (Unit {0}) Stop)) (code : Code) → begins code ≡ true → Begun o code
begun_any None code e = tt
begun_any (Some done) code e = e

-- a plain instruction, as the next one of a place
pub plain_quiet : (program : Program) (guest : Guest) (o : Option (Result (Unit {0}) Stop)) (p new : Place) (i : Instr) (x : Op) → p.code ≡ put i (after p.code) → i ≡ instr.Plain x → Quiets o p new (by p (plain_effect program guest p.locals p.values x)) → Quiets o p new (next_move program guest p)
plain_quiet program guest o p new i x e f h =
    subst (λ (code : Code). Quiets o p new (by p (effect program guest p.locals p.values code))) (sym (e ∙ put_plain i x (after p.code) f)) h

-- ---- what is due
pub more_due : (cost n : ℕ) → cost * (n + 1) ≡ cost * n + cost
more_due cost n = omega arith

due_some : (cost n : ℕ) → 1 ≤ cost → (n ≡ 0 → ⊥) → 0 < cost * n
due_some cost zero one some = absurd (some refl)
due_some cost (suc n) one some = omega (arith, mul-le 1 1 cost (suc n) one (omega arith))

module _ {S : Type 0} (m : HostMeaning S) where
  paid_some : (s : S) (n : ℕ) → 0 < n → paid_for m s n ≡ burnt m s n
  paid_some s zero lt = absurd (omega arith)
  paid_some s (suc n) lt = refl

  pub no_due : (s : S) (cost n : ℕ) → n ≡ 0 → (cost * n ≤ m.gas s) × (s ≡ paid_for m s (cost * n))
  no_due s cost n e =
      let none : cost * n ≡ 0 = rw e (omega arith) in
      (omega (arith, none), sym (ap (paid_for m s) none))

  pub burns_due : (s t : S) (cost n : ℕ) → 1 ≤ cost → (n ≡ 0 → ⊥) → t ≡ burnt m s (cost * n) → t ≡ paid_for m s (cost * n)
  burns_due s t cost n one some e = e ∙ sym (paid_some s (cost * n) (due_some cost n one some))

module _ {S : Type 0} (m : HostMeaning S) (law : IsHost m) where
  gas_paid : (s : S) (n : ℕ) → n ≤ m.gas s → m.gas (paid_for m s n) ≡ m.gas s - n
  gas_paid s zero le = let same : m.gas s ≡ m.gas s - 0 = omega arith in same
  gas_paid s (suc n) le = law.gas_is s (m.gas s - suc n) (omega arith)

  -- one after the other is both together
  paid_more : (s : S) (n c : ℕ) → n ≤ m.gas s → burnt m (paid_for m s n) c ≡ burnt m s (n + c)
  paid_more s zero c le =
      let same : m.gas s - c ≡ m.gas s - (0 + c) = omega arith in
      ap (m.with_gas s) same
  paid_more s (suc n) c le =
      let gas : m.gas (burnt m s (suc n)) ≡ m.gas s - suc n = law.gas_is s (m.gas s - suc n) (omega arith) in
      let same : m.gas (burnt m s (suc n)) - c ≡ m.gas s - (suc n + c) = omega (arith, gas) in
      law.gas_over s (m.gas s - suc n) (m.gas (burnt m s (suc n)) - c) ∙ ap (m.with_gas s) same

  paid_next : (s : S) (n c : ℕ) → 1 ≤ c → n ≤ m.gas s → burnt m (paid_for m s n) c ≡ paid_for m s (n + c)
  paid_next s n c one le =
      let some : 0 < n + c = omega arith in
      paid_more s n c le ∙ sym (paid_some m s (n + c) some)

  -- where it isn't enough, more is as much
  burnt_out : (s : S) (n c : ℕ) → m.gas s < n → burnt m s n ≡ burnt m s (n + c)
  burnt_out s n c lt =
      let same : m.gas s - n ≡ m.gas s - (n + c) = omega arith in
      ap (m.with_gas s) same

-- ---- a row, an instruction at a time
steps_turn : {S : Type 0} → (e : Stop) (h : S) (g : Guest) (new : Place) (before : Runtime S) (step : Step S) → Steps (Err e) h g new step → Turns (Err e) h g new before step
steps_turn (stop.Trap kind) h g new before step is = is
steps_turn stop.GasExceeded h g new before step is = is
steps_turn (stop.HostFault kind) h g new before step is = is
steps_turn stop.Lost h g new before step is = is
steps_turn stop.Memory h g new before step is = tt

-- a quiet instruction opens at most one sequence, over any host
quiet_near : (program : Program) (guest : Guest) (q r : Place) → next_move program guest q ≡ At r → length r.contexts ≤ length q.contexts + 1
quiet_near program guest q r move =
    let e = effect program guest q.locals q.values q.code in
    let host : Gauge = record { gas = 0 } in
    let ends = moves_end gauge host guest q r e (Ok tt) move in
    let near : IsNear gauge (runtime host guest) q.contexts (runtime host guest) r = led_near gauge gauge_is_host (runtime host guest) q.locals (after q.code) q.contexts e (runtime host guest) r ends in
    near.contexts

module _ {S : Type 0} (w : Rules S) (law : IsHost w.host) (guest : Guest) where
  quiet_steps : (host : S) (q r : Place) (done : Result (Unit {0}) Stop) → w.cost ≤ w.host.gas host → begins q.code ≡ true → Moves done r (next_move w.program guest q) → Steps done (burnt w.host host w.cost) guest r (stepped w (config_of host guest q))
  quiet_steps host q r done le begun move =
      let paid : S = burnt w.host host w.cost in
      obeys w host guest q paid done paid guest r begun le refl
      (moves_end w.host paid guest q r (effect w.program guest q.locals q.values q.code) done move)

  -- gas ends in the row, or at the next instruction
  gas_ends : (due : ℕ) (p q : Place) → IsRow w guest due p q → is_too_large_at w.max_frames w.max_values q ≡ false → begins q.code ≡ true → (s : S) → w.host.gas s < due + w.cost → (j : ℕ) × (run_at w (runtime s guest) p j ≡ Halted (runtime (burnt w.host s (due + w.cost)) guest) GasExceeded)
  gas_ends due p q row small begun s lt = by_gas (nat_lt (w.host.gas s) due) refl
    where
      by_gas : (b : Bool) → nat_lt (w.host.gas s) due ≡ b → (j : ℕ) × (run_at w (runtime s guest) p j ≡ Halted (runtime (burnt w.host s (due + w.cost)) guest) GasExceeded)
      by_gas true is =
          let less : w.host.gas s < due = ltb-true (w.host.gas s) due is in
          let from = row.fails s less in
          (from.0, from.1 ∙ ap (λ (t : S). Halted (runtime t guest) GasExceeded) (burnt_out w.host law s due w.cost less))
      by_gas false is =
          let rich : due ≤ w.host.gas s = ltb-false (w.host.gas s) due is in
          let host : S = paid_for w.host s due in
          let gas : w.host.gas host ≡ w.host.gas s - due = gas_paid w.host law s due rich in
          let less : w.host.gas host < w.cost = omega (arith, gas, rich, lt) in
          let from = row.pays s rich 1 in (
            from.0,
            from.1 ∙ (stops w (runtime host guest) q (runtime (burnt w.host host w.cost) guest) GasExceeded small (poor w host guest q (burnt w.host host w.cost) begun less refl)
                ∙ ap (λ (t : S). Halted (runtime t guest) GasExceeded) (paid_more w.host law s due w.cost rich)),
          )

  -- before the first
  pub row_none : (due : ℕ) (p : Place) → due ≡ 0 → IsRow w guest due p p
  row_none due p e =
      subst (λ (n : ℕ). IsRow w guest n p p) (sym e)
      (record { pays = λ s le k. (k, refl); fails = λ s lt. absurd (omega arith); near = omega arith })

  -- one more
  pub row_on : (due more : ℕ) (p q r : Place) → more ≡ due + w.cost → 1 ≤ w.cost → IsRow w guest due p q → is_too_large_at w.max_frames w.max_values q ≡ false → begins q.code ≡ true → next_move w.program guest q ≡ At r → IsRow w guest more p r
  row_on due more p q r e one row small begun move =
      subst (λ (n : ℕ). IsRow w guest n p r) (sym e) (record {
        pays = λ s le k.
            let rich : due ≤ w.host.gas s = omega (arith, le) in
            let host : S = paid_for w.host s due in
            let gas : w.host.gas host ≡ w.host.gas s - due = gas_paid w.host law s due rich in
            let enough : w.cost ≤ w.host.gas host = omega (arith, gas, le) in
            let from = row.pays s rich (suc k) in (
              from.0,
              from.1 ∙ (goes_on w (runtime host guest) q k (runtime (burnt w.host host w.cost) guest) r small (quiet_steps host q r (Ok tt) enough begun move)
                  ∙ ap (λ (t : S). run_at w (runtime t guest) r k) (paid_next w.host law s due w.cost one rich)),
            );
        fails = gas_ends due p q row small begun;
        near = omega (arith, row.near, quiet_near w.program guest q r move, one);
      })

  -- one more, which stops the run
  pub row_cut : (due more : ℕ) (p q r : Place) (why : Stop) → more ≡ due + w.cost → 1 ≤ w.cost → IsRow w guest due p q → is_too_large_at w.max_frames w.max_values q ≡ false → begins q.code ≡ true → Moves (Err why) r (next_move w.program guest q) → IsCut w guest more p why
  row_cut due more p q r why e one row small begun move =
      subst (λ (n : ℕ). IsCut w guest n p why) (sym e) (record {
        pays = λ s le.
            let rich : due ≤ w.host.gas s = omega (arith, le) in
            let host : S = paid_for w.host s due in
            let paid : S = burnt w.host host w.cost in
            let gas : w.host.gas host ≡ w.host.gas s - due = gas_paid w.host law s due rich in
            let enough : w.cost ≤ w.host.gas host = omega (arith, gas, le) in
            let steps = quiet_steps host q r (Err why) enough begun move in
            let turns = steps_turn why paid guest r (runtime host guest) (stepped w (config_of host guest q)) steps in
            subst (λ (t : S). Drives (Err why) t guest (run_at w (runtime s guest) p)) (paid_next w.host law s due w.cost one rich)
            (errs w (runtime host guest) q (run_at w (runtime s guest) p) (λ k. row.pays s rich k) small why paid guest r (runtime host guest) turns);
        fails = gas_ends due p q row small begun;
      })

  -- ---- the row is paid for
  pub rides : (due : ℕ) (p q : Place) (end result : Result (Unit {0}) Stop) (old new : S) → Rows w guest due p end q → Pays w.host due end result old new → Rides w result new guest q (run_at w (runtime old guest) p)
  rides due p q (Ok u) result old new row (inl h) =
      subst (λ (r : Result (Unit {0}) Stop). Rides w r new guest q (run_at w (runtime old guest) p)) (sym h.2)
      (subst (λ (t : S). Rides w (Ok u) t guest q (run_at w (runtime old guest) p)) (sym h.1) (row.pays old h.0))
  rides due p q (Ok u) result old new row (inr h) =
      subst (λ (r : Result (Unit {0}) Stop). Rides w r new guest q (run_at w (runtime old guest) p)) (sym h.2)
      (subst (λ (t : S). Rides w (Err stop.GasExceeded) t guest q (run_at w (runtime old guest) p)) (sym h.1) (row.fails old h.0))
  rides due p q (Err why) result old new row (inl h) =
      subst (λ (r : Result (Unit {0}) Stop). Rides w r new guest q (run_at w (runtime old guest) p)) (sym h.2)
      (subst (λ (t : S). Rides w (Err why) t guest q (run_at w (runtime old guest) p)) (sym h.1) (row.pays old h.0))
  rides due p q (Err why) result old new row (inr h) =
      subst (λ (r : Result (Unit {0}) Stop). Rides w r new guest q (run_at w (runtime old guest) p)) (sym h.2)
      (subst (λ (t : S). Rides w (Err stop.GasExceeded) t guest q (run_at w (runtime old guest) p)) (sym h.1) (row.fails old h.0))

  pub calms : (due : ℕ) (p q : Place) (end result : Result (Unit {0}) Stop) (old new : S) → Rows w guest due p end q → Pays w.host due end result old new → OnOk result (work_left w.host new q ≤ work_left w.host old p)
  calms due p q (Ok u) result old new row (inl h) =
      let gas : w.host.gas new ≡ w.host.gas old - due = ap w.host.gas h.1 ∙ gas_paid w.host law old due h.0 in
      let le : due ≤ w.host.gas old = h.0 in
      subst (λ (r : Result (Unit {0}) Stop). OnOk r (work_left w.host new q ≤ work_left w.host old p)) (sym h.2) (omega (arith, row.near, gas, le))
  calms due p q (Err why) result old new row (inl h) =
      subst (λ (r : Result (Unit {0}) Stop). OnOk r (work_left w.host new q ≤ work_left w.host old p)) (sym h.2) tt
  calms due p q (Ok u) result old new row (inr h) =
      subst (λ (r : Result (Unit {0}) Stop). OnOk r (work_left w.host new q ≤ work_left w.host old p)) (sym h.2) tt
  calms due p q (Err why) result old new row (inr h) =
      subst (λ (r : Result (Unit {0}) Stop). OnOk r (work_left w.host new q ≤ work_left w.host old p)) (sym h.2) tt

-- ---- whole runs
module _ {S : Type 0} (w : Rules S) where
  -- a turn at a place that isn't too large
  pub turn_leaps : (s : Runtime S) (p : Place) (r : Result Bool Stop) (h : S) (g : Guest) (new : Place) → is_too_large_at w.max_frames w.max_values p ≡ false → Turns r h g new s (stepped w (config_of s.host s.guest p)) → Leaps w r h g new (run_at w s p)
  turn_leaps s p (Ok true) h g new small turns = λ k. (suc k, goes_on w s p k (runtime h g) new small turns)
  turn_leaps s p (Ok false) h g new small turns = (1, over w s p turns.0.0 small turns.0.1 ∙ ap Done turns.1)
  turn_leaps s p (Err e) h g new small turns = errs w s p (run_at w s p) (λ k. (k, refl)) small e h g new s turns

  -- from where the run led
  drives_from : (outcome inner : ℕ → Outcome S) → ((k : ℕ) → (j : ℕ) × (outcome j ≡ inner k)) → (e : Stop) (h : S) (g : Guest) → Drives (Err e) h g inner → Drives (Err e) h g outcome
  drives_from outcome inner leads (stop.Trap kind) h g d = let from = leads d.0 in (from.0, from.1 ∙ d.1)
  drives_from outcome inner leads stop.GasExceeded h g d = let from = leads d.0 in (from.0, from.1 ∙ d.1)
  drives_from outcome inner leads (stop.HostFault kind) h g d = let from = leads d.0 in (from.0, from.1 ∙ d.1)
  drives_from outcome inner leads stop.Lost h g d = let from = leads d.0 in (from.0, from.1 ∙ d.1)
  drives_from outcome inner leads stop.Memory h g d = tt

  pub leaps_from : (outcome inner : ℕ → Outcome S) → ((k : ℕ) → (j : ℕ) × (outcome j ≡ inner k)) → (r : Result Bool Stop) (h : S) (g : Guest) (new : Place) → Leaps w r h g new inner → Leaps w r h g new outcome
  leaps_from outcome inner leads (Ok true) h g new leaps = λ k.
      let next = leaps k in
      let from = leads next.0 in
      (from.0, from.1 ∙ next.1)
  leaps_from outcome inner leads (Ok false) h g new leaps = let from = leads leaps.0 in (from.0, from.1 ∙ leaps.1)
  leaps_from outcome inner leads (Err e) h g new leaps = drives_from outcome inner leads e h g leaps

  -- by what the flag was
  pub leaps_on : (outcome inner : ℕ → Outcome S) → ((k : ℕ) → (j : ℕ) × (outcome j ≡ inner k)) → (b : Bool) (h : S) (g : Guest) (new : Place) → b ≡ true → Leaps w (Ok b) h g new inner → (k : ℕ) → (j : ℕ) × (outcome j ≡ run_at w (runtime h g) new k)
  leaps_on outcome inner leads true h g new e leaps = leaps_from outcome inner leads (Ok true) h g new leaps
  leaps_on outcome inner leads false h g new e leaps = cc

  pub leaps_off : (outcome inner : ℕ → Outcome S) → ((k : ℕ) → (j : ℕ) × (outcome j ≡ inner k)) → (b : Bool) (h : S) (g : Guest) (new : Place) → b ≡ false → Leaps w (Ok b) h g new inner → (n : ℕ) × (outcome n ≡ Done (runtime h g))
  leaps_off outcome inner leads true h g new e leaps = cc
  leaps_off outcome inner leads false h g new e leaps = leaps_from outcome inner leads (Ok false) h g new leaps

pub falls_more : (r : Result Bool Stop) (a b c : ℕ) → b ≤ c → IfOk r (λ on. IsTrue on → a < b) → IfOk r (λ on. IsTrue on → a < c)
falls_more (Ok on) a b c le h = λ is. let lt : a < b = h is in omega arith
falls_more (Err e) a b c le h = tt
