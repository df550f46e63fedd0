-- A run that is over is what the call comes to.
use Rattle.std.proofs.Common.{◌≡◌, ℕ, ◌≤◌, Result, Ok, Err, false, refl, ap, ◌∙◌, sym, subst, arith, [], true}
use Rattle.std.specs.Prelude.{is_err}
use Rattle.nr_config.specs.Config.{Config}
use Rattle.nr_triedef.specs.declared.store.Store.{Ghosts}
use Rattle.nr_hostctx.specs.Host.{meaning, with_guest, Holds}
use Rattle.nr_hostctx.specs.declared.context.HostContext.{HostContext}
use Rattle.nr_hostctx.specs.Laws.{meaning_is_host}
use Rattle.nr_hostctx.specs.State.{end_of, state_of, fresh, rest_of, rest_in, is_whole}
use Rattle.nr_hostctx.specs.declared.seen.HostState.{HostState}
use Rattle.nr_state.specs.Calls.{Ended, Stopped}
use Rattle.nr_wasmexec.specs.Machine.{rules_of, runtime, Ends}
use Rattle.nr_wasmexec.specs.Making.{MachineView}
use Rattle.nr_wasmexec.specs.Reduction.{Stop, Trap, GasExceeded, HostFault, Outcome, Done, Halted, run_by}
use Rattle.nr_wasmexec.specs.declared.stop.RunStop.{RunStop}
use Rattle.nr_wasmexec.specs.declared.stop.RunStop.TheVariants as exec
use Rattle.nr_state.specs.View.{StateView}
use Rattle.nr_state.specs.declared.calls.CallContext.{CallContext}
use Rattle.nr_state.specs.declared.calls.CallEnd.{CallEnd}
use Rattle.nr_state.specs.declared.calls.CallStop.{CallStop}
use Rattle.nr_state.specs.declared.calls.CallStop.TheVariants as call_stop
use Rattle.nr_wasmmem.specs.Meaning.{Burns, burnt}
use Rattle.nr_wasmmem.specs.declared.guest.Guest.{Guest}
use Rattle.nr_wasmtypes.specs.declared.exceeded.Exceeded.{Exceeded}
use Rattle.nr_contract.specs.Calls.{ended_as, DrivesTo, StaysWhole, Runs}
use Rattle.nr_contract.specs.Contract.{over, enough, run, stopped, first_state}
use Rattle.nr_contract.specs.Runs.{IsOver, run_ends, run_same}

module _ (s : HostState) (m : MachineView) (f : ℕ) (cost : 1 ≤ m.limits.cost) where
  abbrev outcome : ℕ → Outcome HostState
  outcome n = run_by (rules_of meaning m.program m.limits) (runtime s m.guest) f n

  is_it : (n : ℕ) (o : Outcome HostState) → outcome n ≡ o → IsOver o → run s m f ≡ over o
  unfolding run
  is_it n o e is =
      let w = rules_of meaning m.program m.limits in
      let there : IsOver (outcome n) = subst IsOver (sym e) is in
      let enough_of : IsOver (outcome (enough (meaning.gas s))) = run_ends w meaning_is_host cost (runtime s m.guest)
      f (enough (meaning.gas s)) (omega arith) in
      ap over (run_same w (runtime s m.guest) f (enough (meaning.gas s)) n enough_of there ∙ e)

  pub ended : (h : HostState) (g : Guest)
      → (n : ℕ) × (run_by (rules_of meaning m.program m.limits) (runtime s m.guest) f n ≡ Done (runtime h g))
      → run s m f ≡ Ended (end_of h) h.world
  ended h g e = is_it e.0 (Done (runtime h g)) e.1 tt

  pub stopped_at : (h : HostState) (g : Guest) (stop : Stop)
      → (n : ℕ) × (run_by (rules_of meaning m.program m.limits) (runtime s m.guest) f n ≡ Halted (runtime h g) stop)
      → run s m f ≡ stopped h stop
  stopped_at h g stop e = is_it e.0 (Halted (runtime h g) stop) e.1 tt

  -- by how the machine's run ended
  pub drives : (end : Result (Unit {0}) RunStop) (h : HostState) (g : Guest)
      → Ends end h g (run_by (rules_of meaning m.program m.limits) (runtime s m.guest) f)
      → DrivesTo (ended_as end h.gas.burnt) h (run s m f)
  drives (Ok u) h g e = ended h g e
  drives (Err (exec.Trap kind)) h g e = stopped_at h g (Trap kind) e
  drives (Err (exec.HostFault kind)) h g e = stopped_at h g (HostFault kind) e
  drives (Err exec.GasExceeded) h g e = stopped_at h g GasExceeded e
  drives (Err exec.Memory) h g e = tt

paid_is : (r : Result (Unit {0}) Exceeded) (load : ℕ) (old mid : HostState) → is_err r ≡ false
    → Burns meaning load r old mid → mid ≡ burnt meaning old load
paid_is (Ok u) load old mid e b = b.1
paid_is (Err x) load old mid e b = absurd cc

-- a run that began once the loading was paid
pub driven : (m : MachineView) (f load asked n : ℕ) (old mid h : HostState) (g : Guest)
    (paid : Result (Unit {0}) Exceeded) (end : Result (Unit {0}) RunStop) (result : Result (Unit {0}) CallStop)
    → 1 ≤ m.limits.cost → asked ≡ load → is_err paid ≡ false → Burns meaning asked paid old mid
    → Ends end h g (run_by (rules_of meaning m.program m.limits) (runtime mid m.guest) f) → n ≡ h.gas.burnt
    → result ≡ ended_as end n → DrivesTo result h (run (burnt meaning old load) m f)
driven m f load asked n old mid h g paid end result cost whole_load ok burns ends is came =
    subst (λ (s : HostState). DrivesTo result h (run s m f))
    (paid_is paid load old mid ok (subst (λ (n : ℕ). Burns meaning n paid old mid) whole_load burns))
    (rw (came, is) (drives mid m f cost end h g ends))

-- ---- what a run over a state comes to, once its host is given back
module _ {S : Type 0} {G : Ghosts S} (before after : HostContext S G) (c : Config) (old new : StateView)
    (x : CallContext) (m : MachineView) (f load : ℕ)
    (began : state_of before ≡ fresh old.world x c) (rest : rest_in before ≡ rest_of old) (holds : Holds before after)
    (back : after.callee.state.now ≡ new) where
  rest_back : is_whole after ≡ true → rest_of new ≡ rest_of old
  rest_back whole = subst (λ (s : StateView). rest_of s ≡ rest_of old) back ((holds.whole whole).1 ∙ rest)

  pub ran : (end : CallEnd)
      → DrivesTo (Ok tt) (with_guest (state_of after) [])
      (run (burnt meaning (with_guest (state_of before) []) load) m f)
      → is_whole after ≡ true → end ≡ end_of (state_of after)
      → Runs (Ok end) old new (run (first_state c old.world x load) m f)
  ran end due whole came = (
    subst (λ (s : HostState). run (burnt meaning (with_guest s []) load) m f ≡ Ended end new.world) began
        (due ∙ rw (came, sym back) refl),
    rest_back whole,
  )

  pub stops : (e : CallStop) (r : Result CallEnd CallStop) → r ≡ Err e
      → DrivesTo (Err e) (with_guest (state_of after) [])
      (run (burnt meaning (with_guest (state_of before) []) load) m f)
      → StaysWhole (Err e) after → Runs r old new (run (first_state c old.world x load) m f)
  stops (call_stop.Failed kind part spent) r is due whole =
      rw (is) (
        subst (λ (s : HostState). run (burnt meaning (with_guest s []) load) m f ≡ Stopped kind part spent) began due,
        rest_back whole,
      )
  stops call_stop.Memory r is due whole = rw (is) tt
