-- The call of a contract keeps what every caller promises. Laws of this project's own.
use Rattle.std.specs.Prelude.{◌≡◌, ℕ, ◌≤◌, true, false, List, [], Option, Result, Ok}
use Rattle.std.specs.Prelude.{Err, nat_lt, refl, if◌then◌else◌}
use Rattle.std.proofs.Common.{arith, subst}
use Rattle.nr_config.specs.Config.{Config}
use Rattle.nr_hostctx.specs.Acts.{Came, Goes, Stops}
use Rattle.nr_hostctx.specs.Bounds.{Bounded, after_of, row_bounded}
use Rattle.nr_hostctx.specs.Host.{meaning, called, with_guest}
use Rattle.nr_hostctx.specs.Rows.{row}
use Rattle.nr_hostctx.specs.State.{fresh, end_of}
use Rattle.nr_hostctx.specs.declared.seen.HostState.{HostState}
use Rattle.nr_promises.proofs.Keeping.{made_by_call}
use Rattle.nr_state.proofs.ValidCalls.{changes_nothing}
use Rattle.nr_state.specs.Calls.{Called, Ended, Stopped, CanCall, IsEnd, IsCaller}
use Rattle.nr_state.specs.World.{World}
use Rattle.nr_state.specs.declared.calls.CallContext.{CallContext}
use Rattle.nr_wasmexec.specs.Machine.{rules_of, runtime}
use Rattle.nr_wasmexec.specs.Making.{MachineView}
use Rattle.nr_wasmexec.specs.Reduction.{Trap, GasExceeded, HostFault, Outcome, Done, Halted, NeverFits, Unfinished}
use Rattle.nr_wasmexec.specs.Reduction.{run_by}
use Rattle.nr_wasmmem.specs.Meaning.{burnt}
use Rattle.nr_wasmmem.specs.declared.fault.HostStop.TheVariants as stop
use Rattle.nr_contract.specs.Contract.{over, enough, run, started, first_state, load_gas, loaded, code_in, call}
use Rattle.nr_contract.specs.Loading.{prepared, out_of_gas}
use Rattle.nr_hostctx.specs.Holding.{InCall, OnGoes, row_holds}
use Rattle.nr_contract.specs.Runs.{AnswerKeeps, IsKept, OutcomeKeeps, run_keeps}

not_less : (a b : ℕ) → nat_lt a b ≡ false → b ≤ a
not_less a b e = grind (arith, e)

-- what a call comes to is allowed
abbrev Fits : Config → World → CallContext → Called → Type 0
Fits c w x (Ended end after) = IsEnd c w x end after
Fits c w x (Stopped kind part burnt) = burnt ≤ x.gas

module _ (c : Config) (x : CallContext) (w : World) (can : CanCall w x) where
  abbrev P : HostState → Type 0
  P = InCall c x w 0 0

  abbrev Q : HostState → Type 0
  Q s = s.gas.burnt ≤ x.gas

  with_memory : (s : HostState) (bytes : List ℕ) → P s → P (with_guest s bytes)
  with_memory s bytes h =
      record {
        config = h.config;
        context = h.context;
        limit = h.limit;
        fits = h.fits;
        promised = h.promised;
        kept = h.kept;
        changes = h.changes;
        valid = h.valid;
        book = h.book;
        current = h.current;
        price = h.price;
        returned = h.returned;
      }

  burns : (s : HostState) (n : ℕ) → P s → P (burnt meaning s n)
  burns s n h =
      record {
        config = h.config;
        context = h.context;
        limit = h.limit;
        fits = omega (arith, h.fits, h.limit);
        promised = h.promised;
        kept = h.kept;
        changes = h.changes;
        valid = h.valid;
        book = h.book;
        current = h.current;
        price = h.price;
        returned = h.returned;
      }

  -- a binding that stops the call burnt within the limit
  stops : (s t : HostState) → P s → Bounded s t → Q t
  stops s t h b = omega (arith, b.fits (omega (arith, h.fits, h.limit)), b.limit, h.limit)

  answer_keeps : (s : HostState) (came : Came (Option ℕ)) → P s → OnGoes P came → Bounded s (after_of came)
      → AnswerKeeps P Q (called came).store.host (called came).answer
  answer_keeps s (Goes t value) h k b = with_memory t [] k
  answer_keeps s (Stops t stop.Gas) h k b = stops s t h b
  answer_keeps s (Stops t (stop.Fault kind)) h k b = stops s t h b
  answer_keeps s (Stops t stop.Memory) h k b = stops s t h b

  kept : IsKept meaning P Q
  kept =
      record {
        less = λ s h. omega (arith, h.fits);
        burns = burns;
        calls = λ s f args h.
            let t : P (with_guest s.host s.memory) = with_memory s.host s.memory h in
            answer_keeps (with_guest s.host s.memory) (row f args (with_guest s.host s.memory)) t
            (row_holds c x w can.stands f args (with_guest s.host s.memory) t)
            (row_bounded f args (with_guest s.host s.memory));
      }

  -- as the call begins
  begins : P (fresh w x c)
  begins =
      record {
        config = refl;
        context = refl;
        limit = refl;
        fits = omega arith;
        promised = refl;
        kept = omega arith;
        changes = changes_nothing x.current w;
        valid = λ v. v;
        book = record { promises = tt; made = tt };
        current = refl;
        price = refl;
        returned = tt;
      }

  -- as it ends
  ends : (s : HostState) → P s → IsEnd c w x (end_of s) s.world
  ends s h =
      record {
        gas = h.fits;
        promised = omega (arith, h.promised);
        tokens = omega (arith, h.kept);
        changes = h.changes;
        made = made_by_call x s.book h.book h.current h.price;
        returned = h.returned;
        valid = h.valid;
      }

  over_fits : (o : Outcome HostState) → OutcomeKeeps P Q o → Fits c w x (over o)
  over_fits (Done r) k = ends r.host k
  over_fits (Halted r (Trap kind)) k = k
  over_fits (Halted r GasExceeded) k = k
  over_fits (Halted r (HostFault kind)) k = k
  over_fits NeverFits k = omega arith
  over_fits Unfinished k = omega arith

  run_fits : (s : HostState) (m : MachineView) (f : ℕ) → P s → Fits c w x (run s m f)
  unfolding run
  run_fits s m f h =
      over_fits (run_by (rules_of meaning m.program m.limits) (runtime s m.guest) f (enough (meaning.gas s)))
      (run_keeps (rules_of meaning m.program m.limits) P Q kept (runtime s m.guest) f (enough (meaning.gas s)) h)

  started_fits : (load : ℕ) (found : Result (MachineView × ℕ) (ℕ × ℕ)) → load ≤ x.gas
      → Fits c w x (started (first_state c w x load) load found)
  started_fits load (Err failure) le = le
  started_fits load (Ok found) le = run_fits (first_state c w x load) found.0 found.1 (burns (fresh w x c) load begins)

  loaded_fits : (code : List ℕ) → Fits c w x (loaded c w x code)
  loaded_fits code = by_gas (nat_lt x.gas (load_gas c code)) refl
    where
      by_gas : (b : _) → nat_lt x.gas (load_gas c code) ≡ b
          → Fits c w x (if b then Stopped out_of_gas 0 x.gas else started (first_state c w x (load_gas c code))
          (load_gas c code) (prepared c code x.method))
      by_gas true e = omega arith
      by_gas false e = started_fits (load_gas c code) (prepared c code x.method) (not_less x.gas (load_gas c code) e)

  call_fits : Fits c w x (call c w x)
  unfolding call
  call_fits = loaded_fits (code_in w x.current)

pub is_caller : (c : Config) → IsCaller c (call c)
is_caller c =
    record {
      ended = λ w x end after can is. subst (Fits c w x) is (call_fits c x w can);
      stopped = λ w x kind part burnt can is. subst (Fits c w x) is (call_fits c x w can);
    }
