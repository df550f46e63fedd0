-- The call of a contract looks at the current account alone. Laws of this project's own.
use Rattle.std.specs.Prelude.{◌≡◌, ℕ, Bool, true, false, List, [], Option, Result, Ok, Err, nat_lt, unwrap_or, refl}
use Rattle.std.specs.Prelude.{if◌then◌else◌}
use Rattle.std.proofs.Common.{ap, ◌∙◌}
use Rattle.nr_config.specs.Config.{Config}
use Rattle.nr_hostctx.specs.Acts.{Came, Goes, Stops}
use Rattle.nr_hostctx.specs.Bounds.{after_of}
use Rattle.nr_hostctx.specs.Host.{meaning, called, with_guest}
use Rattle.nr_hostctx.specs.Rows.{row}
use Rattle.nr_hostctx.specs.State.{end_of}
use Rattle.nr_hostctx.specs.declared.seen.HostState.{HostState}
use Rattle.nr_state.specs.Calls.{Called, Ended, Stopped}
use Rattle.nr_state.specs.World.{World}
use Rattle.nr_state.specs.declared.calls.CallContext.{CallContext}
use Rattle.nr_wasmexec.specs.Machine.{rules_of, runtime}
use Rattle.nr_wasmexec.specs.Making.{MachineView}
use Rattle.nr_wasmexec.specs.Reduction.{Rules, Stop, Trap, GasExceeded, HostFault, Outcome, Done, Halted, NeverFits}
use Rattle.nr_wasmexec.specs.Reduction.{Unfinished, run_by}
use Rattle.nr_wasmmem.specs.declared.fault.HostStop.TheVariants as stop
use Rattle.nr_contract.specs.Contract.{stopped, over, enough, run, started, first_state, load_gas, loaded, code_in}
use Rattle.nr_contract.specs.Contract.{call}
use Rattle.nr_contract.specs.Loading.{prepared, out_of_gas}
use Rattle.nr_contract.specs.Runs.{AnswerKeeps, IsKept, OutcomeKeeps, run_keeps}
use Rattle.nr_state.specs.Local.{IsLocal}
use Rattle.nr_state.proofs.OverWorlds.{code_seen}
use Rattle.nr_state.specs.Scopes.{one_account, over_called}
use Rattle.nr_state.specs.Scopes as world
use Rattle.nr_state.proofs.ValidOwned.{itself}
use Rattle.nr_hostctx.specs.LocalRows.{elsewhere, came_elsewhere, row_local}
use Rattle.nr_contract.specs.Mapped.{IsMapped, map_called, map_outcome, run_mapped}

module _ (v : World) where
  -- ---- as a host of the machine
  called_elsewhere : (came : Came (Option ℕ)) → called (came_elsewhere v came) ≡ map_called (elsewhere v) (called came)
  called_elsewhere (Goes s value) = refl
  called_elsewhere (Stops s why) = refl

  meaning_mapped : IsMapped meaning (elsewhere v)
  meaning_mapped = record {
    gas = λ s. refl;
    burns = λ s n. refl;
    calls = λ s f args.
        ap called (row_local v f args (with_guest s.host s.memory)).same
        ∙ called_elsewhere (row f args (with_guest s.host s.memory));
  }

module _ (v : World) (x : CallContext) where
  -- the call's context stays
  abbrev P : HostState → Type 0
  P s = s.context ≡ x

  abbrev Q : HostState → Type 0
  Q s = Unit {0}

  answer_keeps : (came : Came (Option ℕ)) → (after_of came).context ≡ x
      → AnswerKeeps P Q (called came).store.host (called came).answer
  answer_keeps (Goes s value) h = h
  answer_keeps (Stops s stop.Gas) h = tt
  answer_keeps (Stops s (stop.Fault kind)) h = tt
  answer_keeps (Stops s stop.Memory) h = tt

  kept : IsKept meaning P Q
  kept = record {
    less = λ s h. tt;
    burns = λ s n h. h;
    calls = λ s f args h.
        answer_keeps (row f args (with_guest s.host s.memory))
        ((row_local v f args (with_guest s.host s.memory)).context ∙ h);
  }

  abbrev there : Called → Called
  there came = over_called (one_account x.current) v came

  stopped_there : (s : HostState) (why : Stop) → stopped (elsewhere v s) why ≡ there (stopped s why)
  stopped_there s (Trap kind) = refl
  stopped_there s (HostFault kind) = refl
  stopped_there s GasExceeded = refl

  over_there : (o : Outcome HostState) → OutcomeKeeps P Q o → over (map_outcome (elsewhere v) o) ≡ there (over o)
  over_there (Done r) k =
      ap (λ (y : CallContext). Ended (end_of r.host) (world.over (one_account y.current) r.host.world v)) k
  over_there (Halted r why) k = stopped_there r.host why
  over_there NeverFits k = refl
  over_there Unfinished k = refl

  run_there : (s : HostState) (m : MachineView) (f : ℕ) → P s → run (elsewhere v s) m f ≡ there (run s m f)
  unfolding run
  run_there s m f h =
      let rules : Rules HostState = rules_of meaning m.program m.limits in
      ap over (run_mapped rules (elsewhere v) (meaning_mapped v) (runtime s m.guest) f (enough (meaning.gas s)))
      ∙ over_there (run_by rules (runtime s m.guest) f (enough (meaning.gas s)))
      (run_keeps rules P Q kept (runtime s m.guest) f (enough (meaning.gas s)) h)

  started_there : (s : HostState) (load : ℕ) (found : Result (MachineView × ℕ) (ℕ × ℕ)) → P s
      → started (elsewhere v s) load found ≡ there (started s load found)
  started_there s load (Err failure) h = refl
  started_there s load (Ok found) h = run_there s found.0 found.1 h

  loaded_there : (c : Config) (w : World) (code : List ℕ)
      → loaded c (world.over (one_account x.current) w v) x code ≡ there (loaded c w x code)
  loaded_there c w code = by (nat_lt x.gas (load_gas c code))
    where
      by : (b : Bool)
          → (if b then Stopped out_of_gas 0 x.gas else started
          (first_state c (world.over (one_account x.current) w v) x (load_gas c code)) (load_gas c code)
          (prepared c code x.method))
          ≡ there (if b then Stopped out_of_gas 0 x.gas else started (first_state c w x (load_gas c code))
          (load_gas c code) (prepared c code x.method))
      by true = refl
      by false = started_there (first_state c w x (load_gas c code)) (load_gas c code) (prepared c code x.method) refl

  call_there : (c : Config) (w : World) → call c (world.over (one_account x.current) w v) x ≡ there (call c w x)
  unfolding call
  call_there c w =
      ap (λ o. loaded c (world.over (one_account x.current) w v) x (unwrap_or o []))
      (code_seen (one_account x.current) v w x.current (itself x.current))
      ∙ loaded_there c w (code_in w x.current)

pub call_is_local : (c : Config) → IsLocal (call c)
call_is_local c = record { alone = λ w v x. call_there v x c w }
