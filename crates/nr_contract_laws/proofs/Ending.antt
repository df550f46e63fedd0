-- A call that stops has one of the kinds of failure, and further steps change nothing.
use Rattle.std.proofs.Common.{◌≡◌, ◌≢◌, ℕ, ◌≤◌, Bool, true, false, List, [], Option, Some, None}
use Rattle.std.proofs.Common.{Result, Ok, Err, nat_lt, refl, ap, subst, arith}
use Rattle.std.specs.Prelude.{IsTrue, find, if◌then◌else◌}
use Rattle.std.specs.Str.{bytes_eq}
use Rattle.nr_bytes.specs.Reading.{◌>>=◌}
use Rattle.nr_config.specs.Config.{Config, IsValidConfig, max_code, max_pages}
use Rattle.nr_contract.proofs.Judging.{is_valid}
use Rattle.nr_contract.specs.Contract.{call, code_in, enough, first_state, load_gas, loaded, over, run, started}
use Rattle.nr_contract.specs.Loading.{judged, made, named, out_of_gas, prepared, read}
use Rattle.nr_contract.specs.Runs.{IsOver, run_ends, run_same}
use Rattle.nr_contract.specs.Verdicts.{module_verdict}
use Rattle.nr_contract_laws.specs.Ending.{IsFailure, steps}
use Rattle.nr_hostctx.specs.Host.{meaning}
use Rattle.nr_hostctx.specs.Laws.{meaning_is_host}
use Rattle.nr_hostctx.specs.declared.seen.HostState.{HostState}
use Rattle.nr_state.specs.Calls.{Called, Ended, Stopped}
use Rattle.nr_state.specs.World.{World}
use Rattle.nr_state.specs.declared.calls.CallContext.{CallContext}
use Rattle.nr_wasmbin.specs.Modules.{decoded}
use Rattle.nr_wasmbin.specs.declared.fault.DecodeFault.{DecodeFault}
use Rattle.nr_wasmexec.proofs.Branches.{some_is}
use Rattle.nr_wasmexec.proofs.Linked.{program_sound}
use Rattle.nr_wasmexec.proofs.Made.{cost_bound, guest_whole}
use Rattle.nr_wasmexec.proofs.Sound.{method_never_stuck}
use Rattle.nr_wasmexec.specs.Functions.{func_at}
use Rattle.nr_wasmexec.specs.Machine.{rules_of, runtime}
use Rattle.nr_wasmexec.specs.Making.{MachineView, first_guest, is_method, limits_of, machine_of, machine_with}
use Rattle.nr_wasmexec.specs.Making.{method_as, method_in, method_of, program_of}
use Rattle.nr_wasmexec.specs.Reduction.{Trap, GasExceeded, HostFault, Outcome, Done, Halted, NeverFits, Unfinished}
use Rattle.nr_wasmexec.specs.declared.program.Program.{Program}
use Rattle.nr_wasmmem.specs.declared.guest.Guest.{Guest}
use Rattle.nr_wasmtypes.specs.Code.{Code}
use Rattle.nr_wasmtypes.specs.declared.instr.ValType.{ValType}
use Rattle.nr_wasmtypes.specs.declared.module.Export.{Export}
use Rattle.nr_wasmtypes.specs.declared.module.ExportKind.{ExportKind}
use Rattle.nr_wasmtypes.specs.declared.module.ExportKind.TheVariants as exported
use Rattle.nr_wasmtypes.specs.declared.module.Module.{Module}
use Rattle.nr_wasmvalid.specs.Modules.{IsValid}
use Rattle.nr_wasmvalid.specs.Rules.{Context}
use Rattle.nr_wasmvalid.specs.Running.{GoesOn, NeverStuck, Open}
use Rattle.nr_wasmvalid.specs.Typing.{IsTyped}
use Rattle.nr_wasmvalid.specs.declared.fault.ValidFault.{ValidFault}

-- ---- steps
pub ends : (s : HostState) (m : MachineView) (f n : ℕ) → 1 ≤ m.limits.cost → enough (meaning.gas s) ≤ n
    → IsOver (steps s m f n)
ends s m f n cost le =
    run_ends (rules_of meaning m.program m.limits) meaning_is_host cost (runtime s m.guest) f n (omega (arith, le))

pub comes : (s : HostState) (m : MachineView) (f n : ℕ) → 1 ≤ m.limits.cost → IsOver (steps s m f n)
    → run s m f ≡ over (steps s m f n)
unfolding run
comes s m f n cost is =
    ap over
    (run_same (rules_of meaning m.program m.limits) (runtime s m.guest) f (enough (meaning.gas s)) n
    (ends s m f (enough (meaning.gas s)) cost (omega arith)) is)

-- ---- methods
by_kind : (p : Program) (kind : ExportKind) (f g : ℕ) → method_as p kind f ≡ Some g
    → IsTrue (is_method (func_at p g))
by_kind p exported.Func f g e = by_test (is_method (func_at p f)) refl e
  where
    by_test : (b : Bool) → is_method (func_at p f) ≡ b → (if b then Some f else None) ≡ Some g
        → IsTrue (is_method (func_at p g))
    by_test true is e = subst (λ k. IsTrue (is_method (func_at p k))) (some_is f g e) is
    by_test false is e = absurd cc
by_kind p exported.Table f g e = absurd cc
by_kind p exported.Memory f g e = absurd cc
by_kind p exported.Global f g e = absurd cc

pub by_export : (p : Program) (o : Option Export) (g : ℕ) → method_in p o ≡ Some g → IsTrue (is_method (func_at p g))
by_export p None g e = absurd cc
by_export p (Some x) g e = by_kind p x.kind x.index g e

-- ---- kinds
abbrev Fails : Called → Type 0
Fails (Ended end after) = Unit {0}
Fails (Stopped kind part burnt) = IsFailure kind

over_fails : (o : Outcome HostState) → IsOver o → o ≢ NeverFits → Fails (over o)
over_fails (Done r) is fits = tt
over_fails (Halted r (Trap kind)) is fits = (omega arith, omega arith)
over_fails (Halted r GasExceeded) is fits = (omega arith, omega arith)
over_fails (Halted r (HostFault kind)) is fits = (omega arith, omega arith)
over_fails NeverFits is fits = absurd (fits refl)
over_fails Unfinished is fits = absurd is

module _ (safe : (c : Context) (bs : List Open) (ts : List ValType) → NeverStuck c bs ts)
    (starts : (c : Context) (code : Code) → IsTyped c code → GoesOn c [] code []) (c : Config)
    (config : IsValidConfig c) where
  -- the run of a method in a machine of a valid module
  run_fails : (m : Module) (guest : Guest) (f : ℕ) → IsValid (max_pages c) m
      → first_guest (max_pages c) m ≡ Some guest → IsTrue (is_method (func_at (program_of m) f)) → (s : HostState)
      → Fails (run s (record { program = program_of m; limits = limits_of c; guest = guest }) f)
  unfolding run
  run_fails m guest f valid first method s =
      let machine : MachineView = record { program = program_of m; limits = limits_of c; guest = guest } in
      let n : ℕ = enough (meaning.gas s) in
      over_fails (steps s machine f n) (ends s machine f n (cost_bound c config) (omega arith))
      (method_never_stuck safe starts (rules_of meaning (program_of m) (limits_of c)) meaning_is_host
      (program_sound (max_pages c) (program_of m) valid refl) (runtime s guest) f (func_at (program_of m) f)
      (guest_whole (max_pages c) m guest valid first) refl method n)

  module _ (s : HostState) (load : ℕ) (name : List ℕ) where
    abbrev Starts : Result (Module × ℕ) (ℕ × ℕ) → Type 0
    Starts found = Fails (started s load (found >>= λ it. made it.1 (machine_of c it.0)))

    by_guest : (m : Module) (f : ℕ) → IsValid (max_pages c) m → IsTrue (is_method (func_at (program_of m) f))
        → (o : Option Guest) → first_guest (max_pages c) m ≡ o → Fails (started s load (made f (machine_with c m o)))
    by_guest m f valid method None e = (omega arith, omega arith)
    by_guest m f valid method (Some guest) e = run_fails m guest f valid e method s

    by_method : (m : Module) → IsValid (max_pages c) m → (o : Option ℕ) → method_of (program_of m) name ≡ o
        → Starts (named m o)
    by_method m valid None e = (omega arith, omega arith)
    by_method m valid (Some f) e =
        by_guest m f valid
        (by_export (program_of m) (find (λ (x : Export). bytes_eq x.name name) m.exports) f e)
        (first_guest (max_pages c) m) refl

    by_verdict : (m : Module) (r : Result (Unit {0}) ValidFault) → module_verdict (max_pages c) m ≡ r
        → Starts (judged m name r)
    by_verdict m (Err e) is = (omega arith, omega arith)
    by_verdict m (Ok x) is = by_method m (is_valid (max_pages c) m is) (method_of (program_of m) name) refl

    by_reading : (r : Result Module DecodeFault) → Starts (read c name r)
    by_reading (Err e) = (omega arith, omega arith)
    by_reading (Ok m) = by_verdict m (module_verdict (max_pages c) m) refl

    started_fails : (code : List ℕ) → Fails (started s load (prepared c code name))
    unfolding prepared
    started_fails code = by_reading (decoded (max_code c) code)

  module _ (w : World) (x : CallContext) where
    loaded_fails : (code : List ℕ) → Fails (loaded c w x code)
    loaded_fails code = by_gas (nat_lt x.gas (load_gas c code))
      where
        by_gas : (b : Bool)
            → Fails (if b then Stopped out_of_gas 0 x.gas else started (first_state c w x (load_gas c code))
            (load_gas c code) (prepared c code x.method))
        by_gas true = (omega arith, omega arith)
        by_gas false = started_fails (first_state c w x (load_gas c code)) (load_gas c code) x.method code

    call_fails : Fails (call c w x)
    unfolding call
    call_fails = loaded_fails (code_in w x.current)

    pub kinds : (kind part burnt : ℕ) → call c w x ≡ Stopped kind part burnt → IsFailure kind
    kinds kind part burnt is = subst Fails is call_fails
