-- The moments of a call: what it runs is of a valid module, its numbers fit, and so it is of its types.
use Rattle.std.proofs.Common.{◌≡◌, ℕ, zero, suc, ◌+◌, ◌*◌, ◌≤◌, Bool, true, false, cond, nat_lt, List}
use Rattle.std.proofs.Common.{Option, Some, None, Result, Ok, Err, refl, sym, ap, ◌∙◌, subst, suc-mul}
use Rattle.std.proofs.Common.{arith}
use Rattle.std.specs.Prelude.{IsTrue, find}
use Rattle.std.specs.Str.{bytes_eq}
use Rattle.nr_bytes.specs.Numbers.{IsBytes}
use Rattle.nr_bytes.specs.Reading.{◌>>=◌}
use Rattle.nr_config.specs.Config.{Config, IsValidConfig, max_code, max_pages}
use Rattle.nr_contract.proofs.Judging.{is_valid}
use Rattle.nr_contract.proofs.Making.{made_is}
use Rattle.nr_contract.specs.Contract.{call, code_in, load_gas, run, started}
use Rattle.nr_contract.specs.Loading.{judged, made, named, out_of_gas, prepared, read}
use Rattle.nr_contract.specs.Verdicts.{module_verdict}
use Rattle.nr_contract_laws.proofs.Along.{OnGives, answers_next, led_first, led_to}
use Rattle.nr_contract_laws.proofs.Answering.{answers, begins, burnt_fits, counts_behind}
use Rattle.nr_contract_laws.proofs.Ending.{by_export}
use Rattle.nr_contract_laws.proofs.Given.{rises}
use Rattle.nr_contract_laws.proofs.Turning.{Counts}
use Rattle.nr_contract_laws.specs.Moments.{IsRun, Leads, StaysCounted, begun, rules, start}
use Rattle.nr_contract_laws.specs.Numbers.{FitsState, most_added, usage_of}
use Rattle.nr_hostctx.specs.Host.{meaning}
use Rattle.nr_hostctx.specs.declared.seen.HostState.{HostState}
use Rattle.nr_machine_laws.specs.Steps.{Reaches}
use Rattle.nr_machine_laws.specs.Typed.{IsTypedConfig}
use Rattle.nr_state.specs.Calls.{Stopped}
use Rattle.nr_state.specs.World.{World}
use Rattle.nr_state.specs.declared.calls.CallContext.{CallContext}
use Rattle.nr_wasmbin.proofs.ModuleLaws.{decoded_is}
use Rattle.nr_wasmbin.specs.Grammar.{IsModule}
use Rattle.nr_wasmbin.specs.Modules.{decoded}
use Rattle.nr_wasmbin.specs.declared.fault.DecodeFault.{DecodeFault}
use Rattle.nr_wasmexec.specs.Functions.{func_at}
use Rattle.nr_wasmexec.specs.Machine.{rules_of, runtime}
use Rattle.nr_wasmexec.specs.Making.{MachineView, is_method, machine_of, method_of, program_of}
use Rattle.nr_wasmexec.specs.Reduction.{Config as State, paid}
use Rattle.nr_wasmexec.specs.declared.making.MakeFault.{MakeFault}
use Rattle.nr_wasmexec.specs.declared.making.MakeFault.TheVariants as make
use Rattle.nr_wasmexec.specs.declared.program.Program.{Program}
use Rattle.nr_wasmmem.specs.Meaning.{Answer, Fails, Gives, OutOfGas, Store, burnt}
use Rattle.nr_wasmtypes.specs.declared.module.Export.{Export}
use Rattle.nr_wasmtypes.specs.declared.module.Module.{Module}
use Rattle.nr_wasmvalid.specs.Modules.{IsValid}
use Rattle.nr_wasmvalid.specs.declared.fault.ValidFault.{ValidFault}

-- ---- what is prepared is the machine of a valid module that the code spells, and a method of it
record Loads (c : Config) (code : List ℕ) (m : MachineView) (f : ℕ) : Type 0 where
  source : Module
  spells : IsModule code source
  valid : IsValid (max_pages c) source
  made : machine_of c source ≡ Ok m
  method : IsTrue (is_method (func_at m.program f))

ok_is : (a b : MachineView × ℕ) (r : Result (MachineView × ℕ) (ℕ × ℕ)) → r ≡ Ok a → r ≡ Ok b → a ≡ b
ok_is a b r is e = cc

module _ (c : Config) (code name : List ℕ) (m : MachineView) (f : ℕ) where
  abbrev Gets : Result (Module × ℕ) (ℕ × ℕ) → Type 0
  Gets found = (found >>= λ it. made it.1 (machine_of c it.0)) ≡ Ok (m, f)

  module _ (source : Module) (spells : IsModule code source) where
    by_machine : IsValid (max_pages c) source → (g : ℕ) → method_of (program_of source) name ≡ Some g
        → (r : Result MachineView MakeFault) → machine_of c source ≡ r → made g r ≡ Ok (m, f) → Loads c code m f
    by_machine valid g named_so (Ok v) is e =
        let same : (v, g) ≡ (m, f) = ok_is (v, g) (m, f) (Ok (v, g)) refl e in
        let program : v.program ≡ program_of source = (made_is c source v is).0 in
        let method : IsTrue (is_method (func_at (program_of source) g)) =
        by_export (program_of source) (find (λ (y : Export). bytes_eq y.name name) source.exports) g named_so in
        record {
          source = source;
          spells = spells;
          valid = valid;
          made = is ∙ ap Ok (ap (λ (p : MachineView × ℕ). p.0) same);
          method =
              subst (λ (p : MachineView × ℕ). IsTrue (is_method (func_at p.0.program p.1))) same
              (subst (λ (p : Program). IsTrue (is_method (func_at p g))) (sym program) method);
        }
    by_machine valid g named_so (Err make.Segment) is e = absurd cc
    by_machine valid g named_so (Err make.Memory) is e = absurd cc

    by_method : IsValid (max_pages c) source → (o : Option ℕ) → method_of (program_of source) name ≡ o
        → Gets (named source o) → Loads c code m f
    by_method valid None is e = absurd cc
    by_method valid (Some g) is e = by_machine valid g is (machine_of c source) refl e

    by_verdict : (r : Result (Unit {0}) ValidFault) → module_verdict (max_pages c) source ≡ r
        → Gets (judged source name r) → Loads c code m f
    by_verdict (Err fault) is e = absurd cc
    by_verdict (Ok x) is e =
        by_method (is_valid (max_pages c) source is) (method_of (program_of source) name) refl e

  by_reading : (r : Result Module DecodeFault) → decoded (max_code c) code ≡ r → Gets (read c name r)
      → Loads c code m f
  by_reading (Err fault) is e = absurd cc
  by_reading (Ok source) is e =
      by_verdict source (decoded_is (max_code c) code source is).1 (module_verdict (max_pages c) source) refl e

  loads : prepared c code name ≡ Ok (m, f) → Loads c code m f
  unfolding prepared
  loads e = by_reading (decoded (max_code c) code) refl e

-- ---- so much for each of some steps
at_first : (u k : ℕ) → u ≤ u + 0 * k
at_first u k = omega arith

one_more : (u v n k : ℕ) → v ≤ u + n * k + k → v ≤ u + suc n * k
one_more u v n k le = omega (arith, le, suc-mul n k)

-- what `typing_laws` says of the host that contracts have
abbrev pub KeepsTypes : Type 0
KeepsTypes =
    (c : Config) (bytes : List ℕ) (source : Module) (m : MachineView) → IsValidConfig c → IsBytes bytes
    → IsModule bytes source → IsValid (max_pages c) source → machine_of c source ≡ Ok m
    → (s : HostState) (f n : ℕ) (t : State HostState) → IsTrue (is_method (func_at m.program f))
    → Reaches (rules_of meaning m.program m.limits) (runtime s m.guest) f n t → IsTypedConfig m.program t

-- ---- a call
on_gives : (Q R : HostState → Type 0) (a : Answer) (s : HostState) → (Q s → R s) → OnGives Q a s → OnGives R a s
on_gives Q R (Gives value) s k h = k h
on_gives Q R OutOfGas s k h = tt
on_gives Q R (Fails kind) s k h = tt

module _ (c : Config) (w : World) (x : CallContext) (m : MachineView) (f : ℕ) (h : IsRun c w x m f) where
  loaded : Loads c (code_in w x.current) m f
  loaded = loads c (code_in w x.current) x.method m f h.found

  first_fits : FitsState (begun c w x)
  first_fits = begins c w x (load_gas c (code_in w x.current)) h.config h.context

  -- ---- the numbers of the state at each moment
  abbrev most_at : ℕ → ℕ
  most_at n = usage_of (begun c w x) + n * most_added c

  first_counts : Counts c (most_at 0) (begun c w x)
  first_counts =
      record { fits = first_fits; config = refl; usage = at_first (usage_of (begun c w x)) (most_added c) }

  one_more_at : (n : ℕ) (s : HostState) → Counts c (most_at n + most_added c) s → Counts c (most_at (suc n)) s
  one_more_at n s k =
      record {
        fits = k.fits;
        config = k.config;
        usage = one_more (usage_of (begun c w x)) (usage_of s) n (most_added c) k.usage;
      }

  -- the state once a step is paid for, and the guest's memory
  abbrev before : State HostState → Store HostState
  before b = record { host = burnt meaning b.store.host m.limits.cost; memory = b.store.guest.memory.bytes }

  before_counts : (u : ℕ) (b : State HostState) → Counts c u b.store.host → Counts c u (before b).host
  before_counts u b k =
      record { fits = burnt_fits b.store.host m.limits.cost k.fits; config = k.config; usage = k.usage }

  counts_at : (n : ℕ) (s : State HostState) → Leads (rules m) (start c w x m) f n s
      → Counts c (most_at n) s.store.host
  counts_at zero s r =
      led_first (Counts c (most_at 0)) (rules m) (start c w x m) (func_at m.program f) s first_counts r
  counts_at (suc n) s r =
      let k : Counts c (most_at n) r.0.store.host = counts_at n r.0 r.1 in
      let more : Counts c (most_at (suc n)) r.0.store.host =
      one_more_at n r.0.store.host (rises c (most_at n) r.0.store.host k) in
      led_to (Counts c (most_at (suc n))) (rules m) r.0 more (before_counts (most_at (suc n)) r.0 more)
      (λ g args. on_gives (Counts c (most_at n + most_added c)) (Counts c (most_at (suc n)))
      (meaning.call (before r.0) g args).answer (meaning.call (before r.0) g args).store.host
      (one_more_at n (meaning.call (before r.0) g args).store.host)
      (counts_behind c (most_at n) (before r.0) (before_counts (most_at n) r.0 k) g args))
      s r.2

  pub counted : (n : ℕ) (s : State HostState) → Leads (rules m) (start c w x m) f n s
      → usage_of s.store.host ≤ usage_of (begun c w x) + n * most_added c
  counted n s r = (counts_at n s r).usage

  -- ---- the answers of the host are of their types
  reaches : (n : ℕ) (s : State HostState) → StaysCounted c w x m f n → Leads (rules m) (start c w x m) f n s
      → Reaches (rules m) (start c w x m) f n s
  reaches zero s small r = r
  reaches (suc n) s small r = (
    r.0,
    reaches n r.0 (λ k b lt. small k b (omega (arith, lt))) r.1,
    answers_next (rules m) (paid (rules m) r.0.store)
        (λ g args. answers (before r.0) g args
        (burnt_fits r.0.store.host m.limits.cost (counts_at n r.0 r.1).fits) (λ is. small n r.0 (omega arith) r.1))
        r.0.locals r.0.seq,
    r.2,
  )

  pub typed : KeepsTypes → (n : ℕ) (s : State HostState) → StaysCounted c w x m f n
      → Leads (rules m) (start c w x m) f n s → IsTypedConfig m.program s
  typed keeps n s small r =
      keeps c (code_in w x.current) loaded.source m h.config h.code loaded.spells loaded.valid loaded.made
      (begun c w x) f n s loaded.method (reaches n s small r)

  -- ---- the call's meaning is that of this run
  by_gas : (b : Bool) → nat_lt x.gas (load_gas c (code_in w x.current)) ≡ b
      → load_gas c (code_in w x.current) ≤ x.gas
      → cond b (Stopped out_of_gas 0 x.gas)
      (started (begun c w x) (load_gas c (code_in w x.current)) (prepared c (code_in w x.current) x.method))
      ≡ run (begun c w x) m f
  by_gas true e le = absurd (grind (arith, e, le))
  by_gas false e le = ap (started (begun c w x) (load_gas c (code_in w x.current))) h.found

  pub same : load_gas c (code_in w x.current) ≤ x.gas → call c w x ≡ run (begun c w x) m f
  unfolding call
  same le = by_gas (nat_lt x.gas (load_gas c (code_in w x.current))) refl le
