-- What is prepared, once the code is judged and the machine is made.
use Rattle.std.proofs.Common.{◌≡◌, ◌≢◌, ℕ, true, List, Option, Some, None, is_some, Result, Ok, Err, refl, sym, ap}
use Rattle.std.proofs.Common.{subst, IfOk, ◌∙◌}
use Rattle.nr_bytes.specs.Answers.{Gives}
use Rattle.nr_config.specs.Config.{Config, max_code, max_pages}
use Rattle.nr_wasmbin.specs.Modules.{decoded}
use Rattle.nr_wasmmem.specs.declared.guest.Guest.{Guest}
use Rattle.nr_wasmtypes.specs.declared.module.Module.{Module}
use Rattle.nr_wasmexec.specs.Making.{MachineView, machine_of, machine_with, first_guest, program_of, limits_of}
use Rattle.nr_wasmexec.specs.Making.{method_of}
use Rattle.nr_wasmexec.specs.declared.program.Program.{Program}
use Rattle.nr_wasmbin.specs.declared.fault.DecodeFault.{DecodeFault}
use Rattle.nr_wasmvalid.specs.Modules.{IsValid, IsFirstBreach}
use Rattle.nr_wasmvalid.specs.declared.fault.ValidFault.{ValidFault}
use Rattle.nr_wasmvalid.specs.declared.fault.ValidFault.TheVariants as fault
use Rattle.nr_contract.proofs.Judging.{passed, refused}
use Rattle.nr_wasmvalid.specs.Kinds.{valid_kind}
use Rattle.nr_contract.specs.Loading.{bad_code, judged, named, read, prepared}
use Rattle.nr_contract.specs.Preparing.{IsLoaded, Prepares, RunsOver, with_machine, with_method, invalid}
use Rattle.nr_contract.specs.declared.refused.Refused.{Refused}

-- ---- a machine that is made is that of its module
made_with : (c : Config) (m : Module) (o : Option Guest) (v : MachineView) → machine_with c m o ≡ Ok v
    → (v.program ≡ program_of m) × (v.limits ≡ limits_of c)
made_with c m None v e = absurd cc
made_with c m (Some guest) v e =
    let same : record { program = program_of m; limits = limits_of c; guest = guest } ≡ v = cc in
    (ap (λ (x : MachineView). x.program) (sym same), ap (λ (x : MachineView). x.limits) (sym same))

pub made_is : (c : Config) (m : Module) (v : MachineView) → machine_of c m ≡ Ok v
    → (v.program ≡ program_of m) × (v.limits ≡ limits_of c)
made_is c m v e = made_with c m (first_guest (max_pages c) m) v e

pub code_in : (c : Config) (m : Module) (v : MachineView) (r : Result (MachineView × ℕ) Refused) → machine_of c m ≡ Ok v
    → IfOk r (λ found. found.0.program ≡ v.program) → IfOk r (λ found. found.0.program.code ≡ m)
code_in c m v (Err e) made h = tt
code_in c m v (Ok found) made h = ap (λ (p : Program). p.code) (h ∙ (made_is c m v made).0)

by_method : (c : Config) (m : Module) (v : MachineView) (r : Result (MachineView × ℕ) Refused) → machine_of c m ≡ Ok v
    → (o : Option ℕ) → is_some o ≡ true → Prepares r (with_method v o) → Prepares r (with_machine c (named m o))
by_method c m v r e None t h = absurd cc
by_method c m v r e (Some f) t h = rw e h

-- the method that the module has is that of its machine
pub found_in : (c : Config) (m : Module) (method : List ℕ) (v : MachineView) (r : Result (MachineView × ℕ) Refused)
    → machine_of c m ≡ Ok v → is_some (method_of (program_of m) method) ≡ true
    → Prepares r (with_method v (method_of v.program method))
    → Prepares r (with_machine c (named m (method_of (program_of m) method)))
found_in c m method v r e there h =
    by_method c m v r e (method_of (program_of m) method) there
    (subst (λ p. Prepares r (with_method v (method_of p method))) (made_is c m v e).0 h)

-- ---- a module that passes, and one that doesn't
pub passes_on : (c : Config) (m v : Module) (method : List ℕ) (r : Result (MachineView × ℕ) Refused) → v ≡ m
    → ((e : ValidFault) → IsFirstBreach (max_pages c) m e → Gives {X = Module} fault.Memory (Ok v) (Err e))
    → Prepares r (with_machine c (named v (method_of (program_of v) method)))
    → Prepares r (with_machine c (read c method (Ok m)))
passes_on c m v method r same breach h =
    rw (passed (max_pages c) m v breach)
    (subst (λ (x : Module). Prepares r (with_machine c (named x (method_of (program_of x) method)))) same h)

stops : (c : Config) (m : Module) (method : List ℕ) (e : ValidFault) → e ≢ fault.Memory
    → (IsValid (max_pages c) m → Gives fault.Memory (Err e) (Ok m))
    → ((f : ValidFault) → IsFirstBreach (max_pages c) m f → Gives {X = Module} fault.Memory (Err e) (Err f))
    → with_machine c (read c method (Ok m)) ≡ Err (bad_code, valid_kind e)
stops c m method e other valid breach = rw (refused (max_pages c) m e other valid breach) refl

pub stops_at : (c : Config) (m : Module) (method : List ℕ) (e : ValidFault)
    → (IsValid (max_pages c) m → Gives fault.Memory (Err e) (Ok m))
    → ((f : ValidFault) → IsFirstBreach (max_pages c) m f → Gives {X = Module} fault.Memory (Err e) (Err f))
    → Prepares (Err (invalid e)) (with_machine c (read c method (Ok m)))
stops_at c m method (fault.Types func place) valid breach =
    stops c m method (fault.Types func place) (λ e. cc) valid breach
stops_at c m method (fault.Index func place) valid breach =
    stops c m method (fault.Index func place) (λ e. cc) valid breach
stops_at c m method (fault.Label func place) valid breach =
    stops c m method (fault.Label func place) (λ e. cc) valid breach
stops_at c m method (fault.Limit func place) valid breach =
    stops c m method (fault.Limit func place) (λ e. cc) valid breach
stops_at c m method (fault.Import func place) valid breach =
    stops c m method (fault.Import func place) (λ e. cc) valid breach
stops_at c m method fault.Memory valid breach = tt

-- ---- a module that is loaded, and is kept
pub runs_over : (pages : ℕ) (m v : Module) (r : Result (MachineView × ℕ) Refused) → v ≡ m
    → ((e : ValidFault) → IsFirstBreach pages m e → Gives {X = Module} fault.Memory (Ok v) (Err e))
    → IfOk r (λ found. found.0.program.code ≡ v) → IfOk r (RunsOver pages m)
runs_over pages m v (Err e) same breach h = tt
runs_over pages m v (Ok found) same breach h = (h ∙ same, passed pages m v breach)

pub loaded_over : (most pages : ℕ) (code : List ℕ) (m : Module) (r : Result (MachineView × ℕ) Refused)
    → decoded most code ≡ Ok m → IfOk r (RunsOver pages m)
    → IfOk r (λ found. IsLoaded most pages code found.0.program.code)
loaded_over most pages code m (Err e) is h = tt
loaded_over most pages code m (Ok found) is h = subst (IsLoaded most pages code) (sym h.0) (is, h.1)

pub loaded_in : (most pages : ℕ) (code : List ℕ) (m : Module) (r : Result (MachineView × ℕ) Refused)
    → IsLoaded most pages code m → IfOk r (λ found. found.0.program.code ≡ m)
    → IfOk r (λ found. IsLoaded most pages code found.0.program.code)
loaded_in most pages code m (Err e) l h = tt
loaded_in most pages code m (Ok found) l h = subst (IsLoaded most pages code) (sym h) l

-- what is loaded is prepared without a look at the code
pub prepares_loaded : (c : Config) (code method : List ℕ) (m : Module) (r : Result (MachineView × ℕ) Refused)
    → IsLoaded (max_code c) (max_pages c) code m
    → Prepares r (with_machine c (named m (method_of (program_of m) method))) → Prepares r (prepared c code method)
unfolding prepared
prepares_loaded c code method m r l h =
    subst (λ (d : Result Module DecodeFault). Prepares r (with_machine c (read c method d))) (sym l.0)
    (subst (λ (v : Result (Unit {0}) ValidFault). Prepares r (with_machine c (judged m method v))) (sym l.1) h)

-- a run leaves the machine's code as it was
pub still_loaded : (most pages : ℕ) (code copy : List ℕ) (p q : Program) (m : Module)
    → IsLoaded most pages code p.code → copy ≡ code → q ≡ p → m ≡ q.code → IsLoaded most pages copy m
still_loaded most pages code copy p q m l same kept is =
    subst (λ (x : List ℕ). IsLoaded most pages x m) (sym same)
    (subst (IsLoaded most pages code) (sym (is ∙ ap (λ (x : Program). x.code) kept)) l)
