-- The methods that are listed of a valid module are those that may be run.
use Rattle.std.proofs.Common.{◌≡◌, ℕ, suc, ◌+◌, ◌-◌, ◌≤◌, ◌&&◌, Bool, true, false, cond, List, [], ◌∷◌, ◌++◌, length}
use Rattle.std.proofs.Common.{Option, Some, None, refl, sym, ap, ◌∙◌, arith}
use Rattle.std.specs.Prelude.{IsSome, count_by, nat_le, nat_lt, option_and_then, slice_get}
use Rattle.std.specs.List.{cons_option}
use Rattle.std.proofs.lemmas.Bool.{le-leb, lt-leb, ltb-false, ltb-true}
use Rattle.std.proofs.lemmas.List.Sums.{sum_by-cons}
use Rattle.nr_wasmtypes.specs.Body.{Body}
use Rattle.nr_wasmtypes.specs.declared.module.FuncType.{FuncType}
use Rattle.nr_wasmtypes.specs.declared.module.Import.{Import}
use Rattle.nr_wasmtypes.specs.declared.module.ImportKind.{ImportKind}
use Rattle.nr_wasmtypes.specs.declared.module.ImportKind.TheVariants as imported
use Rattle.nr_wasmtypes.specs.declared.module.Module.{Module}
use Rattle.nr_wasmvalid.specs.Modules.{IsValid}
use Rattle.nr_wasmvalid.specs.Parts.{func_indices, imported_type, imported_types}
use Rattle.nr_wasmexec.proofs.Linked.{imports_linked, program_sound}
use Rattle.nr_wasmexec.specs.Functions.{Func, coded, func_at, host_func, hosted, links, own_func}
use Rattle.nr_wasmexec.specs.Making as making
use Rattle.nr_wasmexec.specs.Making.{program_of}
use Rattle.nr_wasmexec.specs.declared.program.HostLink.{HostLink}
use Rattle.nr_module.specs.Listing.{is_bare, is_function, is_method}

-- ---- how many functions are imported
one_counted : (kind : ImportKind) (n : ℕ) (ts : List ℕ) → n ≡ length ts
    → cond (is_function kind) 1 0 + n ≡ length (cons_option (imported_type kind) ts)
one_counted (imported.Func t) n ts e = omega (arith, e)
one_counted imported.Table n ts e = omega (arith, e)
one_counted imported.Memory n ts e = omega (arith, e)
one_counted imported.Global n ts e = omega (arith, e)

counted : (is : List Import) → count_by (λ (i : Import). is_function i.kind) is ≡ length (imported_types is)
counted [] = refl
counted (i ∷ is) =
    sum_by-cons (λ (i : Import). cond (is_function i.kind) 1 0) i is
    ∙ one_counted i.kind (count_by (λ (i : Import). is_function i.kind) is) (imported_types is) (counted is)

-- ---- the functions of a valid module
behind : {X : Type 0} (xs ys : List X) (k : ℕ) → slice_get (xs ++ ys) (length xs + k) ≡ slice_get ys k
behind [] ys k = ap (slice_get ys) (let e : 0 + k ≡ k = omega arith in e)
behind (x ∷ xs) ys k =
    ap (slice_get (x ∷ (xs ++ ys))) (let e : suc (length xs) + k ≡ suc (length xs + k) = omega arith in e)
    ∙ behind xs ys k

host_no : (types : List FuncType) (link : Option HostLink) → making.is_method (host_func types link) ≡ false
host_no types None = refl
host_no types (Some link) = by (slice_get types link.kind)
  where
    by : (sig : Option FuncType) → making.is_method (hosted sig link.name) ≡ false
    by None = refl
    by (Some sig) = refl

own_same : (sig : Option FuncType) (body : Option Body) → ((s : FuncType) → sig ≡ Some s → IsSome body)
    → is_bare sig ≡ making.is_method (coded sig body)
own_same None body there = refl
own_same (Some s) (Some b) there = refl
own_same (Some s) None there = absurd (cc (there s refl))

has_body : (s : FuncType) (body : Option Body) (func : Func) → coded (Some s) body ≡ Some func → IsSome body
has_body s None func e = absurd cc
has_body s (Some b) func e = refl

numbered : (types : List FuncType) (t : Option ℕ) (s : FuncType)
    → option_and_then (λ t. slice_get types t) t ≡ Some s → (n : ℕ) × (t ≡ Some n)
numbered types None s e = absurd cc
numbered types (Some n) s e = (n, refl)

module _ (pages : ℕ) (m : Module) (valid : IsValid pages m) where
  abbrev hosts : ℕ
  hosts = length (links m.imports)

  abbrev sig_at : ℕ → Option FuncType
  sig_at k = option_and_then (λ t. slice_get m.types t) (slice_get m.funcs k)

  hosts_are : hosts ≡ length (imported_types m.imports)
  hosts_are = (imports_linked pages m valid.parts).count

  body_there : (k : ℕ) → hosts ≤ k → nat_lt k hosts ≡ false → (s : FuncType) → sig_at (k - hosts) ≡ Some s
      → IsSome (slice_get m.bodies (k - hosts))
  body_there k high test s is =
      let t = numbered m.types (slice_get m.funcs (k - hosts)) s is in
      let at : k ≡ length (imported_types m.imports) + (k - hosts) = omega (arith, high, hosts_are) in
      let named : slice_get (func_indices m) k ≡ Some t.0 =
      ap (slice_get (func_indices m)) at ∙ behind (imported_types m.imports) m.funcs (k - hosts) ∙ t.1 in
      let found = (program_sound pages (program_of m) valid refl).there k t.0 named in
      let own : func_at (program_of m) k ≡ own_func m (k - hosts) =
      ap (λ b. cond b (host_func m.types (slice_get (links m.imports) k)) (own_func m (k - hosts))) test in
      has_body s (slice_get m.bodies (k - hosts)) found.0
      (ap (λ (o : Option FuncType). coded o (slice_get m.bodies (k - hosts))) (sym is) ∙ (sym own ∙ found.1))

  pub method_runs : (k : ℕ) → is_method m k ≡ making.is_method (func_at (program_of m) k)
  method_runs k =
      ap (λ n. nat_le n k && is_bare (sig_at (k - n))) (counted m.imports ∙ sym hosts_are) ∙ by (nat_lt k hosts) refl
    where
      by : (b : Bool) → nat_lt k hosts ≡ b
          → (nat_le hosts k && is_bare (sig_at (k - hosts)))
          ≡ making.is_method (cond b (host_func m.types (slice_get (links m.imports) k)) (own_func m (k - hosts)))
      by true test =
          ap (λ b. b && is_bare (sig_at (k - hosts))) (lt-leb hosts k (ltb-true k hosts test))
          ∙ sym (host_no m.types (slice_get (links m.imports) k))
      by false test =
          let high : hosts ≤ k = ltb-false k hosts test in
          ap (λ b. b && is_bare (sig_at (k - hosts))) (le-leb hosts k high)
          ∙ own_same (sig_at (k - hosts)) (slice_get m.bodies (k - hosts)) (body_there k high test)
