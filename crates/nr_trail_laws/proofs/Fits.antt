-- Where an instruction leads in the code is what its effect does.
use Rattle.std.proofs.Common.{◌≡◌, ℕ, ◌==◌, Bool, true, false, cond, List, [], ◌∷◌, ◌++◌, length, replicate, Option, Some, None, Result, Ok, Err, nat_lt, refl}
use Rattle.std.specs.Prelude.{reverse, take, drop, slice_get}
use Rattle.nr_wasmtypes.specs.declared.instr.Plain.{Plain as Op}
use Rattle.nr_wasmtypes.specs.declared.instr.Plain.TheVariants as op
use Rattle.nr_wasmtypes.specs.declared.module.FuncType.{FuncType}
use Rattle.nr_wasmtypes.specs.Body.{Body}
use Rattle.nr_wasmtypes.specs.Code.{Code}
use Rattle.nr_wasmtypes.specs.Host.{host_type}
use Rattle.nr_wasmtypes.specs.Tables.{arity_of}
use Rattle.nr_wasmvalid.specs.Parts.{same_sig}
use Rattle.nr_wasmnum.specs.declared.fault.NumFault.{NumFault}
use Rattle.nr_wasmnum.specs.declared.fault.NumFault.TheVariants.{ByZero, Overflow}
use Rattle.nr_wasmmem.specs.declared.guest.Guest.{Guest}
use Rattle.nr_wasmmem.specs.Bytes.{MemoryView, number_in, width_of_load}
use Rattle.nr_wasmnum.specs.Integers.{arith_of, load_of}
use Rattle.nr_wasmexec.specs.Functions.{Func, Hosted, Coded, sig_of, func_at}
use Rattle.nr_wasmexec.specs.Reduction.{Effect, Goes, Writes, Opens, Invokes, Asks, Branches, Returns, Traps, Stuck}
use Rattle.nr_wasmexec.specs.Reduction.{on_top, on_two, on_three, with_value, computed, read, written, grows, place_at, called, called_as, called_at, plain_effect}
use Rattle.nr_trace.specs.Trail.{call_way, plain_way, table_way, top}
use Rattle.nr_wasmexec.specs.declared.program.Program.{Program}
use Rattle.nr_trace.specs.declared.trail.Way.{Way}
use Rattle.nr_trace.specs.declared.trail.Way.TheVariants as leads

-- the function has this code
abbrev pub IsCode : Program → ℕ → Code → Type 0
IsCode p f code = (sig : FuncType) × (body : Body) × (func_at p f ≡ Some (Coded sig body)) × (code ≡ body.code)

abbrev pub Fits : Program → Way → Effect → Type 0
Fits p w (Goes locals values) = w ≡ leads.On
Fits p w (Writes guest values) = w ≡ leads.On
Fits p w (Opens values n target body) = ⊥
Fits p w (Invokes values n own body) = (f : ℕ) × (w ≡ leads.Call f) × IsCode p f body
Fits p w (Asks name args values) = w ≡ leads.On
Fits p w (Branches depth values) = w ≡ leads.Branch depth
Fits p w (Returns values) = w ≡ leads.Return
Fits p w (Traps kind) = Unit {0}
Fits p w Stuck = Unit {0}

module _ (p : Program) where
  -- ---- what stays in the sequence
  top_on : (values : List ℕ) (go : ℕ → List ℕ → Effect) → ((v : ℕ) (rest : List ℕ) → Fits p leads.On (go v rest)) → Fits p leads.On (on_top values go)
  top_on [] go h = tt
  top_on (v ∷ values) go h = h v values

  two_on : (values : List ℕ) (go : ℕ → ℕ → List ℕ → Effect) → ((x y : ℕ) (rest : List ℕ) → Fits p leads.On (go x y rest)) → Fits p leads.On (on_two values go)
  two_on [] go h = tt
  two_on (y ∷ []) go h = tt
  two_on (y ∷ x ∷ values) go h = h x y values

  three_on : (values : List ℕ) (go : ℕ → ℕ → ℕ → List ℕ → Effect) → ((x y z : ℕ) (rest : List ℕ) → Fits p leads.On (go x y z rest)) → Fits p leads.On (on_three values go)
  three_on [] go h = tt
  three_on (z ∷ []) go h = tt
  three_on (z ∷ y ∷ []) go h = tt
  three_on (z ∷ y ∷ x ∷ values) go h = h x y z values

  value_on : (o : Option ℕ) (go : ℕ → Effect) → ((v : ℕ) → Fits p leads.On (go v)) → Fits p leads.On (with_value o go)
  value_on None go h = tt
  value_on (Some v) go h = h v

  computed_on : (r : Result ℕ NumFault) (go : ℕ → Effect) → ((v : ℕ) → Fits p leads.On (go v)) → Fits p leads.On (computed r go)
  computed_on (Ok v) go h = h v
  computed_on (Err ByZero) go h = tt
  computed_on (Err Overflow) go h = tt

  read_on : (o : Option ℕ) (go : ℕ → Effect) → ((v : ℕ) → Fits p leads.On (go v)) → Fits p leads.On (read o go)
  read_on None go h = tt
  read_on (Some v) go h = h v

  written_on : (guest : Guest) (o : Option (List ℕ)) (values : List ℕ) → Fits p leads.On (written guest o values)
  written_on guest None values = tt
  written_on guest (Some bytes) values = refl

  grows_on : (guest : Guest) (o : Option MemoryView) (values : List ℕ) → Fits p leads.On (grows guest o values)
  grows_on guest None values = refl
  grows_on guest (Some memory) values = refl

  -- by a test: it goes on, or no rule fits
  tested_on : (b : Bool) (e : Effect) → Fits p leads.On e → Fits p leads.On (cond b e Stuck)
  tested_on true e h = h
  tested_on false e h = tt

  -- ---- calls
  asks_on : (b : Bool) (w : Way) (e : Effect) → Fits p w e → Fits p w (cond b Stuck e)
  asks_on true w e h = tt
  asks_on false w e h = h

  called_fits : (f : ℕ) (values : List ℕ) (func : Option Func) → func_at p f ≡ func → Fits p (call_way func f) (called values func)
  called_fits f values None e = tt
  called_fits f values (Some (Hosted sig name)) e =
      let params = length (host_type name).params in
      asks_on (nat_lt (length values) params) leads.On (Asks name (reverse (take params values)) (drop params values)) refl
  called_fits f values (Some (Coded sig body)) e =
      asks_on (nat_lt (length values) (length sig.params)) (leads.Call f) (Invokes (drop (length sig.params) values) (arity_of sig.result) (reverse (take (length sig.params) values) ++ replicate (length body.locals) 0) body.code) (f, refl, (sig, body, e, refl))

  typed_fits : (f : ℕ) (values : List ℕ) (sig : Option FuncType) (func : Option Func) → func_at p f ≡ func → Fits p (call_way func f) (called_as values sig func)
  typed_fits f values None func e = tt
  typed_fits f values (Some sig) None e = tt
  typed_fits f values (Some sig) (Some func) e = by (same_sig sig (sig_of func))
    where
      by : (b : Bool) → Fits p (call_way (Some func) f) (cond b (called values (Some func)) (Traps 7))
      by true = called_fits f values (Some func) e
      by false = tt

  table_fits : (values : List ℕ) (t : ℕ) (o : Option (Option ℕ)) → Fits p (table_way p o) (called_at p values t o)
  table_fits values t None = tt
  table_fits values t (Some None) = tt
  table_fits values t (Some (Some f)) = typed_fits f values (slice_get p.code.types t) (func_at p f) refl

  -- ---- each instruction
  branch_fits : (b : Bool) (depth : ℕ) (locals rest : List ℕ) → Fits p (cond b leads.On (leads.Branch depth)) (cond b (Goes locals rest) (Branches depth rest))
  branch_fits true depth locals rest = refl
  branch_fits false depth locals rest = refl

  pub plain_fits : (guest : Guest) (locals values : List ℕ) (o : Op) → Fits p (plain_way p guest (top values) o) (plain_effect p guest locals values o)
  plain_fits guest locals values op.Unreachable = tt
  plain_fits guest locals values op.Nop = refl
  plain_fits guest locals values (op.Br depth) = refl
  plain_fits guest locals [] (op.BrIf depth) = tt
  plain_fits guest locals (v ∷ values) (op.BrIf depth) = branch_fits (v == 0) depth locals values
  plain_fits guest locals [] (op.BrTable table) = tt
  plain_fits guest locals (v ∷ values) (op.BrTable table) = refl
  plain_fits guest locals values op.Return = refl
  plain_fits guest locals values (op.Call f) = called_fits f values (func_at p f) refl
  plain_fits guest locals [] (op.CallIndirect t) = tt
  plain_fits guest locals (v ∷ values) (op.CallIndirect t) = table_fits values t (slice_get guest.table v)
  plain_fits guest locals values op.Drop = top_on values _ (λ v rest. refl)
  plain_fits guest locals values op.Select = three_on values _ (λ x y v rest. refl)
  plain_fits guest locals values (op.LocalGet n) = value_on (slice_get locals n) _ (λ v. refl)
  plain_fits guest locals values (op.LocalSet n) = top_on values _ (λ v rest. tested_on (nat_lt n (length locals)) (Goes _ rest) refl)
  plain_fits guest locals values (op.LocalTee n) = top_on values _ (λ v rest. tested_on (nat_lt n (length locals)) (Goes _ values) refl)
  plain_fits guest locals values (op.GlobalGet n) = value_on (slice_get guest.globals n) _ (λ v. refl)
  plain_fits guest locals values (op.GlobalSet n) = top_on values _ (λ v rest. tested_on (nat_lt n (length guest.globals)) (Writes _ rest) refl)
  plain_fits guest locals values (op.Load what align offset) =
      top_on values _ (λ at rest. read_on (number_in guest.memory.bytes (place_at at offset) (width_of_load what)) (λ v. Goes locals (load_of what v ∷ rest)) (λ v. refl))
  plain_fits guest locals values (op.Store what align offset) = two_on values _ (λ at v rest. written_on guest _ rest)
  plain_fits guest locals values op.MemorySize = refl
  plain_fits guest locals values op.MemoryGrow = top_on values _ (λ v rest. grows_on guest _ rest)
  plain_fits guest locals values (op.Const32 n) = refl
  plain_fits guest locals values (op.Const64 n) = refl
  plain_fits guest locals values (op.IsZero t) = top_on values _ (λ v rest. refl)
  plain_fits guest locals values (op.Count t how) = top_on values _ (λ v rest. refl)
  plain_fits guest locals values (op.Compare t how) = two_on values _ (λ x y rest. refl)
  plain_fits guest locals values (op.Arith t how) =
      two_on values _ (λ x y rest. computed_on (arith_of t how x y) (λ v. Goes locals (v ∷ rest)) (λ v. refl))
  plain_fits guest locals values (op.Convert how) = top_on values _ (λ v rest. refl)
