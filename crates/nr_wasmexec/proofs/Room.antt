-- A quiet instruction leaves at most one operand more, and no frame more.
use Rattle.std.proofs.Common.{◌≡◌, ℕ, zero, suc, ◌+◌, ◌<◌, ◌≤◌, Bool, true, false, cond, List, [], ◌∷◌, ◌++◌, length, take, Option, Some, None, Result, Ok, Err, Vec, Box, Global, nat_lt, refl, sym, ◌∙◌, subst, arith, length-append, length-take}
use Rattle.std.specs.Prelude.{◌==◌, ◌%◌, ◌^◌, ◌||◌, if◌then◌else◌, slice_get, slice_set}
use Rattle.std.proofs.lemmas.List.{length-set}
use Rattle.nr_wasmtypes.specs.Code.{Code, End, Then, Block, Loop, Choice, after, put}
use Rattle.nr_wasmtypes.specs.Tables.{arity_of}
use Rattle.nr_wasmtypes.specs.declared.instr.Instr.{Instr}
use Rattle.nr_wasmtypes.specs.declared.instr.Instr.TheVariants as instr
use Rattle.nr_wasmtypes.specs.declared.instr.ValType.{ValType}
use Rattle.nr_wasmtypes.specs.declared.instr.Plain.{Plain as Op}
use Rattle.nr_wasmtypes.specs.declared.instr.Plain.TheVariants as op
use Rattle.nr_wasmtypes.proofs.Levels.{put_plain, put_block, put_loop, put_if}
use Rattle.nr_wasmnum.specs.Integers.{arith_of, compare_of, zero_test_of, bit_count_of, convert_of, load_of}
use Rattle.nr_wasmnum.specs.declared.fault.NumFault.{NumFault}
use Rattle.nr_wasmnum.specs.declared.fault.NumFault.TheVariants.{ByZero, Overflow}
use Rattle.nr_wasmmem.specs.Bytes.{MemoryView, width_of_load, width_of_store, number_in, number_over, grown}
use Rattle.nr_wasmmem.specs.declared.guest.Guest.{Guest}
use Rattle.nr_wasmexec.specs.declared.stop.Stop.{Stop}
use Rattle.nr_wasmexec.specs.declared.program.Program.{Program}
use Rattle.nr_wasmexec.specs.Reduction.{Effect, Goes, Writes, Opens, Invokes, Asks, Branches, Returns, Traps, Stuck}
use Rattle.nr_wasmexec.specs.Reduction.{on_top, on_two, on_three, with_value, computed, place_at, read, written, grows}
use Rattle.nr_wasmexec.specs.Reduction.{chosen, plain_effect, effect, frames_of, values_of}
use Rattle.nr_wasmexec.specs.Place.{Context, InLabel, InFrame, Place, whole_of, onward, branched, returned, arrived, At}
use Rattle.nr_wasmexec.specs.Place.{moved, frames_in, held_in}
use Rattle.nr_wasmexec.specs.Machine.{is_too_large_at}
use Rattle.nr_wasmexec.specs.Rows.{next_move, holds, IsNoCall, BeginsNoCall, RanNoCall, PassedNoCall}
use Rattle.nr_wasmexec.proofs.Turning.{frames_at, held_at}

-- ---- where an effect leads
-- an effect on so many locals and operands that adds at most one operand, and makes no frame
abbrev IsLight : ℕ → ℕ → Effect → Type 0
IsLight locals values (Goes own left) = (length own ≡ locals) × (length left ≤ values + 1)
IsLight locals values (Writes guest left) = Unit {0}
IsLight locals values (Opens left arity again body) = length left ≤ values
IsLight locals values (Invokes left arity own body) = ⊥
IsLight locals values (Asks name args left) = Unit {0}
IsLight locals values (Branches depth left) = length left ≤ values
IsLight locals values (Returns left) = length left ≤ values
IsLight locals values (Traps kind) = Unit {0}
IsLight locals values Stuck = Unit {0}

-- no more frames than those, and no more operands and locals than so many
abbrev Within : ℕ → ℕ → Place → Type 0
Within frames held r = (frames_in r.contexts ≤ frames) × (holds r ≤ held)

at_is : (q r : Place) → At q ≡ At r → q ≡ r
at_is q r e = cc

front_short : (n : ℕ) (xs ys : List ℕ) → length (take n xs ++ ys) ≤ length xs + length ys
front_short n xs ys = simp (length-append, length-take) (omega arith)

onward_light : (n : ℕ) (inner values locals : List ℕ) (code : Code) (around : List Context) (r : Place) → arrived (onward n inner values locals code around) ≡ At r → Within (frames_in around) (held_in around + length locals + length inner + length values) r
onward_light n inner values locals code around r e = by_size (nat_lt (length inner) n) e
  where
    by_size : (b : Bool) → arrived (cond {A = Option Place} b None (Some (record { values = take n inner ++ values; code = code; locals = locals; contexts = around }))) ≡ At r → Within (frames_in around) (held_in around + length locals + length inner + length values) r
    by_size true e = cc
    by_size false e =
        let short : length (take n inner ++ values) ≤ length inner + length values = front_short n inner values in
        subst (λ (r : Place). Within (frames_in around) (held_in around + length locals + length inner + length values) r) (at_is _ r e) (omega arith, omega (arith, short))

branch_light : (depth : ℕ) (inner locals : List ℕ) (cs : List Context) (r : Place) → arrived (branched depth inner locals cs) ≡ At r → Within (frames_in cs) (held_in cs + length locals + length inner) r
branch_light depth inner locals [] r e = cc
branch_light zero inner locals (InLabel values n again code ∷ around) r e =
    let there = onward_light n inner values locals again around r e in
    (omega (arith, there.0), omega (arith, there.1))
branch_light zero inner locals (InFrame values n outer code ∷ around) r e =
    let there = onward_light n inner values outer code around r e in
    (omega (arith, there.0), omega (arith, there.1))
branch_light (suc depth) inner locals (InLabel values n again code ∷ around) r e =
    let there = branch_light depth inner locals around r e in
    (omega (arith, there.0), omega (arith, there.1))
branch_light (suc depth) inner locals (InFrame values n outer code ∷ around) r e = cc

return_light : (inner locals : List ℕ) (cs : List Context) (r : Place) → arrived (returned inner locals cs) ≡ At r → Within (frames_in cs) (held_in cs + length locals + length inner) r
return_light inner locals [] r e = cc
return_light inner locals (InLabel values n again code ∷ around) r e =
    let there = return_light inner locals around r e in
    (omega (arith, there.0), omega (arith, there.1))
return_light inner locals (InFrame values n outer code ∷ around) r e =
    let there = onward_light n inner values outer code around r e in
    (omega (arith, there.0), omega (arith, there.1))

light_leads : (locals : List ℕ) (values : ℕ) (code : Code) (cs : List Context) (e : Effect) (r : Place) → IsLight (length locals) values e → moved locals code cs e ≡ At r → Within (frames_in cs) (held_in cs + length locals + values + 1) r
light_leads locals values code cs (Goes own left) r light e =
    let same : length own ≡ length locals = light.0 in
    let few : length left ≤ values + 1 = light.1 in
    subst (λ (r : Place). Within (frames_in cs) (held_in cs + length locals + values + 1) r) (at_is _ r e) (omega arith, omega (arith, same, few))
light_leads locals values code cs (Writes guest left) r light e = cc
light_leads locals values code cs (Opens left n again body) r light e =
    let few : length left ≤ values = light in
    subst (λ (r : Place). Within (frames_in cs) (held_in cs + length locals + values + 1) r) (at_is _ r e) (omega arith, omega (arith, few))
light_leads locals values code cs (Invokes left n own body) r light e = absurd light
light_leads locals values code cs (Asks name args left) r light e = cc
light_leads locals values code cs (Branches depth left) r light e =
    let few : length left ≤ values = light in
    let there = branch_light depth left locals cs r e in
    (there.0, omega (arith, there.1, few))
light_leads locals values code cs (Returns left) r light e =
    let few : length left ≤ values = light in
    let there = return_light left locals cs r e in
    (there.0, omega (arith, there.1, few))
light_leads locals values code cs (Traps kind) r light e = cc
light_leads locals values code cs Stuck r light e = cc

-- ---- each instruction
module _ (l n : ℕ) where
  if_light : (b : Bool) (one other : Effect) → IsLight l n one → IsLight l n other → IsLight l n (cond b one other)
  if_light true one other h k = h
  if_light false one other h k = k

  top_light : (values : List ℕ) (go : ℕ → List ℕ → Effect) → ((v : ℕ) (rest : List ℕ) → length values ≡ length rest + 1 → IsLight l n (go v rest)) → IsLight l n (on_top values go)
  top_light [] go h = tt
  top_light (x ∷ values) go h = h x values (omega arith)

  two_light : (values : List ℕ) (go : ℕ → ℕ → List ℕ → Effect) → ((u v : ℕ) (rest : List ℕ) → length values ≡ length rest + 2 → IsLight l n (go u v rest)) → IsLight l n (on_two values go)
  two_light [] go h = tt
  two_light (y ∷ []) go h = tt
  two_light (y ∷ x ∷ values) go h = h x y values (omega arith)

  three_light : (values : List ℕ) (go : ℕ → ℕ → ℕ → List ℕ → Effect) → ((u v w : ℕ) (rest : List ℕ) → length values ≡ length rest + 3 → IsLight l n (go u v w rest)) → IsLight l n (on_three values go)
  three_light [] go h = tt
  three_light (z ∷ []) go h = tt
  three_light (z ∷ y ∷ []) go h = tt
  three_light (z ∷ y ∷ x ∷ values) go h = h x y z values (omega arith)

  value_light : (o : Option ℕ) (go : ℕ → Effect) → ((v : ℕ) → IsLight l n (go v)) → IsLight l n (with_value o go)
  value_light None go h = tt
  value_light (Some v) go h = h v

  computed_light : (r : Result ℕ NumFault) (go : ℕ → Effect) → ((v : ℕ) → IsLight l n (go v)) → IsLight l n (computed r go)
  computed_light (Ok v) go h = h v
  computed_light (Err ByZero) go h = tt
  computed_light (Err Overflow) go h = tt

  read_light : (o : Option ℕ) (go : ℕ → Effect) → ((v : ℕ) → IsLight l n (go v)) → IsLight l n (read o go)
  read_light None go h = tt
  read_light (Some v) go h = h v

  written_light : (guest : Guest) (o : Option (List ℕ)) (values : List ℕ) → IsLight l n (written guest o values)
  written_light guest None values = tt
  written_light guest (Some bytes) values = tt

  grows_light : (guest : Guest) (o : Option MemoryView) (values : List ℕ) → IsLight l n (grows guest o values)
  grows_light guest None values = tt
  grows_light guest (Some memory) values = tt

module _ (p : Program) (guest : Guest) (locals values : List ℕ) where
  abbrev Light : Effect → Type 0
  Light e = IsLight (length locals) (length values) e

  plain_light : (o : Op) → IsNoCall o → Light (plain_effect p guest locals values o)
  plain_light op.Unreachable calm = tt
  plain_light op.Nop calm = (refl, omega arith)
  plain_light (op.Br depth) calm = omega arith
  plain_light (op.BrIf depth) calm =
      top_light (length locals) (length values) values (λ v rest. if v == 0 then Goes locals rest else Branches depth rest)
      (λ v rest e. if_light (length locals) (length values) (v == 0) (Goes locals rest) (Branches depth rest) (refl, omega (arith, e)) (omega (arith, e)))
  plain_light (op.BrTable table) calm =
      top_light (length locals) (length values) values (λ v rest. Branches (chosen (slice_get table.0 v) table.1) rest)
      (λ v rest e. omega (arith, e))
  plain_light op.Return calm = omega arith
  plain_light (op.Call f) calm = absurd calm
  plain_light (op.CallIndirect t) calm = absurd calm
  plain_light op.Drop calm =
      top_light (length locals) (length values) values (λ v rest. Goes locals rest) (λ v rest e. (refl, omega (arith, e)))
  plain_light op.Select calm =
      three_light (length locals) (length values) values (λ x y v rest. Goes locals ((if v == 0 then y else x) ∷ rest))
      (λ x y v rest e. (refl, omega (arith, e)))
  plain_light (op.LocalGet n) calm =
      value_light (length locals) (length values) (slice_get locals n) (λ v. Goes locals (v ∷ values)) (λ v. (refl, omega arith))
  plain_light (op.LocalSet n) calm =
      top_light (length locals) (length values) values
      (λ v rest. if nat_lt n (length locals) then Goes (slice_set locals n v) rest else Stuck)
      (λ v rest e. if_light (length locals) (length values) (nat_lt n (length locals)) (Goes (slice_set locals n v) rest) Stuck (length-set locals n v, omega (arith, e)) tt)
  plain_light (op.LocalTee n) calm =
      top_light (length locals) (length values) values
      (λ v rest. if nat_lt n (length locals) then Goes (slice_set locals n v) values else Stuck)
      (λ v rest e. if_light (length locals) (length values) (nat_lt n (length locals)) (Goes (slice_set locals n v) values) Stuck (length-set locals n v, omega arith) tt)
  plain_light (op.GlobalGet n) calm =
      value_light (length locals) (length values) (slice_get guest.globals n) (λ v. Goes locals (v ∷ values)) (λ v. (refl, omega arith))
  plain_light (op.GlobalSet n) calm =
      top_light (length locals) (length values) values
      (λ v rest. if nat_lt n (length guest.globals) then Writes (record guest { globals = slice_set guest.globals n v }) rest else Stuck)
      (λ v rest e. if_light (length locals) (length values) (nat_lt n (length guest.globals)) (Writes (record guest { globals = slice_set guest.globals n v }) rest) Stuck tt tt)
  plain_light (op.Load what align offset) calm =
      top_light (length locals) (length values) values
      (λ base rest. read (number_in guest.memory.bytes (place_at base offset) (width_of_load what)) (λ v. Goes locals (load_of what v ∷ rest)))
      (λ base rest e. read_light (length locals) (length values) (number_in guest.memory.bytes (place_at base offset) (width_of_load what)) (λ v. Goes locals (load_of what v ∷ rest)) (λ v. (refl, omega (arith, e))))
  plain_light (op.Store what align offset) calm =
      two_light (length locals) (length values) values
      (λ base v rest. written guest (number_over guest.memory.bytes (place_at base offset) (width_of_store what) v) rest)
      (λ base v rest e. written_light (length locals) (length values) guest (number_over guest.memory.bytes (place_at base offset) (width_of_store what) v) rest)
  plain_light op.MemorySize calm = (refl, omega arith)
  plain_light op.MemoryGrow calm =
      top_light (length locals) (length values) values (λ v rest. grows guest (grown guest.memory (v % 2 ^ 32)) rest)
      (λ v rest e. grows_light (length locals) (length values) guest (grown guest.memory (v % 2 ^ 32)) rest)
  plain_light (op.Const32 n) calm = (refl, omega arith)
  plain_light (op.Const64 n) calm = (refl, omega arith)
  plain_light (op.IsZero t) calm =
      top_light (length locals) (length values) values (λ v rest. Goes locals (zero_test_of t v ∷ rest)) (λ v rest e. (refl, omega (arith, e)))
  plain_light (op.Count t how) calm =
      top_light (length locals) (length values) values (λ v rest. Goes locals (bit_count_of t how v ∷ rest)) (λ v rest e. (refl, omega (arith, e)))
  plain_light (op.Compare t how) calm =
      two_light (length locals) (length values) values (λ x y rest. Goes locals (compare_of t how x y ∷ rest)) (λ x y rest e. (refl, omega (arith, e)))
  plain_light (op.Arith t how) calm =
      two_light (length locals) (length values) values (λ x y rest. computed (arith_of t how x y) (λ v. Goes locals (v ∷ rest)))
      (λ x y rest e. computed_light (length locals) (length values) (arith_of t how x y) (λ v. Goes locals (v ∷ rest)) (λ v. (refl, omega (arith, e))))
  plain_light (op.Convert how) calm =
      top_light (length locals) (length values) values (λ v rest. Goes locals (convert_of how v ∷ rest)) (λ v rest e. (refl, omega (arith, e)))

  code_light : (code : Code) → BeginsNoCall code → Light (effect p guest locals values code)
  code_light End calm = tt
  code_light (Then o rest) calm = plain_light o calm
  code_light (Block ty body rest) calm = omega arith
  code_light (Loop ty body rest) calm = omega arith
  code_light (Choice ty first other rest) calm =
      top_light (length locals) (length values) values (λ v below. Opens below (arity_of ty) rest (if v == 0 then other else first))
      (λ v below e. omega (arith, e))

quiet_holds : (p : Program) (guest : Guest) (q r : Place) → BeginsNoCall q.code → next_move p guest q ≡ At r → Within (frames_in q.contexts) (holds q + 1) r
quiet_holds p guest q r calm e =
    light_leads q.locals (length q.values) (after q.code) q.contexts (effect p guest q.locals q.values q.code) r (code_light p guest q.locals q.values q.code calm) e

-- ---- in a row
-- no more frames than at the start, and no more operands than one for each instruction
abbrev pub KeepsRoom : Place → ℕ → Place → Type 0
KeepsRoom p n q = (frames_in q.contexts ≤ frames_in p.contexts) × (holds q ≤ holds p + n)

pub keeps_none : (p : Place) → KeepsRoom p 0 p
keeps_none p = (omega arith, omega arith)

pub keeps_more : (program : Program) (guest : Guest) (p q r : Place) (n : ℕ) → KeepsRoom p n q → BeginsNoCall q.code → next_move program guest q ≡ At r → KeepsRoom p (n + 1) r
keeps_more program guest p q r n so_far calm e =
    let next = quiet_holds program guest q r calm e in
    (omega (arith, so_far.0, next.0), omega (arith, so_far.1, next.1))

not_above : (a b : ℕ) → b ≤ a → nat_lt a b ≡ false
not_above a b le = grind (arith)

either_none : (a b : Bool) → a ≡ false → b ≡ false → (a || b) ≡ false
either_none a b e f = rw (e, f) refl

pub not_large : (frames values : ℕ) (p q : Place) (fit n : ℕ) → (0 < fit → frames_in p.contexts ≤ frames) → (0 < fit → holds p + fit ≤ values) → n < fit → KeepsRoom p n q → is_too_large_at frames values q ≡ false
not_large frames values p q fit n few small lt keeps =
    let some : 0 < fit = omega (arith, lt) in
    let deep : frames_in p.contexts ≤ frames = few some in
    let room : holds p + fit ≤ values = small some in
    let frames_now : frames_of (whole_of q).1 ≤ frames = omega (arith, frames_at q, deep, keeps.0) in
    let held_now : values_of (whole_of q).1 + length (whole_of q).0 ≤ values = omega (arith, held_at q, room, keeps.1, lt) in
    either_none (nat_lt frames (frames_of (whole_of q).1)) (nat_lt values (values_of (whole_of q).1 + length (whole_of q).0))
    (not_above frames (frames_of (whole_of q).1) frames_now) (not_above values (values_of (whole_of q).1 + length (whole_of q).0) held_now)

-- ---- no call was run
pub plain_passed : (o : Option (Result (Unit {0}) Stop)) (code : Code) (i : Instr) (p : Op) → code ≡ put i (after code) → i ≡ instr.Plain p → RanNoCall o p → PassedNoCall o code
plain_passed None code i p e f calm = tt
plain_passed (Some done) code i p e f calm = subst BeginsNoCall (sym (e ∙ put_plain i p (after code) f)) calm

pub block_passed : (code : Code) (i : Instr) (ty : Option ValType) (body : Box (Vec Instr Global) Global) → code ≡ put i (after code) → i ≡ instr.Block ty body → BeginsNoCall code
block_passed code i ty body e f = subst BeginsNoCall (sym (e ∙ put_block i ty body (after code) f)) tt

pub loop_passed : (code : Code) (i : Instr) (ty : Option ValType) (body : Box (Vec Instr Global) Global) → code ≡ put i (after code) → i ≡ instr.Loop ty body → BeginsNoCall code
loop_passed code i ty body e f = subst BeginsNoCall (sym (e ∙ put_loop i ty body (after code) f)) tt

pub choice_passed : (code : Code) (i : Instr) (ty : Option ValType) (arms : Box (Vec Instr Global × Vec Instr Global) Global) → code ≡ put i (after code) → i ≡ instr.If ty arms → BeginsNoCall code
choice_passed code i ty arms e f = subst BeginsNoCall (sym (e ∙ put_if i ty arms (after code) f)) tt
