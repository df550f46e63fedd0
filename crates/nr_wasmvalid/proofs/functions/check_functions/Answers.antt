-- The goals of `functions::check_functions` that no tactic closes.
use Rattle.std.proofs.Common.{◌≡◌, ℕ, ◌+◌, ◌<◌, List, length, drop, get_or, Ok, Err, Result, sym, ap, subst, arith}
use Rattle.std.proofs.lemmas.List.{drop_all, get_or_default}
use Rattle.std.proofs.lemmas.Result.{err_from_is_err_and}
use Rattle.nr_wasmtypes.specs.Body.{Body}
use Rattle.nr_wasmtypes.specs.declared.module.Module.{Module}
use Rattle.nr_wasmvalid.specs.Verdict.{AreTyped, FuncsJudge}
use Rattle.nr_wasmvalid.specs.declared.fault.ValidFault.{ValidFault}
use Rattle.nr_wasmvalid.proofs.Whole.{has_type, as_many, judged_more, breaks_here}
use Rattle.nr_wasmvalid.proofs.functions.check_functions.Goals as goal

-- a body stands beside each function
beside : (m : Module) (ts : List ℕ) (bs : List Body) (k : ℕ) → ts ≡ m.funcs → bs ≡ m.bodies → length m.funcs ≡ length m.bodies → k < length ts → k < length bs
beside m ts bs k is at same h =
    let l : length ts ≡ length m.funcs = ap length is in
    let r : length bs ≡ length m.bodies = ap length at in
    omega (arith, l, r, same, h)

pub bounds-types-number : goal.bounds-types-number
bounds-types-number c =
    has_type c.requires.parts.0 c.args.module.now c.inner-types.result.now c.inner-numbers.result.now c.loop-index.index 0 c.inner-types.ensures c.inner-numbers.ensures c.requires.parts.1 (omega arith)

pub bounds-bodies-index : goal.bounds-bodies-index
bounds-bodies-index c =
    beside c.args.module.now c.inner-numbers.result.now c.inner-bodies.result.now c.loop-index.index c.inner-numbers.ensures c.inner-bodies.ensures (as_many c.requires.parts.0 c.args.module.now c.requires.parts.1) (omega arith)

pub offset_bounds-bodies-index : goal.offset_bounds-bodies-index
offset_bounds-bodies-index c =
    let h = beside c.args.module.now c.inner-numbers.result.now c.inner-bodies.result.now c.loop-index.index c.inner-numbers.ensures c.inner-bodies.ensures (as_many c.requires.parts.0 c.args.module.now c.requires.parts.1) (omega arith) in
    grind (arith, h)

pub loop-index-preserved : goal.loop-index-preserved
loop-index-preserved c = λ r rest.
    let m = c.args.module.now in
    let types = c.inner-types.result.now in
    let ts = c.inner-numbers.result.now in
    let bs = c.inner-bodies.result.now in
    let k = c.loop-index.index in
    let low : k < length ts = omega arith in
    let t = get_or ts k 0 in
    c.loop-index.invariant r
    (judged_more m (c.args.first + k) (c.args.first + (k + 1)) types ts bs k t c.index-bodies-index.result c.index-types-number.result (omega arith) c.inner-types.ensures low
    (beside m ts bs k c.inner-numbers.ensures c.inner-bodies.ensures (as_many c.requires.parts.0 m c.requires.parts.1) low) (get_or_default ts k 0 t low) c.index-bodies-index.is
    (has_type c.requires.parts.0 m types ts k 0 c.inner-types.ensures c.inner-numbers.ensures c.requires.parts.1 low) c.index-types-number.is c.in_ok-check_function.ensures r rest)

pub returns-in_err-check_function : goal.returns-in_err-check_function
returns-in_err-check_function c =
    let p = err_from_is_err_and c.from_residual.result c.from_residual.ensures.1 in
    let m = c.args.module.now in
    let types = c.inner-types.result.now in
    let ts = c.inner-numbers.result.now in
    let bs = c.inner-bodies.result.now in
    let k = c.loop-index.index in
    let low : k < length ts = omega arith in
    let t = get_or ts k 0 in
    let fails : Result (Unit {0}) ValidFault = Err c.in_err-check_function.field-0.0 in
    let all = c.loop-index.invariant fails
    (breaks_here m (c.args.first + k) types ts bs k t c.index-bodies-index.result c.index-types-number.result c.in_err-check_function.field-0.0 c.inner-types.ensures low
    (beside m ts bs k c.inner-numbers.ensures c.inner-bodies.ensures (as_many c.requires.parts.0 m c.requires.parts.1) low) (get_or_default ts k 0 t low) c.index-bodies-index.is
    (has_type c.requires.parts.0 m types ts k 0 c.inner-types.ensures c.inner-numbers.ensures c.requires.parts.1 low) c.index-types-number.is c.in_err-check_function.ensures) in
    rw (p.1, p.2)
    (subst (λ (us : List ℕ). FuncsJudge m c.args.first us m.bodies fails) c.inner-numbers.ensures
    (subst (λ (ys : List Body). FuncsJudge m c.args.first ts ys fails) c.inner-bodies.ensures all))

pub returns : goal.returns
returns c =
    let m = c.args.module.now in
    let ts = c.inner-numbers.result.now in
    let bs = c.inner-bodies.result.now in
    let k = c.loop-index.index in
    let none_left : AreTyped m (drop k ts) (drop k bs) =
    subst (λ (us : List ℕ). AreTyped m us (drop k bs)) (sym (drop_all k ts (omega arith))) tt in
    subst (λ (us : List ℕ). AreTyped m us m.bodies) c.inner-numbers.ensures
    (subst (λ (ys : List Body). AreTyped m ts ys) c.inner-bodies.ensures (c.loop-index.invariant (Ok tt) none_left))
