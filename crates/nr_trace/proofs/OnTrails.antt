-- The trail of a run, a step at a time, and what its place counts.
use Rattle.std.proofs.Common.{◌≡◌, ℕ, suc, ◌+◌, Bool, true, false, List, [], ◌∷◌, length, take, Option, Result, Ok, Err, IfOk, Vec, Box, Global, refl, sym, ap, ◌∙◌, subst, arith}
use Rattle.std.specs.Prelude.{min, reverse}
use Rattle.std.proofs.lemmas.Result.{IfOk-weaker}
use Rattle.nr_wasmtypes.specs.declared.instr.Instr.{Instr}
use Rattle.nr_wasmtypes.specs.declared.instr.Instr.TheVariants as instr
use Rattle.nr_wasmtypes.specs.declared.instr.Plain.{Plain as Op}
use Rattle.nr_wasmtypes.specs.declared.instr.ValType.{ValType}
use Rattle.nr_wasmtypes.specs.Code.{Code, after, code_of, count_of, put}
use Rattle.nr_wasmtypes.proofs.Levels.{put_plain, put_block, put_loop, put_if_at}
use Rattle.nr_wasmmem.specs.Meaning.{HostMeaning}
use Rattle.nr_wasmmem.specs.declared.guest.Guest.{Guest}
use Rattle.nr_wasmexec.specs.declared.stop.Stop.{Stop}
use Rattle.nr_wasmexec.specs.declared.stop.Stop.TheVariants as stop
use Rattle.nr_trace.specs.declared.trail.TraceStop.{TraceStop}
use Rattle.nr_trace.specs.declared.trail.TraceStop.TheVariants as trace
use Rattle.nr_wasmexec.specs.declared.program.Limits.{Limits}
use Rattle.nr_wasmexec.specs.declared.program.Program.{Program}
use Rattle.nr_wasmexec.specs.Machine.{Turns, config_of, is_too_large_at, rules_of, run_at, runtime}
use Rattle.nr_wasmexec.specs.Place.{Context, InLabel, InFrame, Place, plugged, whole_of}
use Rattle.nr_wasmexec.specs.Reduction.{Seq, Plain, Label, Frame, Trap, To, Stopping, Runtime, Rules, Outcome, Halted, run_by, stepped}
use Rattle.nr_trace.specs.Tracing.{EndsAt, IsPlaced, Looks, Traces, Tracks, trail_at}
use Rattle.nr_trace.specs.Trail.{Trail, inner_of, looked, looked_in, place_in, second_of, top, trail_by}
use Rattle.nr_wasmexec.proofs.Turning.{dead, stops}

-- ---- the topmost operand
-- one operand is there, or none
pub least_top : (vs : List ℕ) (n k : ℕ) → n ≡ length vs → k ≡ min n 1 → top (reverse (take k vs)) ≡ top vs
least_top [] n k e f = let none : k ≡ 0 = omega (arith, e, f) in rw none refl
least_top (v ∷ vs) n k e f = let one : k ≡ 1 = omega (arith, e, f) in rw one refl

-- ---- what is innermost at a place
inner_inside : (cs : List Context) (locals : List ℕ) (seq : Seq) → inner_of (plugged cs locals seq).1 ≡ inner_of seq
inner_inside [] locals seq = refl
inner_inside (InLabel values n again code ∷ around) locals seq =
    inner_inside around locals (Label values n again seq code)
inner_inside (InFrame values n outer code ∷ around) locals seq =
    inner_inside around outer (Frame values n locals seq code)

inner_whole : (p : Place) → inner_of (whole_of p).1 ≡ (p.values, p.code)
inner_whole p = inner_inside p.contexts p.locals (Plain p.values p.code)

-- ---- a step
module _ {S : Type 0} (w : Rules S) (s : Runtime S) (p : Place) (t : Trail) where
  abbrev here : Trail
  here = looked w.program s.guest (p.values, p.code) t

  pub looked_here : looked_in w (config_of s.host s.guest p) t ≡ here
  looked_here = ap (λ (i : List ℕ × Code). looked w.program s.guest i t) (inner_whole p)

  pub trail_stays : is_too_large_at w.max_frames w.max_values p ≡ true → trail_at w s p t 0 ≡ t
  trail_stays e = rw e refl

  pub trail_goes_on : (k : ℕ) (r : Runtime S) (q : Place) (u : Trail) → is_too_large_at w.max_frames w.max_values p ≡ false → stepped w (config_of s.host s.guest p) ≡ To r (whole_of q).0 (whole_of q).1 → u ≡ here
      → trail_at w s p t (suc k) ≡ trail_at w r q u k
  trail_goes_on k r q u e step is = rw (e, step) (ap (λ (x : Trail). trail_at w r q x k) (looked_here ∙ sym is))

  trail_ends : (r : Runtime S) (stop : _) (u : Trail) → is_too_large_at w.max_frames w.max_values p ≡ false → stepped w (config_of s.host s.guest p) ≡ Stopping r stop → u ≡ here → trail_at w s p t 1 ≡ u
  trail_ends r stop u e step is = rw (e, step) (looked_here ∙ sym is)

  -- an error ends the run, wherever it began
  pub tracks_err : (outcome : ℕ → Outcome S) (trail : ℕ → Trail) → ((k : ℕ) → (j : ℕ) × (outcome j ≡ run_at w s p k) × (trail j ≡ trail_at w s p t k)) → is_too_large_at w.max_frames w.max_values p ≡ false
      → (e : Stop) (h : S) (m : Guest) (new : Place) (before : Runtime S) (u : Trail) → Turns (Err e) h m new before (stepped w (config_of s.host s.guest p)) → Looks (Err e) (u ≡ here) → Tracks (Err e) h m u outcome trail
  tracks_err outcome trail leads small (stop.Trap kind) h m new before u step is =
      ((leads 1).0, (leads 1).1 ∙ stops w s p _ _ small step, (leads 1).2 ∙ trail_ends _ _ u small step is)
  tracks_err outcome trail leads small stop.GasExceeded h m new before u step is = ((leads 1).0, (leads 1).1 ∙ stops w s p _ _ small step)
  tracks_err outcome trail leads small (stop.HostFault kind) h m new before u step is = ((leads 1).0, (leads 1).1 ∙ stops w s p _ _ small step)
  tracks_err outcome trail leads small stop.Lost h m new before u step is = ((leads 1).0, (leads 1).1 ∙ dead w s p small step)
  tracks_err outcome trail leads small stop.Memory h m new before u step is = tt

pub looks_any : (r : Result Bool Stop) (P : Type 0) → P → Looks r P
looks_any (Ok on) P p = p
looks_any (Err (stop.Trap kind)) P p = p
looks_any (Err stop.GasExceeded) P p = p
looks_any (Err (stop.HostFault kind)) P p = p
looks_any (Err stop.Lost) P p = p
looks_any (Err stop.Memory) P p = tt

-- ---- the end
pub placed_end : {S : Type 0} (r : TraceStop) (p : Program) (h : S) (m : Guest) (kind : ℕ) (t : Trail) (outcome : ℕ → Outcome S) (trail : ℕ → Trail) → Tracks (Err (stop.Trap kind)) h m t outcome trail → IsPlaced r kind (place_in p t)
    → EndsAt (Err r) p h m outcome trail
placed_end (trace.Trap k func place) p h m kind t outcome trail tracks is =
    (tracks.0, tracks.1 ∙ ap (λ (n : ℕ). Halted (runtime h m) (Trap n)) (sym is.0), is.1 ∙ ap (place_in p) (sym tracks.2))
placed_end trace.GasExceeded p h m kind t outcome trail tracks is = absurd is
placed_end (trace.HostFault k) p h m kind t outcome trail tracks is = absurd is
placed_end trace.Memory p h m kind t outcome trail tracks is = tt

-- from the parts of a machine to the machine
pub of_parts : {S : Type 0} (m : HostMeaning S) (host ended : S) (f : ℕ) (r : Result (Unit {0}) TraceStop) (left : Guest) (p q : Program) (k l : Limits) (x y : Guest) → p ≡ q → k ≡ l → x ≡ y
    → EndsAt r p ended left (run_by (rules_of m p k) (runtime host x) f) (trail_by (rules_of m p k) (runtime host x) f)
    → Traces r q ended (run_by (rules_of m q l) (runtime host y) f) (trail_by (rules_of m q l) (runtime host y) f)
of_parts m host ended f r left p q k l x y same_program same_limits same_guest ends =
    let by_program : EndsAt r q ended left (run_by (rules_of m q k) (runtime host x) f) (trail_by (rules_of m q k) (runtime host x) f) =
    subst (λ (a : Program). EndsAt r a ended left (run_by (rules_of m a k) (runtime host x) f) (trail_by (rules_of m a k) (runtime host x) f)) same_program ends in
    let by_limits : EndsAt r q ended left (run_by (rules_of m q l) (runtime host x) f) (trail_by (rules_of m q l) (runtime host x) f) =
    subst (λ (n : Limits). EndsAt r q ended left (run_by (rules_of m q n) (runtime host x) f) (trail_by (rules_of m q n) (runtime host x) f)) same_limits by_program in
    record {
      guest = left;
      ends = subst (λ (g : Guest). EndsAt r q ended left (run_by (rules_of m q l) (runtime host g) f) (trail_by (rules_of m q l) (runtime host g) f)) same_guest by_limits;
    }

-- ---- the second side of an instruction
none_more : (n : ℕ) → n ≡ n + 0
none_more n = omega arith

pub plain_side : (i : Instr) (p : Op) (n : ℕ) (rest : Code) → i ≡ instr.Plain p → n ≡ n + count_of (second_of (put i rest))
plain_side i p n rest e = none_more n ∙ ap (λ (k : Code). n + count_of (second_of k)) (sym (put_plain i p rest e))

pub block_side : (i : Instr) (ty : Option ValType) (body : Box (Vec Instr Global) Global) (n : ℕ) (rest : Code) → i ≡ instr.Block ty body → n ≡ n + count_of (second_of (put i rest))
block_side i ty body n rest e = none_more n ∙ ap (λ (k : Code). n + count_of (second_of k)) (sym (put_block i ty body rest e))

pub loop_side : (i : Instr) (ty : Option ValType) (body : Box (Vec Instr Global) Global) (n : ℕ) (rest : Code) → i ≡ instr.Loop ty body → n ≡ n + count_of (second_of (put i rest))
loop_side i ty body n rest e = none_more n ∙ ap (λ (k : Code). n + count_of (second_of k)) (sym (put_loop i ty body rest e))

pub choice_side : (i : Instr) (ty : Option ValType) (arms : Box (Vec Instr Global × Vec Instr Global) Global) (both : Vec Instr Global × Vec Instr Global) (n count : ℕ) (rest : Code) → i ≡ instr.If ty arms → both ≡ arms.value
    → count ≡ n + count_of (code_of both.1.items) → count ≡ n + count_of (second_of (put i rest))
choice_side i ty arms both n count rest e f is = is ∙ ap (λ (k : Code). n + count_of (second_of k)) (sym (put_if_at i ty arms both rest e f))

pub side_of : {E : Type 0} (r : Result ℕ E) (code : Code) (i : Instr) (n : ℕ) → code ≡ put i (after code) → IfOk r (λ count. (rest : Code) → count ≡ n + count_of (second_of (put i rest))) → IfOk r (λ count. count ≡ n + count_of (second_of code))
side_of r code i n e is = IfOk-weaker r _ _ (λ count all. all (after code) ∙ ap (λ (k : Code). n + count_of (second_of k)) (sym e)) is
