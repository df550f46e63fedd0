-- A step of a run, and the trail's step beside it; the whole run.
use Rattle.std.proofs.Common.{◌≡◌, ℕ, zero, suc, ◌+◌, ◌-◌, ◌==◌, Bool, true, false, cond, List, [], ◌∷◌, ◌++◌, length, replicate, reverse, Option, Some, None, nat_lt, refl, sym, ap, ◌∙◌, subst, arith, ◌⊎◌, length-append}
use Rattle.std.proofs.lemmas.List.{append-nil, length-reverse}
use mathlib.Core.Logic.{inl, inr}
use Rattle.nr_wasmtypes.specs.declared.module.FuncType.{FuncType}
use Rattle.nr_wasmtypes.specs.Body.{Body}
use Rattle.nr_wasmtypes.specs.Code.{Code, End, Then, Block, Loop, Choice, after, begins}
use Rattle.nr_wasmtypes.specs.Tables.{arity_of}
use Rattle.nr_wasmmem.specs.Meaning.{Answer, Gives, OutOfGas, Fails, HostMeaning}
use Rattle.nr_wasmmem.specs.declared.guest.Guest.{Guest}
use Rattle.nr_wasmexec.specs.Functions.{Func, Coded, func_at}
use Rattle.nr_wasmexec.specs.Machine.{config_of}
use Rattle.nr_wasmexec.specs.Place.{Context, InLabel, InFrame, Place, whole_of, left, arrived, Led, Leads, Halts, Nowhere, with_store, given, asked, led}
use Rattle.nr_wasmexec.specs.Reduction.{Effect, Goes, Writes, Opens, Invokes, Asks, Branches, Returns, Traps, Stuck, Runtime, Rules, Step, To, Over, Branching, Returning, Stopping, NoRule, Plain, Frame, GasExceeded, behind_call, call_of, effect, has_instr, is_too_large, paid, plain_effect, reduce, stepped}
use Rattle.nr_trace.specs.Trail.{Trail, cut, first, followed, followed_by, left_by, noted, plain_way, top, trail_by, trail_in, trails, way_of}
use Rattle.nr_wasmexec.specs.declared.program.Program.{Program}
use Rattle.nr_trace.specs.declared.trail.Level.{Level}
use Rattle.nr_trace.specs.declared.trail.Level.TheVariants as level
use Rattle.nr_trace.specs.declared.trail.Way.{Way}
use Rattle.nr_trace.specs.declared.trail.Way.TheVariants as leads
use Rattle.nr_wasmexec.proofs.Branches.{some_is}
use Rattle.nr_trace.proofs.OnTrails.{looked_here}
use Rattle.nr_wasmexec.proofs.Plugged.{IsStep, end_is, has_instr_inside, instr_is}
use Rattle.nr_trail_laws.specs.Placed.{StandsAt}
use Rattle.nr_trail_laws.proofs.Beside.{Along, Beside, Inside, branch_lands, first_last, lands, return_lands, stands_along}
use Rattle.nr_trail_laws.proofs.Fits.{Fits, IsCode, plain_fits}
use Rattle.nr_trail_laws.proofs.Parts.{holds, part_after, part_here, side}

-- ---- one instruction
module _ {S : Type 0} (m : HostMeaning S) (s : Runtime S) (p : Program) (q : Place) (t : Trail) (i : Inside p q t) where
  -- the trail with the next instruction noted
  abbrev with_note : Way → Trail
  with_note w = noted q.code w t

  leads_to : (u r : Runtime S) (x y : Place) → Leads u x ≡ Leads r y → x ≡ y
  leads_to u r x y e = cc

  -- on in the sequence
  goes_on : (w : Way) (locals values : List ℕ) → w ≡ leads.On → Along p (record { values = values; code = after q.code; locals = locals; contexts = q.contexts }) (followed_by w (with_note w))
  goes_on w locals values e =
      subst (λ (v : Way). Along p (record { values = values; code = after q.code; locals = locals; contexts = q.contexts }) (followed_by v (with_note w))) (sym e)
      (inl (record { whole = i.whole; part = part_after i.whole q.code i.part; inner = i.inner; is = i.is; beside = i.beside }))

  many : (l : Level) → length (t.levels ++ l ∷ []) ≡ length i.inner + 1
  many l = length-append t.levels (l ∷ []) ∙ (let n : length t.levels ≡ length i.inner = ap length i.is ∙ length-reverse i.inner in omega (arith, n))

  calls : (w : Way) (values : List ℕ) (n : ℕ) (own : List ℕ) (body : Code) → (f : ℕ) × (w ≡ leads.Call f) × IsCode p f body
      → Along p (record { values = []; code = body; locals = own; contexts = InFrame values n q.locals (after q.code) ∷ q.contexts }) (followed_by w (with_note w))
  calls w values n own body (f, e, has) =
      subst (λ (v : Way). Along p (record { values = []; code = body; locals = own; contexts = InFrame values n q.locals (after q.code) ∷ q.contexts }) (followed_by v (with_note w))) (sym e)
      (inl (record {
        whole = body;
        part = part_here body;
        inner = level.Call t.func t.base ∷ i.inner;
        is = ap (λ (ls : List Level). ls ++ level.Call t.func t.base ∷ []) i.is ∙ sym (first_last i.inner (level.Call t.func t.base));
        beside = (has, many (level.Call t.func t.base), (q.code, refl, (i.whole, i.part, i.beside)));
      }))

  answered : (u : Runtime S) (answer : Answer) (w : Way) (values : List ℕ) (r : Runtime S) (x : Place) → w ≡ leads.On
      → asked u answer (record { values = values; code = after q.code; locals = q.locals; contexts = q.contexts }) ≡ Leads r x → Along p x (followed_by w (with_note w))
  answered u (Gives value) w values r x e goes =
      subst (λ (y : Place). Along p y (followed_by w (with_note w)))
      (leads_to u r (given value (record { values = values; code = after q.code; locals = q.locals; contexts = q.contexts })) x goes) (gives value)
    where
      gives : (value : Option ℕ) → Along p (given value (record { values = values; code = after q.code; locals = q.locals; contexts = q.contexts })) (followed_by w (with_note w))
      gives None = goes_on w q.locals values e
      gives (Some v) = goes_on w q.locals (v ∷ values) e
  answered u OutOfGas w values r x e goes = absurd cc
  answered u (Fails kind) w values r x e goes = absurd cc

  arrives : (o : Option Place) (r : Runtime S) (x : Place) → with_store s (arrived o) ≡ Leads r x → o ≡ Some x
  arrives None r x e = absurd cc
  arrives (Some y) r x e = ap Some (leads_to s r y x e)

  levels_are : t.levels ≡ reverse i.inner ++ []
  levels_are = i.is ∙ sym (append-nil (reverse i.inner))

  length_is : length t.levels ≡ length i.inner
  length_is = ap length i.is ∙ length-reverse i.inner

  moves : (w : Way) (e : Effect) (r : Runtime S) (x : Place) → Fits p w e → led m s q.locals (after q.code) q.contexts e ≡ Leads r x → Along p x (followed_by w (with_note w))
  moves w (Goes own values) r x fits goes =
      subst (λ (y : Place). Along p y (followed_by w (with_note w))) (leads_to s r _ x goes) (goes_on w own values fits)
  moves w (Writes guest values) r x fits goes =
      subst (λ (y : Place). Along p y (followed_by w (with_note w))) (leads_to (record s { guest = guest }) r _ x goes) (goes_on w q.locals values fits)
  moves w (Opens values n again body) r x fits goes = absurd fits
  moves w (Invokes values n own body) r x fits goes =
      subst (λ (y : Place). Along p y (followed_by w (with_note w))) (leads_to s r _ x goes) (calls w values n own body fits)
  moves w (Asks name args values) r x fits goes =
      answered (behind_call s (call_of m s name args).store) (call_of m s name args).answer w values r x fits goes
  moves w (Branches depth values) r x fits goes =
      subst (λ (v : Way). Along p x (followed_by v (with_note w))) (sym fits)
      (branch_lands p depth i.whole q.contexts i.inner [] values q.locals (with_note w) x _ i.beside levels_are tt (arrives _ r x goes)
      (ap (λ (n : ℕ). n - depth - 1) length_is))
  moves w (Returns values) r x fits goes =
      subst (λ (v : Way). Along p x (followed_by v (with_note w))) (sym fits)
      (return_lands p i.whole q.contexts i.inner [] values q.locals (with_note w) x i.beside levels_are tt (arrives _ r x goes))
  moves w (Traps kind) r x fits goes = absurd cc
  moves w Stuck r x fits goes = absurd cc

  -- into a block
  into : (second : Bool) (n : ℕ) (target body : Code) (values : List ℕ) → body ≡ side second q.code → holds q.code ≡ true → (target ≡ q.code) ⊎ (target ≡ after q.code)
      → Along p (record { values = []; code = body; locals = q.locals; contexts = InLabel values n target (after q.code) ∷ q.contexts }) (followed_by (leads.Into second) (with_note (leads.Into second)))
  into second n target body values is hold goes =
      inl (record {
        whole = body;
        part = part_here body;
        inner = level.Block q.code second ∷ i.inner;
        is = ap (λ (ls : List Level). ls ++ level.Block q.code second ∷ []) i.is ∙ sym (first_last i.inner (level.Block q.code second));
        beside = (is, hold, goes, refl, (i.whole, i.part, i.beside));
      })

-- ---- the instruction that is next, or the end of its sequence
-- the place that is noted, over these operands
abbrev noted_at : Program → Guest → Place → Trail → Trail
noted_at p guest q t = noted q.code (way_of p guest (top q.values) q.code) t

module _ {S : Type 0} (m : HostMeaning S) (s : Runtime S) (p : Program) (t : Trail) (locals : List ℕ) (contexts : List Context) (r : Runtime S) (x : Place) where
  abbrev place : List ℕ → Code → Place
  place values code = record { values = values; code = code; locals = locals; contexts = contexts }

  opens : (values below : List ℕ) (c : Code) (i : Inside p (place values c) t) (second : Bool) (n : ℕ) (target body : Code) → body ≡ side second c → holds c ≡ true → (target ≡ c) ⊎ (target ≡ after c)
      → Leads s (record { values = []; code = body; locals = locals; contexts = InLabel below n target (after c) ∷ contexts }) ≡ Leads r x
      → Along p x (followed_by (leads.Into second) (noted c (leads.Into second) t))
  opens values below c i second n target body is hold on lead =
      subst (λ (y : Place). Along p y (followed_by (leads.Into second) (noted c (leads.Into second) t)))
      (leads_to m s p (place values c) t i s r _ x lead) (into m s p (place values c) t i second n target body below is hold on)

  pub step_along : (values : List ℕ) (c : Code) → Inside p (place values c) t → begins c ≡ true
      → led m s locals (after c) contexts (effect p s.guest locals values c) ≡ Leads r x → Along p x (followed (noted_at p s.guest (place values c) t))
  step_along values End i e goes = absurd cc
  step_along values (Then o rest) i e goes =
      moves m s p (place values (Then o rest)) t i (plain_way p s.guest (top values) o) (plain_effect p s.guest locals values o) r x (plain_fits p s.guest locals values o) goes
  step_along values (Block ty body rest) i e goes = opens values values (Block ty body rest) i false (arity_of ty) rest body refl refl (inr refl) goes
  step_along values (Loop ty body rest) i e goes = opens values values (Loop ty body rest) i false 0 (Loop ty body rest) body refl refl (inl refl) goes
  step_along [] (Choice ty one other rest) i e goes = absurd cc
  step_along (v ∷ below) (Choice ty one other rest) i e goes =
      opens (v ∷ below) below (Choice ty one other rest) i (v == 0) (arity_of ty) rest (cond (v == 0) other one) refl refl (inr refl) goes

left_along : (p : Program) (q : Place) (t : Trail) (i : Inside p q t) (cs : List Context) (x : Place) → q.contexts ≡ cs → left q cs ≡ Some x → Along p x (cut (length t.levels - 1) (noted End leads.Out t))
left_along p q t i [] x e goes = absurd cc
left_along p q t i (InLabel values n again code ∷ around) x e goes =
    let b = subst (λ (cs : List Context). Beside p t.func t.base i.whole cs i.inner) e i.beside in
    let is = some_is _ x goes in
    lands p i.whole (InLabel values n again code) around i.inner [] (noted End leads.Out t) x (length t.levels - 1) b (i.is ∙ sym (append-nil (reverse i.inner))) tt
    (ap (λ (y : Place). y.contexts) (sym is)) (inr (ap (λ (y : Place). y.code) (sym is))) (ap (λ (n : ℕ). n - 1) (ap length i.is ∙ length-reverse i.inner))
left_along p q t i (InFrame values n outer code ∷ around) x e goes =
    let b = subst (λ (cs : List Context). Beside p t.func t.base i.whole cs i.inner) e i.beside in
    let is = some_is _ x goes in
    lands p i.whole (InFrame values n outer code) around i.inner [] (noted End leads.Out t) x (length t.levels - 1) b (i.is ∙ sym (append-nil (reverse i.inner))) tt
    (ap (λ (y : Place). y.contexts) (sym is)) (ap (λ (y : Place). y.code) (sym is)) (ap (λ (n : ℕ). n - 1) (ap length i.is ∙ length-reverse i.inner))

-- ---- the run
module _ {S : Type 0} (w : Rules S) where
  -- what a step leads to
  after_step : (n : ℕ) (u : Trail) → StandsAt w.program u → (step : Step S) (l : Led S) → IsStep step l → ((r : Runtime S) (x : Place) → l ≡ Leads r x → Along w.program x (followed u))
      → ((r : Runtime S) (x : Place) → Along w.program x (followed u) → StandsAt w.program (trails w n (config_of r.host r.guest x) u)) → StandsAt w.program (left_by w step u (λ d. trails w n d u))
  after_step n u stands step (Leads r x) is along on =
      subst (λ (y : Step S). StandsAt w.program (left_by w y u (λ d. trails w n d u))) (sym is)
      (by (is_too_large w (whole_of x).0 (whole_of x).1))
    where
      by : (b : Bool) → StandsAt w.program (cond b u (trails w n (config_of r.host r.guest x) u))
      by true = stands
      by false = on r x (along r x refl)
  after_step n u stands step (Halts r stop) is along on =
      subst (λ (y : Step S). StandsAt w.program (left_by w y u (λ d. trails w n d u))) (sym is) stands
  after_step n u stands (To r locals seq) Nowhere is along on = absurd is
  after_step n u stands (Over values) Nowhere is along on = absurd is
  after_step n u stands (Branching depth values) Nowhere is along on = stands
  after_step n u stands (Returning values) Nowhere is along on = stands
  after_step n u stands (Stopping r stop) Nowhere is along on = absurd is
  after_step n u stands NoRule Nowhere is along on = stands

-- a step at operands and code, with these locals round which these contexts stand
module _ {S : Type 0} (w : Rules S) (n : ℕ) (s : Runtime S) (T : Trail) (locals : List ℕ) where
  abbrev here_at : List Context → List ℕ → Code → Place
  here_at contexts values code = record { values = values; code = code; locals = locals; contexts = contexts }

  abbrev note : List Context → List ℕ → Code → Trail
  note contexts values code = noted_at w.program s.guest (here_at contexts values code) T

  abbrev step : List Context → List ℕ → Code → Step S
  step contexts values code = stepped w (config_of s.host s.guest (here_at contexts values code))

  abbrev reduced : Runtime S → List Context → List ℕ → Code → Step S
  reduced r contexts values code = reduce w r (whole_of (here_at contexts values code)).0 (whole_of (here_at contexts values code)).1

  abbrev ThenStands : List Context → List ℕ → Code → Type 0
  ThenStands contexts values code = StandsAt w.program (left_by w (step contexts values code) (note contexts values code) (λ d. trails w n d (note contexts values code)))

  abbrev GoesOn : List Context → List ℕ → Code → Type 0
  GoesOn contexts values code = (r : Runtime S) (x : Place) → Along w.program x (followed (note contexts values code)) → StandsAt w.program (trails w n (config_of r.host r.guest x) (note contexts values code))

  unpaid : (contexts : List Context) (values : List ℕ) → step contexts values End ≡ reduced s contexts values End
  unpaid contexts values =
      let none : has_instr (whole_of (here_at contexts values End)).1 ≡ false = has_instr_inside contexts locals (Plain values End) in
      rw none refl

  leaves : (contexts : List Context) (values : List ℕ) (x : Place) (i : Inside w.program (here_at contexts values End) T) → left (here_at contexts values End) contexts ≡ Some x → GoesOn contexts values End → ThenStands contexts values End
  leaves contexts values x i goes on =
      let is : step contexts values End ≡ To s (whole_of x).0 (whole_of x).1 = unpaid contexts values ∙ end_is w s (here_at contexts values End) contexts refl refl x goes in
      after_step w n (note contexts values End) (stands_along w.program (here_at contexts values End) T leads.Out (inl i)) (step contexts values End) (Leads s x) is
      (λ r y e. subst (λ (z : Place). Along w.program z (followed (note contexts values End))) (let same : x ≡ y = cc in same) (left_along w.program (here_at contexts values End) T i contexts x refl goes)) on

  tested : (contexts : List Context) (values : List ℕ) (c : Code) → begins c ≡ true → (b : Bool) → nat_lt (w.host.gas s.host) w.cost ≡ b
      → step contexts values c ≡ cond b (Stopping (paid w s) GasExceeded) (reduced (paid w s) contexts values c)
  tested contexts values c e b f =
      let has : has_instr (whole_of (here_at contexts values c)).1 ≡ true = has_instr_inside contexts locals (Plain values c) ∙ e in
      rw (has, f) refl

  obeys : (contexts : List Context) (values : List ℕ) (c : Code) (i : Inside w.program (here_at contexts values c) T) → begins c ≡ true → GoesOn contexts values c → (b : Bool) → nat_lt (w.host.gas s.host) w.cost ≡ b → ThenStands contexts values c
  obeys contexts values c i e on true f =
      after_step w n (note contexts values c) (stands_along w.program (here_at contexts values c) T (way_of w.program s.guest (top values) c) (inl i)) (step contexts values c) (Halts (paid w s) GasExceeded) (tested contexts values c e true f)
      (λ r x wrong. absurd cc) on
  obeys contexts values c i e on false f =
      let to = led w.host (paid w s) locals (after c) contexts (effect w.program s.guest locals values c) in
      after_step w n (note contexts values c) (stands_along w.program (here_at contexts values c) T (way_of w.program s.guest (top values) c) (inl i)) (step contexts values c) to
      (subst (λ (y : Step S). IsStep y to) (sym (tested contexts values c e false f)) (instr_is w (paid w s) (here_at contexts values c) e))
      (λ r x goes. step_along w.host (paid w s) w.program T locals contexts r x values c i e goes) on

  obeyed : (contexts : List Context) (values : List ℕ) (c : Code) (i : Inside w.program (here_at contexts values c) T) → begins c ≡ true → GoesOn contexts values c → ThenStands contexts values c
  obeyed contexts values c i e on = obeys contexts values c i e on (nat_lt (w.host.gas s.host) w.cost) refl

  steps_on : (contexts : List Context) (values : List ℕ) (c : Code) → Along w.program (here_at contexts values c) T → GoesOn contexts values c → ThenStands contexts values c
  steps_on [] values End (inl i) on = absurd i.beside
  steps_on (InLabel vs k again code ∷ around) values End (inl i) on = leaves (InLabel vs k again code ∷ around) values _ i refl on
  steps_on (InFrame vs k outer code ∷ around) values End (inl i) on = leaves (InFrame vs k outer code ∷ around) values _ i refl on
  steps_on contexts values (Then o rest) (inl i) on = obeyed contexts values (Then o rest) i refl on
  steps_on contexts values (Block ty body rest) (inl i) on = obeyed contexts values (Block ty body rest) i refl on
  steps_on contexts values (Loop ty body rest) (inl i) on = obeyed contexts values (Loop ty body rest) i refl on
  steps_on contexts values (Choice ty one other rest) (inl i) on = obeyed contexts values (Choice ty one other rest) i refl on
  steps_on [] values End (inr g) on = stands_along w.program (here_at [] values End) T leads.Out (inr g)
  steps_on [] values (Then o rest) (inr g) on = absurd (let wrong : Then o rest ≡ End = g.code in cc)
  steps_on [] values (Block ty body rest) (inr g) on = absurd (let wrong : Block ty body rest ≡ End = g.code in cc)
  steps_on [] values (Loop ty body rest) (inr g) on = absurd (let wrong : Loop ty body rest ≡ End = g.code in cc)
  steps_on [] values (Choice ty one other rest) (inr g) on = absurd (let wrong : Choice ty one other rest ≡ End = g.code in cc)
  steps_on (context ∷ around) values c (inr g) on = absurd (let wrong : context ∷ around ≡ [] = g.contexts in cc)

module _ {S : Type 0} (w : Rules S) where
  run_stands : (n : ℕ) (s : Runtime S) (q : Place) (t : Trail) → StandsAt w.program t → Along w.program q (followed t) → StandsAt w.program (trails w n (config_of s.host s.guest q) t)
  run_stands zero s q t stands along = stands
  run_stands (suc n) s q t stands along =
      subst (λ (v : Trail). StandsAt w.program (left_by w (stepped w (config_of s.host s.guest q)) v (λ d. trails w n d v))) (sym (looked_here w s q t))
      (steps_on w n s (followed t) q.locals q.contexts q.values q.code along
      (λ r x more. run_stands n r x (noted_at w.program s.guest q (followed t)) (stands_along w.program q (followed t) (way_of w.program s.guest (top q.values) q.code) along) more))

-- a function's run
abbrev start : Body → Place
start body = record { values = []; code = body.code; locals = replicate (length body.locals) 0; contexts = InFrame [] 0 [] End ∷ [] }

pub trail_stands : {S : Type 0} (w : Rules S) (s : Runtime S) (f n : ℕ) (sig : FuncType) (body : Body) → func_at w.program f ≡ Some (Coded sig body) → StandsAt w.program (trail_by w s f n)
trail_stands w s f n sig body e =
    subst (λ (o : Option Func). StandsAt w.program (trail_in w s f o n)) (sym e) (by (is_too_large w [] (Frame [] 0 (replicate (length body.locals) 0) (Plain [] body.code) End)))
  where
    inside : Inside w.program (start body) (first f body.code)
    inside = record { whole = body.code; part = part_here body.code; inner = []; is = refl; beside = ((sig, body, e, refl), refl, refl, refl) }

    by : (b : Bool) → StandsAt w.program (cond b (first f body.code) (trails w n (config_of s.host s.guest (start body)) (first f body.code)))
    by true = stands_along w.program (start body) (first f body.code) leads.On (inl inside)
    by false = run_stands w n s (start body) (first f body.code) (stands_along w.program (start body) (first f body.code) leads.On (inl inside)) (inl inside)
