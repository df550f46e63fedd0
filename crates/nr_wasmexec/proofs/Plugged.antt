-- A step at a place is a step of the whole sequence.
use Rattle.std.proofs.Common.{◌≡◌, ℕ, zero, suc, ◌+◌, ◌≤◌, Bool, true, false, cond, List, [], ◌∷◌, ◌++◌, length, take, Option, Some, None, nat_lt, refl, sym, ap, subst, arith}
use Rattle.nr_wasmtypes.specs.Code.{Code, End, after, begins}
use Rattle.nr_wasmmem.specs.Meaning.{Answer, Gives, OutOfGas, Fails, HostMeaning, IsHost}
use Rattle.nr_wasmexec.specs.Reduction.{Seq, Plain, Label, Frame, Stop, Trap, GasExceeded, HostFault, Effect, Goes}
use Rattle.nr_wasmexec.specs.Reduction.{Writes, Opens, Invokes, Asks, Branches, Returns, Traps, Stuck, effect, Step, To}
use Rattle.nr_wasmexec.specs.Reduction.{Over, Branching, Returning, Stopping, NoRule, Runtime, Rules, on_those, call_of}
use Rattle.nr_wasmexec.specs.Reduction.{behind_call, answered, rewritten, left_over, in_label, in_frame, reduce}
use Rattle.nr_wasmexec.specs.Reduction.{has_instr, frames_of, values_of, IsDead}
use Rattle.nr_wasmexec.proofs.Branches.{some_is}
use Rattle.nr_wasmexec.specs.Place.{Context, InLabel, InFrame, Place, plugged, whole_of, onward, branched, returned, left, arrived, Led, Leads, Halts, Nowhere, with_store, given, asked, led, frames_in, held_in}

-- the step leads there
abbrev pub IsStep : {S : Type 0} → Step S → Led S → Type 0
IsStep step (Leads s q) = step ≡ To s (whole_of q).0 (whole_of q).1
IsStep step (Halts s stop) = step ≡ Stopping s stop
IsStep step Nowhere = IsDead step

module _ {S : Type 0} (w : Rules S) (s : Runtime S) where
  -- the whole sequence reduces
  abbrev whole : List Context → List ℕ → Seq → Step S
  whole cs locals seq = reduce w s (plugged cs locals seq).0 (plugged cs locals seq).1

  pub goes_inside : (t : Runtime S) (cs : List Context) (locals own : List ℕ) (seq inner : Seq) → reduce w s locals seq ≡ To t own inner → whole cs locals seq ≡ To t (plugged cs own inner).0 (plugged cs own inner).1
  goes_inside t [] locals own seq inner h = h
  goes_inside t (InLabel values n again code ∷ around) locals own seq inner h =
      goes_inside t around locals own (Label values n again seq code) (Label values n again inner code) (ap (in_label s locals values n again code) h)
  goes_inside t (InFrame values n outer code ∷ around) locals own seq inner h =
      goes_inside t around outer outer (Frame values n locals seq code) (Frame values n own inner code) (ap (in_frame s outer values n code) h)

  pub stops_inside : (t : Runtime S) (stop : Stop) (cs : List Context) (locals : List ℕ) (seq : Seq) → reduce w s locals seq ≡ Stopping t stop → whole cs locals seq ≡ Stopping t stop
  stops_inside t stop [] locals seq h = h
  stops_inside t stop (InLabel values n again code ∷ around) locals seq h =
      stops_inside t stop around locals (Label values n again seq code) (ap (in_label s locals values n again code) h)
  stops_inside t stop (InFrame values n outer code ∷ around) locals seq h =
      stops_inside t stop around outer (Frame values n locals seq code) (ap (in_frame s outer values n code) h)

  pub dead_inside : (cs : List Context) (locals : List ℕ) (seq : Seq) → reduce w s locals seq ≡ NoRule → whole cs locals seq ≡ NoRule
  dead_inside [] locals seq h = h
  dead_inside (InLabel values n again code ∷ around) locals seq h =
      dead_inside around locals (Label values n again seq code) (ap (in_label s locals values n again code) h)
  dead_inside (InFrame values n outer code ∷ around) locals seq h =
      dead_inside around outer (Frame values n locals seq code) (ap (in_frame s outer values n code) h)

  is_dead : {step : Step S} → step ≡ NoRule → IsDead step
  is_dead e = subst IsDead (sym e) tt

  -- so many operands, on what stands round
  onward_is : (n : ℕ) (inner values locals : List ℕ) (code : Code) (around : List Context) (seq : Seq) (outer : List ℕ) → reduce w s outer seq ≡ left_over s locals n inner values code → locals ≡ outer → IsStep (whole around outer seq) (with_store s (arrived (onward n inner values locals code around)))
  onward_is n inner values locals code around seq outer h e = by_size (nat_lt (length inner) n) h
    where
      by_size : (b : Bool) → reduce w s outer seq ≡ cond b NoRule (To s locals (Plain (take n inner ++ values) code)) → IsStep (whole around outer seq) (with_store s (arrived (cond b None (Some (record { values = take n inner ++ values; code = code; locals = locals; contexts = around })))))
      by_size true h = is_dead (dead_inside around outer seq h)
      by_size false h = goes_inside s around outer locals seq (Plain (take n inner ++ values) code) h

  pub branch_is : (cs : List Context) (depth : ℕ) (inner locals : List ℕ) (seq : Seq) → reduce w s locals seq ≡ Branching depth inner → IsStep (whole cs locals seq) (with_store s (arrived (branched depth inner locals cs)))
  branch_is [] depth inner locals seq h = subst IsDead (sym h) tt
  branch_is (InLabel values n again code ∷ around) zero inner locals seq h =
      onward_is n inner values locals again around (Label values n again seq code) locals (ap (in_label s locals values n again code) h) refl
  branch_is (InLabel values n again code ∷ around) (suc depth) inner locals seq h =
      branch_is around depth inner locals (Label values n again seq code) (ap (in_label s locals values n again code) h)
  branch_is (InFrame values n outer code ∷ around) zero inner locals seq h =
      onward_is n inner values outer code around (Frame values n locals seq code) outer (ap (in_frame s outer values n code) h) refl
  branch_is (InFrame values n outer code ∷ around) (suc depth) inner locals seq h =
      is_dead (dead_inside around outer (Frame values n locals seq code) (ap (in_frame s outer values n code) h))

  pub return_is : (cs : List Context) (inner locals : List ℕ) (seq : Seq) → reduce w s locals seq ≡ Returning inner → IsStep (whole cs locals seq) (with_store s (arrived (returned inner locals cs)))
  return_is [] inner locals seq h = subst IsDead (sym h) tt
  return_is (InLabel values n again code ∷ around) inner locals seq h =
      return_is around inner locals (Label values n again seq code) (ap (in_label s locals values n again code) h)
  return_is (InFrame values n outer code ∷ around) inner locals seq h =
      onward_is n inner values outer code around (Frame values n locals seq code) outer (ap (in_frame s outer values n code) h) refl

  answer_is : (t : Runtime S) (answer : Answer) (cs : List Context) (locals values : List ℕ) (code : Code) (seq : Seq) → reduce w s locals seq ≡ answered t answer locals values code → IsStep (whole cs locals seq) (asked t answer (record { values = values; code = code; locals = locals; contexts = cs }))
  answer_is t (Gives value) cs locals values code seq h = goes_inside t cs locals locals seq (Plain (on_those value values) code) h
  answer_is t OutOfGas cs locals values code seq h = stops_inside t GasExceeded cs locals seq h
  answer_is t (Fails kind) cs locals values code seq h = stops_inside t (HostFault kind) cs locals seq h

  -- any effect
  pub effect_is : (e : Effect) (cs : List Context) (locals : List ℕ) (code : Code) (seq : Seq) → reduce w s locals seq ≡ rewritten w.host s locals code e → IsStep (whole cs locals seq) (led w.host s locals code cs e)
  effect_is (Goes own values) cs locals code seq h = goes_inside s cs locals own seq (Plain values code) h
  effect_is (Writes guest values) cs locals code seq h = goes_inside (record s { guest = guest }) cs locals locals seq (Plain values code) h
  effect_is (Opens values n again body) cs locals code seq h = goes_inside s cs locals locals seq (Label values n again (Plain [] body) code) h
  effect_is (Invokes values n own body) cs locals code seq h = goes_inside s cs locals locals seq (Frame values n own (Plain [] body) code) h
  effect_is (Asks name args values) cs locals code seq h = answer_is (behind_call s (call_of w.host s name args).store) (call_of w.host s name args).answer cs locals values code seq h
  effect_is (Branches depth values) cs locals code seq h = branch_is cs depth values locals seq h
  effect_is (Returns values) cs locals code seq h = return_is cs values locals seq h
  effect_is (Traps kind) cs locals code seq h = stops_inside s (Trap kind) cs locals seq h
  effect_is Stuck cs locals code seq h = is_dead (dead_inside cs locals seq h)

  -- the next instruction of a place
  pub instr_is : (p : Place) → begins p.code ≡ true → IsStep (reduce w s (whole_of p).0 (whole_of p).1) (led w.host s p.locals (after p.code) p.contexts (effect w.program s.guest p.locals p.values p.code))
  instr_is p e =
      effect_is (effect w.program s.guest p.locals p.values p.code) p.contexts p.locals (after p.code) (Plain p.values p.code) (ap (λ (b : Bool). cond b (rewritten w.host s p.locals (after p.code) (effect w.program s.guest p.locals p.values p.code)) (Over p.values)) e)

  -- the end of the innermost sequence
  pub end_is : (p : Place) (cs : List Context) → p.code ≡ End → p.contexts ≡ cs → (q : Place) → left p cs ≡ Some q → reduce w s (whole_of p).0 (whole_of p).1 ≡ To s (whole_of q).0 (whole_of q).1
  end_is p [] e f q h = cc
  end_is p (InLabel values n again code ∷ around) e f q h =
      subst (λ (q : Place). reduce w s (whole_of p).0 (whole_of p).1 ≡ To s (whole_of q).0 (whole_of q).1) (some_is _ q h)
      (rw (f, e) (goes_inside s around p.locals p.locals (Label values n again (Plain p.values End) code) (Plain (p.values ++ values) code) refl))
  end_is p (InFrame values n outer code ∷ around) e f q h =
      subst (λ (q : Place). reduce w s (whole_of p).0 (whole_of p).1 ≡ To s (whole_of q).0 (whole_of q).1) (some_is _ q h)
      (rw (f, e) (goes_inside s around outer outer (Frame values n p.locals (Plain p.values End) code) (Plain (p.values ++ values) code) refl))

pub has_instr_inside : (cs : List Context) (locals : List ℕ) (seq : Seq) → has_instr (plugged cs locals seq).1 ≡ has_instr seq
has_instr_inside [] locals seq = refl
has_instr_inside (InLabel values n again code ∷ around) locals seq = has_instr_inside around locals (Label values n again seq code)
has_instr_inside (InFrame values n outer code ∷ around) locals seq = has_instr_inside around outer (Frame values n locals seq code)

pub frames_inside : (cs : List Context) (locals : List ℕ) (seq : Seq) → frames_of (plugged cs locals seq).1 ≡ frames_of seq + frames_in cs
frames_inside [] locals seq = omega arith
frames_inside (InLabel values n again code ∷ around) locals seq = frames_inside around locals (Label values n again seq code)
frames_inside (InFrame values n outer code ∷ around) locals seq = omega (arith, frames_inside around outer (Frame values n locals seq code))

pub held_inside : (cs : List Context) (locals : List ℕ) (seq : Seq) → values_of (plugged cs locals seq).1 + length (plugged cs locals seq).0 ≡ values_of seq + length locals + held_in cs
held_inside [] locals seq = omega arith
held_inside (InLabel values n again code ∷ around) locals seq = omega (arith, held_inside around locals (Label values n again seq code))
held_inside (InFrame values n outer code ∷ around) locals seq = omega (arith, held_inside around outer (Frame values n locals seq code))

-- ---- what a step costs
-- at most one more context
pub record IsNear {S : Type 0} (m : HostMeaning S) (s : Runtime S) (cs : List Context) (t : Runtime S) (q : Place) : Type 0 where
  pub gas : m.gas t.host ≤ m.gas s.host
  pub contexts : length q.contexts ≤ length cs + 1

module _ {S : Type 0} (m : HostMeaning S) (law : IsHost m) (s : Runtime S) where
  there : (u : Runtime S) → m.gas u.host ≤ m.gas s.host → (cs : List Context) (q : Place) → length q.contexts ≤ length cs + 1 → (t : Runtime S) (r : Place) → Leads u q ≡ Leads t r → IsNear m s cs t r
  there u less cs q le t r e =
      let es : u ≡ t = cc in
      let eq : q ≡ r = cc in
      subst (λ t. IsNear m s cs t r) es (subst (λ (r : Place). IsNear m s cs u r) eq (record { gas = less; contexts = le }))

  here : (cs : List Context) (q : Place) → length q.contexts ≤ length cs + 1 → (t : Runtime S) (r : Place) → Leads s q ≡ Leads t r → IsNear m s cs t r
  here cs q le t r e = there s (omega arith) cs q le t r e

  onward_near : (n : ℕ) (inner values locals : List ℕ) (code : Code) (around cs : List Context) → length around ≤ length cs + 1 → (t : Runtime S) (r : Place) → with_store s (arrived (onward n inner values locals code around)) ≡ Leads t r → IsNear m s cs t r
  onward_near n inner values locals code around cs le t r e = by_size (nat_lt (length inner) n) e
    where
      by_size : (b : Bool) → with_store s (arrived (cond {A = Option Place} b None (Some (record { values = take n inner ++ values; code = code; locals = locals; contexts = around })))) ≡ Leads t r → IsNear m s cs t r
      by_size true e = cc
      by_size false e = here cs _ le t r e

  branch_near : (depth : ℕ) (inner locals : List ℕ) (cs all : List Context) → length cs ≤ length all → (t : Runtime S) (r : Place) → with_store s (arrived (branched depth inner locals cs)) ≡ Leads t r → IsNear m s all t r
  branch_near depth inner locals [] all le t r e = cc
  branch_near zero inner locals (InLabel values n again code ∷ around) all le t r e = onward_near n inner values locals again around all (omega arith) t r e
  branch_near zero inner locals (InFrame values n outer code ∷ around) all le t r e = onward_near n inner values outer code around all (omega arith) t r e
  branch_near (suc depth) inner locals (InLabel values n again code ∷ around) all le t r e = branch_near depth inner locals around all (omega arith) t r e
  branch_near (suc depth) inner locals (InFrame values n outer code ∷ around) all le t r e = cc

  return_near : (inner locals : List ℕ) (cs all : List Context) → length cs ≤ length all → (t : Runtime S) (r : Place) → with_store s (arrived (returned inner locals cs)) ≡ Leads t r → IsNear m s all t r
  return_near inner locals [] all le t r e = cc
  return_near inner locals (InLabel values n again code ∷ around) all le t r e = return_near inner locals around all (omega arith) t r e
  return_near inner locals (InFrame values n outer code ∷ around) all le t r e = onward_near n inner values outer code around all (omega arith) t r e

  asked_near : (u : Runtime S) (answer : Answer) (p : Place) (cs : List Context) → m.gas u.host ≤ m.gas s.host → p.contexts ≡ cs → (t : Runtime S) (r : Place) → asked u answer p ≡ Leads t r → IsNear m s cs t r
  asked_near u (Gives value) p cs le same t r e =
      let es : u ≡ t = cc in
      let eq : given value p ≡ r = cc in
      subst (λ t. IsNear m s cs t r) es (subst (λ (r : Place). IsNear m s cs u r) eq (record { gas = le; contexts = rw same (omega arith) }))
  asked_near u OutOfGas p cs le same t r e = cc
  asked_near u (Fails kind) p cs le same t r e = cc

  pub led_near : (locals : List ℕ) (code : Code) (cs : List Context) (e : Effect) (t : Runtime S) (r : Place) → led m s locals code cs e ≡ Leads t r → IsNear m s cs t r
  led_near locals code cs (Goes own values) t r e = here cs _ (omega arith) t r e
  led_near locals code cs (Writes guest values) t r e = there (record s { guest = guest }) (omega arith) cs _ (omega arith) t r e
  led_near locals code cs (Opens values n again body) t r e = here cs _ (omega arith) t r e
  led_near locals code cs (Invokes values n own body) t r e = here cs _ (omega arith) t r e
  led_near locals code cs (Asks name args values) t r e = asked_near (behind_call s (call_of m s name args).store) (call_of m s name args).answer _ cs (law.no_more_gas (record { host = s.host; memory = s.guest.memory.bytes }) name args) refl t r e
  led_near locals code cs (Branches depth values) t r e = branch_near depth values locals cs cs (omega arith) t r e
  led_near locals code cs (Returns values) t r e = return_near values locals cs cs (omega arith) t r e
  led_near locals code cs (Traps kind) t r e = cc
  led_near locals code cs Stuck t r e = cc
