-- What holds of every run of a machine: what each step keeps holds from its first state to its last, and gas bounds
-- its steps. This project's own.
use Rattle.std.specs.Prelude.{◌≡◌, ℕ, zero, suc, ◌+◌, ◌-◌, ◌*◌, ◌<◌, ◌≤◌, Bool, true, false, cond}
use Rattle.std.specs.Prelude.{nat_lt, List, [], ◌++◌, length, take, replicate, Option, Some, None, refl}
use Rattle.std.proofs.Common.{sym, subst, arith}
use Rattle.nr_wasmtypes.specs.declared.host.HostFn.{HostFn}
use Rattle.nr_wasmtypes.specs.Code.{Code, End, after, begins}
use Rattle.nr_wasmmem.specs.Meaning.{Answer, Gives, OutOfGas, Fails, Store, HostMeaning, IsHost, burnt}
use Rattle.nr_wasmexec.specs.Functions.{Func, Hosted, Coded, func_at}
use Rattle.nr_wasmexec.specs.Reduction.{Seq, Plain, Label, Frame, Trap, GasExceeded, Effect, Goes, Writes}
use Rattle.nr_wasmexec.specs.Reduction.{Opens, Invokes, Asks, Branches, Returns, Traps, Stuck, effect, Runtime, Step}
use Rattle.nr_wasmexec.specs.Reduction.{To, Over, Branching, Returning, Stopping, NoRule, Rules, Config, call_of}
use Rattle.nr_wasmexec.specs.Reduction.{behind_call, answered, rewritten, left_over, in_label, in_frame, reduce}
use Rattle.nr_wasmexec.specs.Reduction.{has_instr, is_too_large, paid, stepped, Outcome, Done, Halted, NeverFits}
use Rattle.nr_wasmexec.specs.Reduction.{Unfinished, turn, runs, run_in, run_by}

-- ---- what is kept
abbrev pub AnswerKeeps : {S : Type 0} → (S → Type 0) → (S → Type 0) → S → Answer → Type 0
AnswerKeeps P Q s (Gives value) = P s
AnswerKeeps P Q s OutOfGas = Q s
AnswerKeeps P Q s (Fails kind) = Q s

-- P holds as long as the run goes on, and Q where it stops
pub record IsKept {S : Type 0} (m : HostMeaning S) (P Q : S → Type 0) : Type 0 where
  pub less : (s : S) → P s → Q s
  pub burns : (s : S) (n : ℕ) → P s → P (burnt m s n)
  pub calls : (s : Store S) (f : HostFn) (args : List ℕ) → P s.host
      → AnswerKeeps P Q (m.call s f args).store.host (m.call s f args).answer

abbrev pub StepKeeps : {S : Type 0} → (S → Type 0) → (S → Type 0) → Step S → Type 0
StepKeeps P Q (To s locals seq) = P s.host
StepKeeps P Q (Over values) = Unit {0}
StepKeeps P Q (Branching depth values) = Unit {0}
StepKeeps P Q (Returning values) = Unit {0}
StepKeeps P Q (Stopping s stop) = Q s.host
StepKeeps P Q NoRule = Unit {0}

abbrev pub OutcomeKeeps : {S : Type 0} → (S → Type 0) → (S → Type 0) → Outcome S → Type 0
OutcomeKeeps P Q (Done s) = P s.host
OutcomeKeeps P Q (Halted s stop) = Q s.host
OutcomeKeeps P Q NeverFits = Unit {0}
OutcomeKeeps P Q Unfinished = Unit {0}

module _ {S : Type 0} (w : Rules S) (P Q : S → Type 0) (kept : IsKept w.host P Q) where
  answered_keeps : (s : Runtime S) (answer : Answer) (locals values : List ℕ) (code : Code)
      → AnswerKeeps P Q s.host answer → StepKeeps P Q (answered s answer locals values code)
  answered_keeps s (Gives value) locals values code r = r
  answered_keeps s OutOfGas locals values code r = r
  answered_keeps s (Fails kind) locals values code r = r

  rewritten_keeps : (s : Runtime S) (locals : List ℕ) (code : Code) (e : Effect) → P s.host
      → StepKeeps P Q (rewritten w.host s locals code e)
  rewritten_keeps s locals code (Goes more values) r = r
  rewritten_keeps s locals code (Writes guest values) r = r
  rewritten_keeps s locals code (Opens values arity again body) r = r
  rewritten_keeps s locals code (Invokes values arity own body) r = r
  rewritten_keeps s locals code (Asks name args values) r =
      answered_keeps (behind_call s (call_of w.host s name args).store) (call_of w.host s name args).answer locals
      values code
      (kept.calls (record { host = s.host; memory = s.guest.memory.bytes }) name args r)
  rewritten_keeps s locals code (Branches depth values) r = tt
  rewritten_keeps s locals code (Returns values) r = tt
  rewritten_keeps s locals code (Traps kind) r = kept.less s.host r
  rewritten_keeps s locals code Stuck r = tt

  left_over_keeps : (s : Runtime S) (locals : List ℕ) (n : ℕ) (inner values : List ℕ) (code : Code) → P s.host
      → StepKeeps P Q (left_over s locals n inner values code)
  left_over_keeps s locals n inner values code r =
      elim (nat_lt (length inner) n) as (λ b. StepKeeps P Q
      (cond b NoRule (To s locals (Plain (take n inner ++ values) code)))) [ true ↦ tt | false ↦ r ]

  in_label_keeps : (s : Runtime S) (locals values : List ℕ) (n : ℕ) (again code : Code) (step : Step S) → P s.host
      → StepKeeps P Q step → StepKeeps P Q (in_label s locals values n again code step)
  in_label_keeps s locals values n again code (To t more inner) r k = k
  in_label_keeps s locals values n again code (Over inner) r k = r
  in_label_keeps s locals values n again code (Branching zero inner) r k =
      left_over_keeps s locals n inner values again r
  in_label_keeps s locals values n again code (Branching (suc depth) inner) r k = tt
  in_label_keeps s locals values n again code (Returning inner) r k = tt
  in_label_keeps s locals values n again code (Stopping t stop) r k = k
  in_label_keeps s locals values n again code NoRule r k = tt

  in_frame_keeps : (s : Runtime S) (locals values : List ℕ) (n : ℕ) (code : Code) (step : Step S) → P s.host
      → StepKeeps P Q step → StepKeeps P Q (in_frame s locals values n code step)
  in_frame_keeps s locals values n code (To t own inner) r k = k
  in_frame_keeps s locals values n code (Over inner) r k = r
  in_frame_keeps s locals values n code (Branching zero inner) r k = left_over_keeps s locals n inner values code r
  in_frame_keeps s locals values n code (Branching (suc depth) inner) r k = tt
  in_frame_keeps s locals values n code (Returning inner) r k = left_over_keeps s locals n inner values code r
  in_frame_keeps s locals values n code (Stopping t stop) r k = k
  in_frame_keeps s locals values n code NoRule r k = tt

  reduce_keeps : (s : Runtime S) (locals : List ℕ) (seq : Seq) → P s.host → StepKeeps P Q (reduce w s locals seq)
  reduce_keeps s locals (Plain values code) r =
      elim (begins code) as (λ b. StepKeeps P Q (cond b
      (rewritten w.host s locals (after code) (effect w.program s.guest locals values code)) (Over values)))
      [ true ↦ rewritten_keeps s locals (after code) (effect w.program s.guest locals values code) r | false ↦ tt ]
  reduce_keeps s locals (Label values n again inner code) r =
      in_label_keeps s locals values n again code (reduce w s locals inner) r (reduce_keeps s locals inner r)
  reduce_keeps s locals (Frame values n own inner code) r =
      in_frame_keeps s locals values n code (reduce w s own inner) r (reduce_keeps s own inner r)

  stepped_keeps : (c : Config S) → P c.store.host → StepKeeps P Q (stepped w c)
  stepped_keeps c r =
      let p : P (paid w c.store).host = kept.burns c.store.host w.cost r in
      elim (has_instr c.seq) as (λ b. StepKeeps P Q
      (cond b (cond (nat_lt (w.host.gas c.store.host) w.cost) (Stopping (paid w c.store) GasExceeded)
      (reduce w (paid w c.store) c.locals c.seq)) (reduce w c.store c.locals c.seq))) [
        | true ↦ elim (nat_lt (w.host.gas c.store.host) w.cost)
            as (λ b. StepKeeps P Q (cond b (Stopping (paid w c.store) GasExceeded)
            (reduce w (paid w c.store) c.locals c.seq)))
            [ true ↦ kept.less (paid w c.store).host p | false ↦ reduce_keeps (paid w c.store) c.locals c.seq p ]
        | false ↦ reduce_keeps c.store c.locals c.seq r
      ]

  turn_keeps : (s : Runtime S) (step : Step S) (go : Config S → Outcome S) → P s.host
      → ((c : Config S) → P c.store.host → OutcomeKeeps P Q (go c)) → StepKeeps P Q step
      → OutcomeKeeps P Q (turn w s step go)
  turn_keeps s (To t locals seq) go r on k =
      elim (is_too_large w locals seq) as (λ b. OutcomeKeeps P Q
      (cond b (Halted t (Trap 8)) (go (record { store = t; locals = locals; seq = seq }))))
      [ true ↦ kept.less t.host k | false ↦ on (record { store = t; locals = locals; seq = seq }) k ]
  turn_keeps s (Over values) go r on k = r
  turn_keeps s (Branching depth values) go r on k = tt
  turn_keeps s (Returning values) go r on k = tt
  turn_keeps s (Stopping t stop) go r on k = k
  turn_keeps s NoRule go r on k = tt

  runs_keeps : (n : ℕ) (c : Config S) → P c.store.host → OutcomeKeeps P Q (runs w n c)
  runs_keeps zero c r = tt
  runs_keeps (suc n) c r = turn_keeps c.store (stepped w c) (runs w n) r (runs_keeps n) (stepped_keeps c r)

  run_in_keeps : (s : Runtime S) (func : Option Func) (n : ℕ) → P s.host → OutcomeKeeps P Q (run_in w s func n)
  run_in_keeps s None n r = tt
  run_in_keeps s (Some (Hosted sig name)) n r = tt
  run_in_keeps s (Some (Coded sig body)) n r =
      turn_keeps s (To s [] (Frame [] 0 (replicate (length body.locals) 0) (Plain [] body.code) End)) (runs w n) r
      (runs_keeps n) r

  -- what burning and calls keep holds at the end of a run, and where it stops
  pub run_keeps : (s : Runtime S) (f n : ℕ) → P s.host → OutcomeKeeps P Q (run_by w s f n)
  run_keeps s f n r = run_in_keeps s (func_at w.program f) n r

-- ---- how long a run is
abbrev depth : Seq → ℕ
depth (Plain values code) = 0
depth (Label values n again inner code) = depth inner + 1
depth (Frame values n own inner code) = depth inner + 1

-- the state behind an instruction has no more gas, and its sequence at most one more context
abbrev Grows : {S : Type 0} → HostMeaning S → ℕ → ℕ → Step S → Type 0
Grows m gas d (To s locals seq) = (m.gas s.host ≤ gas) × (depth seq ≤ d + 1)
Grows m gas d (Over values) = Unit {0}
Grows m gas d (Branching n values) = Unit {0}
Grows m gas d (Returning values) = Unit {0}
Grows m gas d (Stopping s stop) = Unit {0}
Grows m gas d NoRule = Unit {0}

-- the end of a sequence leaves the state, and one context less
abbrev Leaves : {S : Type 0} → Runtime S → ℕ → Step S → Type 0
Leaves s d (To t locals seq) = (t ≡ s) × (depth seq < d)
Leaves s d (Over values) = Unit {0}
Leaves s d (Branching n values) = ⊥
Leaves s d (Returning values) = ⊥
Leaves s d (Stopping t stop) = ⊥
Leaves s d NoRule = ⊥

-- twice the gas that is left, and the contexts
abbrev work : {S : Type 0} → HostMeaning S → Runtime S → Seq → ℕ
work m s seq = 2 * m.gas s.host + depth seq

abbrev Falls : {S : Type 0} → HostMeaning S → ℕ → Step S → Type 0
Falls m left (To t locals seq) = work m t seq < left
Falls m left (Over values) = Unit {0}
Falls m left (Branching n values) = Unit {0}
Falls m left (Returning values) = Unit {0}
Falls m left (Stopping t stop) = Unit {0}
Falls m left NoRule = Unit {0}

abbrev pub IsOver : {S : Type 0} → Outcome S → Type 0
IsOver (Done s) = Unit {0}
IsOver (Halted s stop) = Unit {0}
IsOver NeverFits = Unit {0}
IsOver Unfinished = ⊥

module _ {S : Type 0} (w : Rules S) (law : IsHost w.host) (cost : 1 ≤ w.cost) where
  answered_grows : (g : ℕ) (s : Runtime S) (answer : Answer) (locals values : List ℕ) (code : Code)
      → w.host.gas s.host ≤ g → Grows w.host g 0 (answered s answer locals values code)
  answered_grows g s (Gives value) locals values code le = (le, omega arith)
  answered_grows g s OutOfGas locals values code le = tt
  answered_grows g s (Fails kind) locals values code le = tt

  rewritten_grows : (g : ℕ) (s : Runtime S) (locals : List ℕ) (code : Code) (e : Effect) → w.host.gas s.host ≤ g
      → Grows w.host g 0 (rewritten w.host s locals code e)
  rewritten_grows g s locals code (Goes more values) le = (le, omega arith)
  rewritten_grows g s locals code (Writes guest values) le = (le, omega arith)
  rewritten_grows g s locals code (Opens values arity again body) le = (le, omega arith)
  rewritten_grows g s locals code (Invokes values arity own body) le = (le, omega arith)
  rewritten_grows g s locals code (Asks name args values) le =
      answered_grows g (behind_call s (call_of w.host s name args).store) (call_of w.host s name args).answer locals
      values code
      (omega (arith, le, law.no_more_gas (record { host = s.host; memory = s.guest.memory.bytes }) name args))
  rewritten_grows g s locals code (Branches d values) le = tt
  rewritten_grows g s locals code (Returns values) le = tt
  rewritten_grows g s locals code (Traps kind) le = tt
  rewritten_grows g s locals code Stuck le = tt

  left_over_grows : (g d : ℕ) (s : Runtime S) (locals : List ℕ) (n : ℕ) (inner values : List ℕ) (code : Code)
      → w.host.gas s.host ≤ g → Grows w.host g d (left_over s locals n inner values code)
  left_over_grows g d s locals n inner values code le =
      elim (nat_lt (length inner) n) as (λ b. Grows w.host g d
      (cond b NoRule (To s locals (Plain (take n inner ++ values) code)))) [ true ↦ tt | false ↦ (le, omega arith) ]

  in_label_grows : (g d : ℕ) (s : Runtime S) (locals values : List ℕ) (n : ℕ) (again code : Code) (step : Step S)
      → w.host.gas s.host ≤ g → Grows w.host g d step
      → Grows w.host g (d + 1) (in_label s locals values n again code step)
  in_label_grows g d s locals values n again code (To t more inner) le k = (k.0, omega (arith, k.1))
  in_label_grows g d s locals values n again code (Over inner) le k = (le, omega arith)
  in_label_grows g d s locals values n again code (Branching zero inner) le k =
      left_over_grows g (d + 1) s locals n inner values again le
  in_label_grows g d s locals values n again code (Branching (suc out) inner) le k = tt
  in_label_grows g d s locals values n again code (Returning inner) le k = tt
  in_label_grows g d s locals values n again code (Stopping t stop) le k = tt
  in_label_grows g d s locals values n again code NoRule le k = tt

  in_frame_grows : (g d : ℕ) (s : Runtime S) (locals values : List ℕ) (n : ℕ) (code : Code) (step : Step S)
      → w.host.gas s.host ≤ g → Grows w.host g d step → Grows w.host g (d + 1) (in_frame s locals values n code step)
  in_frame_grows g d s locals values n code (To t own inner) le k = (k.0, omega (arith, k.1))
  in_frame_grows g d s locals values n code (Over inner) le k = (le, omega arith)
  in_frame_grows g d s locals values n code (Branching zero inner) le k =
      left_over_grows g (d + 1) s locals n inner values code le
  in_frame_grows g d s locals values n code (Branching (suc out) inner) le k = tt
  in_frame_grows g d s locals values n code (Returning inner) le k =
      left_over_grows g (d + 1) s locals n inner values code le
  in_frame_grows g d s locals values n code (Stopping t stop) le k = tt
  in_frame_grows g d s locals values n code NoRule le k = tt

  reduce_grows : (g : ℕ) (s : Runtime S) (locals : List ℕ) (seq : Seq) → w.host.gas s.host ≤ g
      → Grows w.host g (depth seq) (reduce w s locals seq)
  reduce_grows g s locals (Plain values code) le =
      elim (begins code) as (λ b. Grows w.host g 0
      (cond b (rewritten w.host s locals (after code) (effect w.program s.guest locals values code)) (Over values)))
      [ true ↦ rewritten_grows g s locals (after code) (effect w.program s.guest locals values code) le | false ↦ tt ]
  reduce_grows g s locals (Label values n again inner code) le =
      in_label_grows g (depth inner) s locals values n again code (reduce w s locals inner) le
      (reduce_grows g s locals inner le)
  reduce_grows g s locals (Frame values n own inner code) le =
      in_frame_grows g (depth inner) s locals values n code (reduce w s own inner) le (reduce_grows g s own inner le)

  in_label_leaves : (d : ℕ) (s : Runtime S) (locals values : List ℕ) (n : ℕ) (again code : Code) (step : Step S)
      → Leaves s d step → Leaves s (d + 1) (in_label s locals values n again code step)
  in_label_leaves d s locals values n again code (To t more inner) k = (k.0, omega (arith, k.1))
  in_label_leaves d s locals values n again code (Over inner) k = (refl, omega arith)
  in_label_leaves d s locals values n again code (Branching out inner) k = absurd k
  in_label_leaves d s locals values n again code (Returning inner) k = absurd k
  in_label_leaves d s locals values n again code (Stopping t stop) k = absurd k
  in_label_leaves d s locals values n again code NoRule k = absurd k

  in_frame_leaves : (d : ℕ) (s : Runtime S) (locals values : List ℕ) (n : ℕ) (code : Code) (step : Step S)
      → Leaves s d step → Leaves s (d + 1) (in_frame s locals values n code step)
  in_frame_leaves d s locals values n code (To t own inner) k = (k.0, omega (arith, k.1))
  in_frame_leaves d s locals values n code (Over inner) k = (refl, omega arith)
  in_frame_leaves d s locals values n code (Branching out inner) k = absurd k
  in_frame_leaves d s locals values n code (Returning inner) k = absurd k
  in_frame_leaves d s locals values n code (Stopping t stop) k = absurd k
  in_frame_leaves d s locals values n code NoRule k = absurd k

  reduce_leaves : (s : Runtime S) (locals : List ℕ) (seq : Seq) → has_instr seq ≡ false
      → Leaves s (depth seq) (reduce w s locals seq)
  reduce_leaves s locals (Plain values code) e = rw e tt
  reduce_leaves s locals (Label values n again inner code) e =
      in_label_leaves (depth inner) s locals values n again code (reduce w s locals inner)
      (reduce_leaves s locals inner e)
  reduce_leaves s locals (Frame values n own inner code) e =
      in_frame_leaves (depth inner) s locals values n code (reduce w s own inner) (reduce_leaves s own inner e)

  falls_by_gas : (g h d : ℕ) (step : Step S) → h < g → Grows w.host h d step → Falls w.host (2 * g + d) step
  falls_by_gas g h d (To t locals seq) lt k = omega (arith, lt, k.0, k.1)
  falls_by_gas g h d (Over values) lt k = tt
  falls_by_gas g h d (Branching out values) lt k = tt
  falls_by_gas g h d (Returning values) lt k = tt
  falls_by_gas g h d (Stopping t stop) lt k = tt
  falls_by_gas g h d NoRule lt k = tt

  falls_by_depth : (s : Runtime S) (d : ℕ) (step : Step S) → Leaves s d step
      → Falls w.host (2 * w.host.gas s.host + d) step
  falls_by_depth s d (To t locals seq) k = rw k.0 (omega (arith, k.1))
  falls_by_depth s d (Over values) k = tt
  falls_by_depth s d (Branching out values) k = absurd k
  falls_by_depth s d (Returning values) k = absurd k
  falls_by_depth s d (Stopping t stop) k = absurd k
  falls_by_depth s d NoRule k = absurd k

  not_less : (a b : ℕ) → nat_lt a b ≡ false → b ≤ a
  not_less a b e = grind (arith, e)

  paid_gas : (s : Runtime S) → nat_lt (w.host.gas s.host) w.cost ≡ false
      → w.host.gas (paid w s).host < w.host.gas s.host
  paid_gas s e =
      let rich : w.cost ≤ w.host.gas s.host = not_less (w.host.gas s.host) w.cost e in
      omega (arith, rich, cost, law.gas_is s.host (w.host.gas s.host - w.cost) (omega arith))

  stepped_falls : (c : Config S) → Falls w.host (work w.host c.store c.seq) (stepped w c)
  stepped_falls c = by_instr (has_instr c.seq) refl
    where
      rest : (b : Bool) → nat_lt (w.host.gas c.store.host) w.cost ≡ b
          → Falls w.host (work w.host c.store c.seq)
          (cond b (Stopping (paid w c.store) GasExceeded) (reduce w (paid w c.store) c.locals c.seq))
      rest true e = tt
      rest false e =
          falls_by_gas (w.host.gas c.store.host) (w.host.gas (paid w c.store).host) (depth c.seq)
          (reduce w (paid w c.store) c.locals c.seq) (paid_gas c.store e)
          (reduce_grows (w.host.gas (paid w c.store).host) (paid w c.store) c.locals c.seq (omega arith))

      by_instr : (b : Bool) → has_instr c.seq ≡ b → Falls w.host (work w.host c.store c.seq) (stepped w c)
      by_instr true e = rw e (rest (nat_lt (w.host.gas c.store.host) w.cost) refl)
      by_instr false e =
          rw e (falls_by_depth c.store (depth c.seq) (reduce w c.store c.locals c.seq)
          (reduce_leaves c.store c.locals c.seq e))

  turn_ends : (n : ℕ) (s : Runtime S) (left : ℕ) (step : Step S)
      → ((c : Config S) → work w.host c.store c.seq < n → IsOver (runs w n c)) → left ≤ n → Falls w.host left step
      → IsOver (turn w s step (runs w n))
  turn_ends n s left (To t locals seq) on le k =
      elim (is_too_large w locals seq) as (λ b. IsOver
      (cond b (Halted t (Trap 8)) (runs w n (record { store = t; locals = locals; seq = seq }))))
      [ true ↦ tt | false ↦ on (record { store = t; locals = locals; seq = seq }) (omega (arith, k, le)) ]
  turn_ends n s left (Over values) on le k = tt
  turn_ends n s left (Branching out values) on le k = tt
  turn_ends n s left (Returning values) on le k = tt
  turn_ends n s left (Stopping t stop) on le k = tt
  turn_ends n s left NoRule on le k = tt

  -- a run has fewer steps than twice its gas and its contexts
  runs_end : (n : ℕ) (c : Config S) → work w.host c.store c.seq < n → IsOver (runs w n c)
  runs_end zero c lt = absurd (omega (arith, lt))
  runs_end (suc n) c lt =
      turn_ends n c.store (work w.host c.store c.seq) (stepped w c) (runs_end n) (omega (arith, lt)) (stepped_falls c)

  pub run_ends : (s : Runtime S) (f n : ℕ) → 2 * w.host.gas s.host + 1 < n → IsOver (run_by w s f n)
  run_ends s f n lt = by_func (func_at w.program f)
    where
      by_func : (func : Option Func) → IsOver (run_in w s func n)
      by_func None = tt
      by_func (Some (Hosted sig name)) = tt
      by_func (Some (Coded sig body)) =
          turn_ends n s (2 * w.host.gas s.host + 2) (To s []
          (Frame [] 0 (replicate (length body.locals) 0) (Plain [] body.code) End)) (runs_end n) (omega (arith, lt))
          (omega arith)

-- ---- a run that is over stays so
module _ {S : Type 0} (w : Rules S) where
  turn_stays : (s : Runtime S) (step : Step S) (go on : Config S → Outcome S)
      → ((c : Config S) → IsOver (go c) → on c ≡ go c) → IsOver (turn w s step go)
      → turn w s step on ≡ turn w s step go
  turn_stays s (To t locals seq) go on same o = by_size (is_too_large w locals seq) o
    where
      by_size : (b : Bool)
          → IsOver (cond b (Halted t (Trap 8)) (go (record { store = t; locals = locals; seq = seq })))
          → cond b (Halted t (Trap 8)) (on (record { store = t; locals = locals; seq = seq }))
          ≡ cond b (Halted t (Trap 8)) (go (record { store = t; locals = locals; seq = seq }))
      by_size true o = refl
      by_size false o = same (record { store = t; locals = locals; seq = seq }) o
  turn_stays s (Over values) go on same o = refl
  turn_stays s (Branching out values) go on same o = refl
  turn_stays s (Returning values) go on same o = refl
  turn_stays s (Stopping t stop) go on same o = refl
  turn_stays s NoRule go on same o = refl

  runs_stay : (n k : ℕ) (c : Config S) → IsOver (runs w n c) → runs w (n + k) c ≡ runs w n c
  runs_stay zero k c o = absurd o
  runs_stay (suc n) k c o =
      let e : suc (n + k) ≡ suc n + k = omega arith in
      subst (λ m. runs w m c ≡ runs w (suc n) c) e
      (turn_stays c.store (stepped w c) (runs w n) (runs w (n + k)) (runs_stay n k) o)

  run_in_stays : (s : Runtime S) (func : Option Func) (n k : ℕ) → IsOver (run_in w s func n)
      → run_in w s func (n + k) ≡ run_in w s func n
  run_in_stays s None n k o = refl
  run_in_stays s (Some (Hosted sig name)) n k o = refl
  run_in_stays s (Some (Coded sig body)) n k o =
      turn_stays s (To s [] (Frame [] 0 (replicate (length body.locals) 0) (Plain [] body.code) End)) (runs w n)
      (runs w (n + k)) (runs_stay n k) o

  -- two runs that are over are the same
  pub run_same : (s : Runtime S) (f n m : ℕ) → IsOver (run_by w s f n) → IsOver (run_by w s f m)
      → run_by w s f n ≡ run_by w s f m
  run_same s f n m o p = by_order (nat_lt n m) refl
    where
      by_order : (b : Bool) → nat_lt n m ≡ b → run_by w s f n ≡ run_by w s f m
      by_order true e =
          let le : n + (m - n) ≡ m = grind (arith, e) in
          subst (λ k. run_by w s f n ≡ run_by w s f k) le (sym (run_in_stays s (func_at w.program f) n (m - n) o))
      by_order false e =
          let le : m + (n - m) ≡ n = grind (arith, e) in
          subst (λ k. run_by w s f k ≡ run_by w s f m) le (run_in_stays s (func_at w.program f) m (n - m) p)
