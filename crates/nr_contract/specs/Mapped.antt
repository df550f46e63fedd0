-- Runs over a host whose states are mapped: where a map keeps the gas, and goes with calls, it goes with runs. This
-- project's own.
use Rattle.std.specs.Prelude.{◌≡◌, ℕ, zero, suc, ◌-◌, true, false, cond, nat_lt, List, [], ◌++◌}
use Rattle.std.specs.Prelude.{length, take, replicate, Option, Some, None, refl}
use Rattle.std.proofs.Common.{ap, ◌∙◌}
use Rattle.nr_wasmtypes.specs.declared.host.HostFn.{HostFn}
use Rattle.nr_wasmtypes.specs.Code.{Code, End, after, begins}
use Rattle.nr_wasmmem.specs.Meaning.{Answer, Gives, OutOfGas, Fails, Store, Called, HostMeaning}
use Rattle.nr_wasmexec.specs.Functions.{Func, Hosted, Coded, func_at}
use Rattle.nr_wasmexec.specs.Reduction.{Seq, Plain, Label, Frame, Trap, GasExceeded, Effect, Goes, Writes, Opens}
use Rattle.nr_wasmexec.specs.Reduction.{Invokes, Asks, Branches, Returns, Traps, Stuck, effect, Runtime, Step, To, Over}
use Rattle.nr_wasmexec.specs.Reduction.{Branching, Returning, Stopping, NoRule, Rules, Config, call_of, behind_call}
use Rattle.nr_wasmexec.specs.Reduction.{answered, rewritten, left_over, in_label, in_frame, reduce, has_instr}
use Rattle.nr_wasmexec.specs.Reduction.{is_too_large, paid, stepped, Outcome, Done, Halted, NeverFits, Unfinished, turn}
use Rattle.nr_wasmexec.specs.Reduction.{runs, run_in, run_by}

abbrev pub map_store : {S : Type 0} → (S → S) → Store S → Store S
map_store h s = record { host = h s.host; memory = s.memory }

abbrev pub map_called : {S : Type 0} → (S → S) → Called S → Called S
map_called h c = record { store = map_store h c.store; answer = c.answer }

-- the map keeps the gas, and goes with burning and with calls
pub record IsMapped {S : Type 0} (m : HostMeaning S) (h : S → S) : Type 0 where
  pub gas : (s : S) → m.gas (h s) ≡ m.gas s
  pub burns : (s : S) (n : ℕ) → m.with_gas (h s) n ≡ h (m.with_gas s n)
  pub calls : (s : Store S) (f : HostFn) (args : List ℕ) → m.call (map_store h s) f args
      ≡ map_called h (m.call s f args)

abbrev pub map_runtime : {S : Type 0} → (S → S) → Runtime S → Runtime S
map_runtime h s = record { host = h s.host; guest = s.guest }

abbrev pub map_step : {S : Type 0} → (S → S) → Step S → Step S
map_step h (To s locals seq) = To (map_runtime h s) locals seq
map_step h (Over values) = Over values
map_step h (Branching depth values) = Branching depth values
map_step h (Returning values) = Returning values
map_step h (Stopping s stop) = Stopping (map_runtime h s) stop
map_step h NoRule = NoRule

abbrev pub map_outcome : {S : Type 0} → (S → S) → Outcome S → Outcome S
map_outcome h (Done s) = Done (map_runtime h s)
map_outcome h (Halted s stop) = Halted (map_runtime h s) stop
map_outcome h NeverFits = NeverFits
map_outcome h Unfinished = Unfinished

module _ {S : Type 0} (w : Rules S) (h : S → S) (is : IsMapped w.host h) where
  abbrev at : Runtime S → Runtime S
  at s = map_runtime h s

  answered_mapped : (s : Runtime S) (answer : Answer) (locals values : List ℕ) (code : Code)
      → answered (at s) answer locals values code ≡ map_step h (answered s answer locals values code)
  answered_mapped s (Gives value) locals values code = refl
  answered_mapped s OutOfGas locals values code = refl
  answered_mapped s (Fails kind) locals values code = refl

  rewritten_mapped : (s : Runtime S) (locals : List ℕ) (code : Code) (e : Effect)
      → rewritten w.host (at s) locals code e ≡ map_step h (rewritten w.host s locals code e)
  rewritten_mapped s locals code (Goes more values) = refl
  rewritten_mapped s locals code (Writes guest values) = refl
  rewritten_mapped s locals code (Opens values arity again body) = refl
  rewritten_mapped s locals code (Invokes values arity own body) = refl
  rewritten_mapped s locals code (Asks name args values) =
      ap (λ (c : Called S). answered (behind_call (at s) c.store) c.answer locals values code)
      (is.calls (record { host = s.host; memory = s.guest.memory.bytes }) name args)
      ∙ answered_mapped (behind_call s (call_of w.host s name args).store) (call_of w.host s name args).answer locals
      values code
  rewritten_mapped s locals code (Branches depth values) = refl
  rewritten_mapped s locals code (Returns values) = refl
  rewritten_mapped s locals code (Traps kind) = refl
  rewritten_mapped s locals code Stuck = refl

  left_over_mapped : (s : Runtime S) (locals : List ℕ) (n : ℕ) (inner values : List ℕ) (code : Code)
      → left_over (at s) locals n inner values code ≡ map_step h (left_over s locals n inner values code)
  left_over_mapped s locals n inner values code =
      elim (nat_lt (length inner) n) as (λ b. cond b NoRule (To (at s) locals (Plain (take n inner ++ values) code))
      ≡ map_step h (cond b NoRule (To s locals (Plain (take n inner ++ values) code)))) [ true ↦ refl | false ↦ refl ]

  in_label_mapped : (s : Runtime S) (locals values : List ℕ) (n : ℕ) (again code : Code) (step : Step S)
      → in_label (at s) locals values n again code (map_step h step)
      ≡ map_step h (in_label s locals values n again code step)
  in_label_mapped s locals values n again code (To t more inner) = refl
  in_label_mapped s locals values n again code (Over inner) = refl
  in_label_mapped s locals values n again code (Branching zero inner) = left_over_mapped s locals n inner values again
  in_label_mapped s locals values n again code (Branching (suc depth) inner) = refl
  in_label_mapped s locals values n again code (Returning inner) = refl
  in_label_mapped s locals values n again code (Stopping t stop) = refl
  in_label_mapped s locals values n again code NoRule = refl

  in_frame_mapped : (s : Runtime S) (locals values : List ℕ) (n : ℕ) (code : Code) (step : Step S)
      → in_frame (at s) locals values n code (map_step h step) ≡ map_step h (in_frame s locals values n code step)
  in_frame_mapped s locals values n code (To t own inner) = refl
  in_frame_mapped s locals values n code (Over inner) = refl
  in_frame_mapped s locals values n code (Branching zero inner) = left_over_mapped s locals n inner values code
  in_frame_mapped s locals values n code (Branching (suc depth) inner) = refl
  in_frame_mapped s locals values n code (Returning inner) = left_over_mapped s locals n inner values code
  in_frame_mapped s locals values n code (Stopping t stop) = refl
  in_frame_mapped s locals values n code NoRule = refl

  reduce_mapped : (s : Runtime S) (locals : List ℕ) (seq : Seq)
      → reduce w (at s) locals seq ≡ map_step h (reduce w s locals seq)
  reduce_mapped s locals (Plain values code) =
      elim (begins code) as (λ b. cond b
      (rewritten w.host (at s) locals (after code) (effect w.program s.guest locals values code)) (Over values)
      ≡ map_step h (cond b
      (rewritten w.host s locals (after code) (effect w.program s.guest locals values code)) (Over values)))
      [ true ↦ rewritten_mapped s locals (after code) (effect w.program s.guest locals values code) | false ↦ refl ]
  reduce_mapped s locals (Label values n again inner code) =
      ap (in_label (at s) locals values n again code) (reduce_mapped s locals inner)
      ∙ in_label_mapped s locals values n again code (reduce w s locals inner)
  reduce_mapped s locals (Frame values n own inner code) =
      ap (in_frame (at s) locals values n code) (reduce_mapped s own inner)
      ∙ in_frame_mapped s locals values n code (reduce w s own inner)

  paid_mapped : (s : Runtime S) → paid w (at s) ≡ at (paid w s)
  paid_mapped s = λ i. record {
    host = (ap (λ g. w.host.with_gas (h s.host) (g - w.cost)) (is.gas s.host)
        ∙ is.burns s.host (w.host.gas s.host - w.cost)) i;
    guest = s.guest;
  }

  abbrev from : Config S → Config S
  from c = record c { store = at c.store }

  stepped_mapped : (c : Config S) → stepped w (from c) ≡ map_step h (stepped w c)
  stepped_mapped c =
      elim (has_instr c.seq) as (λ b. cond b
      (cond (nat_lt (w.host.gas (h c.store.host)) w.cost) (Stopping (paid w (at c.store)) GasExceeded)
      (reduce w (paid w (at c.store)) c.locals c.seq)) (reduce w (at c.store) c.locals c.seq)
      ≡ map_step h (cond b (cond (nat_lt (w.host.gas c.store.host) w.cost) (Stopping (paid w c.store) GasExceeded)
      (reduce w (paid w c.store) c.locals c.seq)) (reduce w c.store c.locals c.seq))) [
        | true ↦ (λ i. cond (nat_lt (is.gas c.store.host i) w.cost) (Stopping (paid_mapped c.store i) GasExceeded)
            (reduce w (paid_mapped c.store i) c.locals c.seq))
            ∙ elim (nat_lt (w.host.gas c.store.host) w.cost) as (λ b.
            cond b (Stopping (at (paid w c.store)) GasExceeded) (reduce w (at (paid w c.store)) c.locals c.seq)
            ≡ map_step h (cond b (Stopping (paid w c.store) GasExceeded) (reduce w (paid w c.store) c.locals c.seq)))
            [ true ↦ refl | false ↦ reduce_mapped (paid w c.store) c.locals c.seq ]
        | false ↦ reduce_mapped c.store c.locals c.seq
      ]

  turn_mapped : (s : Runtime S) (step : Step S) (go : Config S → Outcome S)
      → ((c : Config S) → go (from c) ≡ map_outcome h (go c))
      → turn w (at s) (map_step h step) go ≡ map_outcome h (turn w s step go)
  turn_mapped s (To t locals seq) go on =
      elim (is_too_large w locals seq) as (λ b.
      cond b (Halted (at t) (Trap 8)) (go (record { store = at t; locals = locals; seq = seq }))
      ≡ map_outcome h (cond b (Halted t (Trap 8)) (go (record { store = t; locals = locals; seq = seq }))))
      [ true ↦ refl | false ↦ on (record { store = t; locals = locals; seq = seq }) ]
  turn_mapped s (Over values) go on = refl
  turn_mapped s (Branching depth values) go on = refl
  turn_mapped s (Returning values) go on = refl
  turn_mapped s (Stopping t stop) go on = refl
  turn_mapped s NoRule go on = refl

  runs_mapped : (n : ℕ) (c : Config S) → runs w n (from c) ≡ map_outcome h (runs w n c)
  runs_mapped zero c = refl
  runs_mapped (suc n) c =
      ap (λ step. turn w (at c.store) step (runs w n)) (stepped_mapped c)
      ∙ turn_mapped c.store (stepped w c) (runs w n) (runs_mapped n)

  run_in_mapped : (s : Runtime S) (func : Option Func) (n : ℕ) → run_in w (at s) func n
      ≡ map_outcome h (run_in w s func n)
  run_in_mapped s None n = refl
  run_in_mapped s (Some (Hosted sig name)) n = refl
  run_in_mapped s (Some (Coded sig body)) n =
      turn_mapped s (To s [] (Frame [] 0 (replicate (length body.locals) 0) (Plain [] body.code) End)) (runs w n)
      (runs_mapped n)

  pub run_mapped : (s : Runtime S) (f n : ℕ) → run_by w (at s) f n ≡ map_outcome h (run_by w s f n)
  run_mapped s f n = run_in_mapped s (func_at w.program f) n
