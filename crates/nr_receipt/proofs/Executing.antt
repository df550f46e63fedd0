-- What executions and settlements keep.
use Rattle.std.proofs.Common.{◌≡◌, ℕ, ◌+◌, ◌*◌, ◌^◌, ◌<◌, ◌≤◌, Bool, true, false, cond, List, [], length, Option, Some, None, refl, sym, ap, ◌∙◌, arith}
use Rattle.std.specs.Prelude.{◌==◌, ◌-◌}
use Rattle.std.specs.FinMap.{get}
use Rattle.std.specs.List.{AllByRecursion}
use Rattle.std.proofs.lemmas.Bool.{eqb-true}
use Rattle.nr_actions.specs.Accounts.{with_deposit}
use Rattle.nr_actions.specs.Calling.{price_of}
use Rattle.nr_actions.specs.declared.frame.Frame.{Frame}
use Rattle.nr_config.specs.Config.{Config, IsValidConfig}
use Rattle.nr_fees.specs.Fees.{attached_gas, body_gas, body_price, body_tokens, deposits, gas_of, receipt_tokens}
use Rattle.nr_ids.specs.Grammar.{is_system}
use Rattle.nr_receipt.specs.Drawing.{deposits_back, deposits_lost, given_up, with_gas_refund, with_result}
use Rattle.nr_receipt.specs.Execution.{Execution, concluded, dropped, ended, execute, failed, settle_clash, status_of, succeeded}
use Rattle.nr_receipt.specs.Frames.{burning_price, burnt_gas, first_frame, gas_back, prepaid}
use Rattle.nr_receipt.specs.Keeping.{HasSmallCalls, IsExecuted, IsSettled}
use Rattle.nr_receipt.specs.Parts.{IsReady}
use Rattle.nr_receipt.specs.Rewards.{paid_to, reward_of, reward_paid, richer, with_reward}
use Rattle.nr_receipt.specs.Running.{Ran, Done, Broken, run_actions}
use Rattle.nr_receipt.proofs.Amounts.{all_spent, burnt_within, call_paid, gas_tokens, reward_within}
use Rattle.nr_receipt.proofs.Concluding.{back_or_lost, has_run}
use Rattle.nr_receipt.proofs.Giving.{IsGiven, failure_given, gas_given, result_given}
use Rattle.nr_receipt.proofs.Small.{small_body}
use Rattle.nr_receipt.proofs.Underway.{AreActionLaws, AreSmall, IsRan, IsStopped, IsUnderway}
use Rattle.nr_records.specs.declared.account.Account.{Account}
use Rattle.nr_records.specs.declared.chunk_result.RunStatus.{RunStatus}
use Rattle.nr_records.specs.declared.chunk_result.RunStatus.TheVariants as status
use Rattle.nr_records.specs.declared.receipt.ActionReceipt.{ActionReceipt}
use Rattle.nr_records.specs.declared.receipt.Body.TheVariants.{Act}
use Rattle.nr_records.specs.declared.receipt.Receipt.{Receipt}
use Rattle.nr_state.specs.Calls.{Called}
use Rattle.nr_state.specs.Keeping.{IsKept, MovesTokens}
use Rattle.nr_state.specs.Tokens.{list_tokens, world_tokens}
use Rattle.nr_state.specs.Valid.{IsBounded, IsValidWorld}
use Rattle.nr_state.specs.World.{World, with_account}
use Rattle.nr_state.specs.declared.calls.CallContext.{CallContext}
use Rattle.nr_state.specs.declared.place.Place.{Place}

-- ---- the reward
-- the world once a reward was paid
record IsRewarded (c : Config) (w : World) (paid : ℕ) (after : World) : Type 0 where
  tokens : world_tokens c after ≡ world_tokens c w + paid
  valid : IsValidWorld c w → world_tokens c w + paid ≤ 2 ^ 127 → IsValidWorld c after
  rest : after ≡ record w { accounts = after.accounts; keys = after.keys; code = after.code; data_of = after.data_of }

module _ (c : Config) (kept : (w : World) → IsValidWorld c w → IsKept c w) (moves : (w : World) → MovesTokens c w) where
  to_account : (w : World) (id : List ℕ) (reward : ℕ) (o : Option Account) → get w.accounts id ≡ o → IsRewarded c w (paid_to o reward) (richer w id o reward)
  to_account w id reward None is = record { tokens = omega arith; valid = λ valid within. valid; rest = refl }
  to_account w id reward (Some account) is =
      let after : World = with_account w id (with_deposit account reward) in
      let tokens : world_tokens c after ≡ world_tokens c w + reward = omega (arith, (moves w).account_changed id account (with_deposit account reward) is) in
      record {
        tokens = tokens;
        valid = λ valid within. (kept w valid).account_changed id account (with_deposit account reward) is refl refl (omega (arith, tokens, within));
        rest = refl;
      }

  paid_nothing : (o : Option Account) (reward : ℕ) → reward ≡ 0 → paid_to o reward ≡ 0
  paid_nothing None reward e = refl
  paid_nothing (Some account) reward e = e

  paid_less : (o : Option Account) (reward : ℕ) → paid_to o reward ≤ reward
  paid_less None reward = omega arith
  paid_less (Some account) reward = omega arith

  reward_by : (w : World) (id : List ℕ) (reward : ℕ) (b : Bool) → (reward == 0) ≡ b → IsRewarded c w (reward_paid w id reward) (cond b w (richer w id (get w.accounts id) reward))
  reward_by w id reward true e =
      let none : reward_paid w id reward ≡ 0 = paid_nothing (get w.accounts id) reward (eqb-true reward 0 e) in
      record { tokens = omega (arith, none); valid = λ valid within. valid; rest = refl }
  reward_by w id reward false e = to_account w id reward (get w.accounts id) refl

  rewarded : (w : World) (id : List ℕ) (reward : ℕ) → IsRewarded c w (reward_paid w id reward) (with_reward w id reward)
  rewarded w id reward = reward_by w id reward (reward == 0) refl

  -- ---- the conclusion, with the frame that has the outputs' receipts
  module _ (config : IsValidConfig c) (w : World) (g : Frame) (gas lost : ℕ) (enough : g.call_burnt * burning_price g ≤ gas * burning_price g) where
    reward_small : reward_paid w g.receiver (reward_of c g) ≤ gas * burning_price g
    reward_small = omega (arith, enough, reward_within c config.reward g, paid_less (get w.accounts g.receiver) (reward_of c g))

    record IsConcluded (e : Execution) : Type 0 where
      valid : IsValidWorld c w → world_tokens c w + gas * burning_price g ≤ 2 ^ 127 → IsValidWorld c e.world
      tokens : world_tokens c e.world + list_tokens c e.executed.made + e.executed.outcome.burnt ≡ world_tokens c w + list_tokens c g.made + (gas * burning_price g + gas_back c g gas) + lost
      rest : e.world ≡ record w { accounts = e.world.accounts; keys = e.world.keys; code = e.world.code; data_of = e.world.data_of }
      bounded : AllByRecursion (IsBounded c) g.made → AllByRecursion (IsBounded c) e.executed.made
      calls : AllByRecursion (λ r. HasSmallCalls r.body) g.made → AllByRecursion (λ r. HasSmallCalls r.body) e.executed.made

    conclusion : (status : RunStatus) → IsConcluded (concluded c w g status gas lost)
    conclusion status =
        let r : IsRewarded c w (reward_paid w g.receiver (reward_of c g)) (with_reward w g.receiver (reward_of c g)) = rewarded w g.receiver (reward_of c g) in
        let refunded : IsGiven c (gas_back c g gas) g (with_gas_refund c gas g) = gas_given c gas g in
        record {
          valid = λ valid within. r.valid valid (omega (arith, within, reward_small));
          tokens = omega (arith, r.tokens, refunded.tokens, reward_small);
          rest = r.rest;
          bounded = refunded.bounded;
          calls = refunded.calls;
        }

  -- ---- from a receipt that is ready
  module _ (config : IsValidConfig c) (w0 : World) (f0 : Frame) (ready : IsReady c w0 f0) where
    record IsEnded (e : Execution) : Type 0 where
      valid : IsValidWorld c e.world
      tokens : world_tokens c e.world + list_tokens c e.executed.made + e.executed.outcome.burnt ≡ world_tokens c w0 + (deposits f0.act.actions + prepaid c f0 * price_of f0)
      rest : e.world ≡ record w0 { accounts = e.world.accounts; keys = e.world.keys; code = e.world.code; data_of = e.world.data_of }
      gas : e.executed.outcome.gas ≤ prepaid c f0
      bounded : AreSmall f0.act.actions → AllByRecursion (IsBounded c) e.executed.made
      calls : AreSmall f0.act.actions → AllByRecursion (λ r. HasSmallCalls r.body) e.executed.made

    well_ended : (after : World) (f : Frame) → IsUnderway c w0 f0 [] after f → IsEnded (succeeded c after f)
    well_ended after f u =
        let n : ℕ = length f.act.actions in
        let gas : ℕ = burnt_gas c f n in
        let g : Frame = with_result f.returned f in
        let given : IsGiven c 0 f g = result_given c f.returned f in
        let own : attached_gas f.act.actions ≡ attached_gas f0.act.actions = ap (λ (k : Frame). attached_gas k.act.actions) u.receipt in
        let cost : prepaid c f * price_of f ≡ prepaid c f0 * price_of f0 = ap (λ (k : Frame). prepaid c k * price_of k) u.receipt in
        let paid : prepaid c f ≡ prepaid c f0 = ap (prepaid c) u.receipt in
        let same_call : g.call_burnt * burning_price g ≡ f.call_burnt * burning_price f = ap (λ (k : Frame). k.call_burnt * burning_price k) given.same in
        let same_gas : gas * burning_price g ≡ gas * burning_price f = ap (λ (k : Frame). gas * burning_price k) given.same in
        let same_left : gas_back c g gas ≡ gas_back c f gas = ap (λ (k : Frame). gas_back c k gas) given.same in
        let promised : f.promised * price_of f ≡ f.promised * price_of f0 = ap (λ p. f.promised * p) (ap price_of u.receipt) in
        let spent : gas * burning_price f + gas_back c f gas + f.promised * price_of f ≡ prepaid c f * price_of f = all_spent c f n (omega (arith, u.gas, own)) in
        let con : IsConcluded config after g gas 0 (omega (arith, same_call, same_gas, call_paid c f n)) (succeeded c after f) = conclusion config after g gas 0 (omega (arith, same_call, same_gas, call_paid c f n)) (status_of f.returned) in
        record {
          valid = con.valid u.valid (omega (arith, u.tokens, spent, cost, promised, same_gas, ready.room));
          tokens = omega (arith, con.tokens, given.tokens, u.tokens, spent, cost, promised, same_gas, same_left);
          rest = con.rest ∙ ap (λ (v : World). record v { accounts = (succeeded c after f).world.accounts; keys = (succeeded c after f).world.keys; code = (succeeded c after f).world.code; data_of = (succeeded c after f).world.data_of }) u.rest;
          gas = omega (arith, paid, burnt_within c f n (omega (arith, u.gas, own)));
          bounded = λ most. con.bounded (given.bounded (u.bounded ready.price most));
          calls = λ most. con.calls (given.calls (u.calls most));
        }

    ill_ended : (index kind part : ℕ) (f : Frame) → IsStopped f0 f → IsEnded (failed c w0 index kind part (dropped f))
    ill_ended index kind part f u =
        let n : ℕ = index + 1 in
        let d : Frame = dropped f in
        let gas : ℕ = burnt_gas c d n in
        let lost : ℕ = deposits_lost d in
        let g : Frame = given_up d in
        let given : IsGiven c (deposits_back d) d g = failure_given c d in
        let own : attached_gas f.act.actions ≡ attached_gas f0.act.actions = ap (λ (k : Frame). attached_gas k.act.actions) u.receipt in
        let brought : deposits f.act.actions ≡ deposits f0.act.actions = ap (λ (k : Frame). deposits k.act.actions) u.receipt in
        let cost : prepaid c f * price_of f ≡ prepaid c f0 * price_of f0 = ap (λ (k : Frame). prepaid c k * price_of k) u.receipt in
        let paid : prepaid c f ≡ prepaid c f0 = ap (prepaid c) u.receipt in
        let same_call : g.call_burnt * burning_price g ≡ d.call_burnt * burning_price d = ap (λ (k : Frame). k.call_burnt * burning_price k) given.same in
        let same_gas : gas * burning_price g ≡ gas * burning_price d = ap (λ (k : Frame). gas * burning_price k) given.same in
        let same_left : gas_back c g gas ≡ gas_back c d gas = ap (λ (k : Frame). gas_back c k gas) given.same in
        let spent : gas * burning_price d + gas_back c d gas + d.promised * price_of d ≡ prepaid c d * price_of d = all_spent c d n (omega (arith, u.burnt, own)) in
        let con : IsConcluded config w0 g gas lost (omega (arith, same_call, same_gas, call_paid c d n)) (failed c w0 index kind part d) = conclusion config w0 g gas lost (omega (arith, same_call, same_gas, call_paid c d n)) (status.Failure index kind part) in
        record {
          valid = con.valid ready.valid (omega (arith, spent, cost, same_gas, ready.room));
          tokens = omega (arith, con.tokens, given.tokens, spent, cost, same_gas, same_left, brought, back_or_lost d);
          rest = con.rest;
          gas = omega (arith, paid, burnt_within c d n (omega (arith, u.burnt, own)));
          bounded = λ most. con.bounded (given.bounded tt);
          calls = λ most. con.calls (given.calls tt);
        }

    has_ended : (ran : Ran) → IsRan c w0 f0 ran → IsEnded (ended c w0 ran)
    has_ended (Done after f) u = well_ended after f u
    has_ended (Broken index kind part f) u = ill_ended index kind part f u

-- ---- a receipt and its first frame
module _ (c : Config) (r : Receipt) (act : ActionReceipt) (inputs : List (Option (List ℕ))) (place : Place) (body : r.body ≡ Act act) where
  abbrev pub first : Frame
  first = first_frame r act inputs place

  pub holds : receipt_tokens c r ≡ deposits act.actions + prepaid c first * price_of first
  holds = ap (λ b. body_tokens c (is_system r.predecessor) b) body ∙ ap (λ n. deposits act.actions + n) (sym (gas_tokens c first))

  pub pays : gas_of c r ≡ prepaid c first
  pays = ap (λ b. body_gas c (is_system r.predecessor) b) body

  pub costs : IsBounded c r → act.gas_price < 2 ^ 64
  costs h = let e : body_price r.body ≡ act.gas_price = ap body_price body in omega (arith, e, h.price)

  pub is_ready : (w : World) → IsValidWorld c w → IsBounded c r → world_tokens c w + receipt_tokens c r ≤ 2 ^ 127 → IsReady c w first
  is_ready w valid h within =
      record {
        valid = valid;
        price = costs h;
        gas = omega (arith, pays, h.gas);
        room = omega (arith, holds, within);
        made = refl;
        returned = refl;
        burnt = refl;
        promised = refl;
      }

  of_actions : HasSmallCalls r.body → AreSmall act.actions
  of_actions h = rw body at h

  pub is_executed : ((w : World) → IsValidWorld c w → IsKept c w) → ((w : World) → MovesTokens c w) → IsValidConfig c → (call : World → CallContext → Called) → AreActionLaws c call
      → (w : World) → IsValidWorld c w → IsBounded c r → world_tokens c w + receipt_tokens c r ≤ 2 ^ 127 → IsExecuted c w r (execute c call w r act inputs place)
  unfolding execute
  is_executed kept moves config call laws w valid h within =
      let ready : IsReady c w first = is_ready w valid h within in
      let e : IsEnded c kept moves config w first ready (ended c w (run_actions c call w first)) = has_ended c kept moves config w first ready (run_actions c call w first) (has_run c w first ready call laws) in
      record {
        valid = e.valid;
        tokens = omega (arith, e.tokens, holds);
        rest = e.rest;
        gas = omega (arith, e.gas, pays);
        bounded = λ h. e.bounded (of_actions h);
        calls = λ h. e.calls (of_actions h);
      }

-- ---- a clash
pub is_settled : (c : Config) (r : Receipt) (act : ActionReceipt) (place : Place) → r.body ≡ Act act → IsBounded c r → IsSettled c r (settle_clash c r act place)
unfolding settle_clash
is_settled c r act place body h =
    let f : Frame = first_frame r act [] place in
    let g : Frame = given_up f in
    let given : IsGiven c (deposits_back f) f g = failure_given c f in
    let refunded : IsGiven c (gas_back c g 0) g (with_gas_refund c 0 g) = gas_given c 0 g in
    let same_left : gas_back c g 0 ≡ gas_back c f 0 = ap (λ (k : Frame). gas_back c k 0) given.same in
    let none : f.promised ≡ 0 = refl in
    let all : prepaid c f - f.promised ≡ prepaid c f = omega (arith, none) in
    let paid : (prepaid c f - f.promised) * price_of f ≡ prepaid c f * price_of f = ap (λ n. n * price_of f) all in
    let free : 0 * burning_price f ≡ 0 = omega arith in
    let cost : gas_back c f 0 ≡ prepaid c f * price_of f = omega (arith, paid, free) in
    record {
      tokens = omega (arith, holds c r act [] place body, refunded.tokens, given.tokens, same_left, cost, back_or_lost f);
      gas = refl;
      bounded = refunded.bounded (given.bounded tt);
      calls = refunded.calls (given.calls tt);
    }

-- ---- a receipt that isn't the system's
pub has_small_calls : (c : Config) (r : Receipt) → IsBounded c r → is_system r.predecessor ≡ false → HasSmallCalls r.body
has_small_calls c r h plain =
    let gas : gas_of c r ≡ body_gas c false r.body = ap (λ b. body_gas c b r.body) plain in
    small_body c r.body (omega (arith, gas, h.gas))
