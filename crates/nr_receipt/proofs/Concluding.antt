-- What the conclusion of an execution needs.
use Rattle.std.proofs.Common.{◌≡◌, ℕ, ◌+◌, ◌-◌, ◌*◌, ◌^◌, ◌<◌, ◌≤◌, Bool, true, false, cond, List, [], ◌∷◌, length, drop, Option, Some, None, refl, sym, ap, subst, ◌∙◌, arith, add-mul}
use Rattle.std.specs.Prelude.{IfSome}
use Rattle.std.specs.FinMap.{get}
use Rattle.std.proofs.lemmas.Nat.{mul-le}
use Rattle.nr_actions.specs.Actions.{HasRoom}
use Rattle.nr_actions.specs.Calling.{price_of}
use Rattle.nr_actions.specs.declared.frame.Frame.{Frame}
use Rattle.nr_config.specs.Config.{Config}
use Rattle.nr_fees.specs.Fees.{attached_gas, deposits}
use Rattle.nr_ids.specs.Grammar.{is_system}
use Rattle.nr_receipt.specs.Drawing.{deposits_back, deposits_lost, with_gas_refund, with_result}
use Rattle.nr_receipt.specs.Execution.{Execution, concluded, dropped, executed_as, status_of, succeeded}
use Rattle.nr_receipt.specs.Frames.{burning_price, burnt_gas, prepaid}
use Rattle.nr_receipt.specs.Parts.{CanConclude, IsTried, IsMarked, IsReady, IsUndone}
use Rattle.nr_receipt.specs.Rewards.{reward_of, reward_paid, with_reward}
use Rattle.nr_receipt.specs.Running.{Done, Broken, run_actions}
use Rattle.nr_receipt.specs.declared.executed.Executed.{Executed}
use Rattle.nr_receipt.proofs.Amounts.{attached_less, attached_paid, burns_less, burnt_within}
use Rattle.nr_receipt.proofs.Giving.{IsGiven, gas_given, result_given}
use Rattle.nr_receipt.proofs.Underway.{AreActionLaws, IsRan, IsStopped, IsUnderway, ran}
use Rattle.nr_records.specs.declared.account.Account.{Account}
use Rattle.nr_state.specs.Calls.{Called, Stands}
use Rattle.nr_state.specs.Tokens.{list_tokens, world_tokens}
use Rattle.nr_state.specs.View.{StateView, with_world}
use Rattle.nr_state.specs.World.{World}
use Rattle.nr_state.specs.declared.calls.CallContext.{CallContext}
use Rattle.nr_state.specs.declared.calls.Returned.{Returned}

-- ---- a frame of the same receipt, with other receipts made, needs the same
pub record IsSameFor (f g : Frame) : Type 0 where
  pub predecessor : g.predecessor ≡ f.predecessor
  pub receiver : g.receiver ≡ f.receiver
  pub act : g.act ≡ f.act
  pub burnt : g.call_burnt ≡ f.call_burnt
  pub place : g.place ≡ f.place

pub conclude_same : (c : Config) (w : World) (f g : Frame) (gas lost : ℕ) → IsSameFor f g → CanConclude c w f gas lost → CanConclude c w g gas lost
conclude_same c w f g gas lost e h =
    record {
      price = rw e.act h.price;
      paid_for = rw (e.act, e.predecessor) h.paid_for;
      by_calls = λ k. rw e.burnt (h.by_calls (sym (ap is_system e.predecessor) ∙ k));
      in_all = h.in_all;
      burnt = rw (e.act, e.predecessor, e.place) h.burnt;
      deposited = rw e.act h.deposited;
      room = rw (e.act, e.predecessor, e.receiver, e.burnt, e.place) h.room;
    }

pub same_given : (c : Config) (n : ℕ) (f g : Frame) → IsGiven c n f g → IsSameFor f g
same_given c n f g h =
    record {
      predecessor = ap (λ (k : Frame). k.predecessor) h.same;
      receiver = ap (λ (k : Frame). k.receiver) h.same;
      act = ap (λ (k : Frame). k.act) h.same;
      burnt = ap (λ (k : Frame). k.call_burnt) h.same;
      place = ap (λ (k : Frame). k.place) h.same;
    }

pub same_dropped : (f : Frame) → IsSameFor f (dropped f)
same_dropped f = record { predecessor = refl; receiver = refl; act = refl; burnt = refl; place = refl }

pub same_on : (f g h : Frame) → IsSameFor f g → IsSameFor g h → IsSameFor f h
same_on f g h p q = record { predecessor = q.predecessor ∙ p.predecessor; receiver = q.receiver ∙ p.receiver; act = q.act ∙ p.act; burnt = q.burnt ∙ p.burnt; place = q.place ∙ p.place }

-- ---- what has room for more has room for less
pub room_less : (w : World) (id : List ℕ) (m n : ℕ) → n ≤ m → HasRoom w id m → HasRoom w id n
room_less w id m n less h = by (get w.accounts id) h
  where
    by : (o : Option Account) → IfSome o (λ account. account.amount + m < 2 ^ 128) → IfSome o (λ account. account.amount + n < 2 ^ 128)
    by None k = tt
    by (Some account) k = omega (arith, k, less)

-- ---- deposits go back or are lost
split_by : (n : ℕ) (b : Bool) → cond b 0 n + cond b n 0 ≡ n
split_by n true = omega arith
split_by n false = omega arith

pub back_or_lost : (f : Frame) → deposits_back f + deposits_lost f ≡ deposits f.act.actions
back_or_lost f = split_by (deposits f.act.actions) (is_system f.predecessor)

-- ---- from a receipt that is ready
pub begins : (c : Config) (w : World) (f : Frame) → IsReady c w f → IsUnderway c w f f.act.actions w f
begins c w f h =
    let none : list_tokens c f.made ≡ 0 = ap (list_tokens c) h.made in
    let free : f.promised * price_of f ≡ 0 * price_of f = ap (λ n. n * price_of f) h.promised in
    record {
      valid = h.valid;
      tokens = omega (arith, none, free);
      gas = omega (arith, h.burnt, h.promised);
      rest = refl;
      receipt = refl;
      small = λ k. k;
      bounded = λ price most. rw h.made tt;
      calls = λ most. rw h.made tt;
    }

pub ready_room : (c : Config) (w : World) (f : Frame) → IsReady c w f → world_tokens c w + (deposits f.act.actions + attached_gas f.act.actions * price_of f) ≤ 2 ^ 127
ready_room c w f h = omega (arith, h.room, attached_paid c f)

module _ (c : Config) where
  can_conclude : (w : World) → ((id : List ℕ) (deposit : ℕ) → world_tokens c w + deposit ≤ 2 ^ 127 → HasRoom w id deposit) → (f : Frame) (n lost : ℕ)
      → f.act.gas_price < 2 ^ 64 → prepaid c f < 2 ^ 64 → f.call_burnt ≤ attached_gas f.act.actions → lost ≤ deposits f.act.actions
      → deposits f.act.actions + prepaid c f * price_of f ≤ 2 ^ 127 → world_tokens c w + f.call_burnt * price_of f ≤ 2 ^ 127 → CanConclude c w f (burnt_gas c f n) lost
  can_conclude w room f n lost price paid calls less whole fits =
      let burnt : burnt_gas c f n * price_of f ≤ prepaid c f * price_of f = mul-le (burnt_gas c f n) (price_of f) (prepaid c f) (price_of f) (burnt_within c f n calls) (omega arith) in
      record {
        price = price;
        paid_for = paid;
        by_calls = λ e. omega (arith, calls, paid, attached_less c f e);
        in_all = omega (arith, paid, burnt_within c f n calls);
        burnt = omega (arith, burns_less f (burnt_gas c f n), burnt, whole, less);
        deposited = omega (arith, whole);
        room = room f.receiver (f.call_burnt * burning_price f) (omega (arith, burns_less f f.call_burnt, fits));
      }

  module _ (w0 : World) (f0 : Frame) (ready : IsReady c w0 f0) where
    pub when_done : (w : World) (f : Frame) (n : ℕ) → ((id : List ℕ) (deposit : ℕ) → world_tokens c w + deposit ≤ 2 ^ 127 → HasRoom w id deposit) → IsUnderway c w0 f0 [] w f → CanConclude c w f (burnt_gas c f n) 0
    when_done w f n room u =
        let act : f.act ≡ f0.act = ap (λ (k : Frame). k.act) u.receipt in
        let price : price_of f ≡ price_of f0 = ap price_of u.receipt in
        let paid : prepaid c f ≡ prepaid c f0 = ap (prepaid c) u.receipt in
        let cost : prepaid c f * price_of f ≡ prepaid c f0 * price_of f0 = ap (λ (k : Frame). prepaid c k * price_of k) u.receipt in
        let gas : attached_gas f.act.actions ≡ attached_gas f0.act.actions = ap (λ (k : Frame). attached_gas k.act.actions) u.receipt in
        let brought : deposits f.act.actions ≡ deposits f0.act.actions = ap (λ (k : Frame). deposits k.act.actions) u.receipt in
        let used : (f.call_burnt + f.promised) * price_of f0 ≤ attached_gas f0.act.actions * price_of f0 = mul-le (f.call_burnt + f.promised) (price_of f0) (attached_gas f0.act.actions) (price_of f0) (omega (arith, u.gas)) (omega arith) in
        let call : f.call_burnt * price_of f ≡ f.call_burnt * price_of f0 = ap (λ p. f.call_burnt * p) price in
        can_conclude w room f n 0 (rw act ready.price) (omega (arith, paid, ready.gas)) (omega (arith, u.gas, gas)) (omega arith) (omega (arith, ready.room, cost, brought))
        (omega (arith, ready.room, u.tokens, used, add-mul f.call_burnt f.promised (price_of f0), attached_paid c f0, call))

    pub when_stopped : (f : Frame) (n : ℕ) → ((id : List ℕ) (deposit : ℕ) → world_tokens c w0 + deposit ≤ 2 ^ 127 → HasRoom w0 id deposit) → IsStopped f0 f → CanConclude c w0 f (burnt_gas c f n) (deposits_lost f)
    when_stopped f n room u =
        let act : f.act ≡ f0.act = ap (λ (k : Frame). k.act) u.receipt in
        let price : price_of f ≡ price_of f0 = ap price_of u.receipt in
        let paid : prepaid c f ≡ prepaid c f0 = ap (prepaid c) u.receipt in
        let cost : prepaid c f * price_of f ≡ prepaid c f0 * price_of f0 = ap (λ (k : Frame). prepaid c k * price_of k) u.receipt in
        let gas : attached_gas f.act.actions ≡ attached_gas f0.act.actions = ap (λ (k : Frame). attached_gas k.act.actions) u.receipt in
        let brought : deposits f.act.actions ≡ deposits f0.act.actions = ap (λ (k : Frame). deposits k.act.actions) u.receipt in
        let used : f.call_burnt * price_of f0 ≤ attached_gas f0.act.actions * price_of f0 = mul-le f.call_burnt (price_of f0) (attached_gas f0.act.actions) (price_of f0) u.burnt (omega arith) in
        let call : f.call_burnt * price_of f ≡ f.call_burnt * price_of f0 = ap (λ p. f.call_burnt * p) price in
        can_conclude w0 room f n (deposits_lost f) (rw act ready.price) (omega (arith, paid, ready.gas)) (omega (arith, u.burnt, gas)) (omega (arith, back_or_lost f)) (omega (arith, ready.room, cost, brought))
        (omega (arith, ready.room, used, attached_paid c f0, call))

    module _ (call : World → CallContext → Called) (laws : AreActionLaws c call) where
      pub has_run : IsRan c w0 f0 (run_actions c call w0 f0)
      has_run = ran c call laws w0 f0 (ready_room c w0 f0 ready) f0.act.actions 0 w0 f0 (begins c w0 f0 ready)

      -- ---- the changes are kept, or rolled back
      module _ (old marked ran new : StateView) (is : old.world ≡ w0) (mark : IsMarked old marked) (f : Frame) where
        pub keeps : run_actions c call marked.world f0 ≡ Done ran.world f → Stands marked ran → ((id : List ℕ) (deposit : ℕ) → world_tokens c ran.world + deposit ≤ 2 ^ 127 → HasRoom ran.world id deposit)
            → new.world ≡ ran.world → new.marks ≡ drop 1 ran.marks → new.spare ≡ ran.spare + 1 → new.config ≡ ran.config → new.whole ≡ true → IsTried c old new f (run_actions c call old.world f0)
        keeps e stands room world marks spare config whole =
            let at : run_actions c call w0 f0 ≡ Done ran.world f = ap (λ (v : World). run_actions c call v f0) (sym (mark.world ∙ is)) ∙ e in
            let done : IsUnderway c w0 f0 [] ran.world f = subst (IsRan c w0 f0) at has_run in
            record {
              ran = ap (λ (v : World). run_actions c call v f0) is ∙ at ∙ ap (λ (v : World). Done v f) (sym world);
              stands = record {
                marks = marks ∙ ap (drop 1) (stands.marks ∙ mark.marks);
                spare = omega (arith, spare, stands.spare, mark.spare);
                config = config ∙ stands.config ∙ mark.config;
                whole = whole;
              };
              can = rw world (when_done ran.world f (length f.act.actions) room done);
            }

        pub undoes : (index kind part : ℕ) → run_actions c call marked.world f0 ≡ Broken index kind part f → Stands marked ran → ((id : List ℕ) (deposit : ℕ) → world_tokens c w0 + deposit ≤ 2 ^ 127 → HasRoom w0 id deposit)
            → ran.marks ≡ new.world ∷ new.marks → new.spare ≡ ran.spare + 1 → new.config ≡ ran.config → new.whole ≡ true → IsUndone c index kind part old new f (run_actions c call old.world f0)
        undoes index kind part e stands room marks spare config whole =
            let at : run_actions c call w0 f0 ≡ Broken index kind part f = ap (λ (v : World). run_actions c call v f0) (sym (mark.world ∙ is)) ∙ e in
            let stopped : IsStopped f0 f = subst (IsRan c w0 f0) at has_run in
            let both : new.world ∷ new.marks ≡ old.world ∷ old.marks = sym marks ∙ stands.marks ∙ mark.marks in
            let world : new.world ≡ old.world = cc in
            record {
              ran = ap (λ (v : World). run_actions c call v f0) is ∙ at;
              world = world;
              stands = record {
                marks = ap (drop 1) both;
                spare = omega (arith, spare, stands.spare, mark.spare);
                config = config ∙ stands.config ∙ mark.config;
                whole = whole;
              };
              can = rw (world ∙ is) (when_stopped f (index + 1) room stopped);
            }

-- ---- what a success tells
abbrev record_of : World → Executed → Execution
record_of w done = record { world = w; executed = done }

pub succeeds : (c : Config) (old new : StateView) (f g h : Frame) (gas burnt : ℕ) (done : Executed) → g ≡ with_result f.returned f → gas ≡ burnt_gas c f (length f.act.actions)
    → burnt ≡ gas * burning_price g - reward_paid old.world g.receiver (reward_of c g) + 0 → new ≡ with_world old (with_reward old.world g.receiver (reward_of c g)) → h ≡ with_gas_refund c gas g
    → done ≡ executed_as h (status_of h.returned) gas burnt → old.whole ≡ true → (succeeded c old.world f ≡ record { world = new.world; executed = done }) × Stands old new
succeeds c old new f g h gas burnt done given counted pays world refunded tells whole =
    let last : Frame = with_gas_refund c gas g in
    let same : last.returned ≡ f.returned = ap (λ (k : Frame). k.returned) (gas_given c gas g).same ∙ ap (λ (k : Frame). k.returned) given ∙ ap (λ (k : Frame). k.returned) (result_given c f.returned f).same in
    let told : done ≡ executed_as last (status_of f.returned) gas burnt =
    tells ∙ ap (λ (k : Frame). executed_as k (status_of k.returned) gas burnt) refunded ∙ ap (λ (r : Returned). executed_as last (status_of r) gas burnt) same in
    let here : record_of new.world done ≡ concluded c old.world g (status_of f.returned) gas 0 =
    ap (λ (s : StateView). record_of s.world done) world ∙ ap (λ (d : Executed). record_of (with_reward old.world g.receiver (reward_of c g)) d) (told ∙ ap (λ n. executed_as last (status_of f.returned) gas n) pays) in
    let all : record_of new.world done ≡ succeeded c old.world f =
    here ∙ ap (λ (k : Frame). concluded c old.world k (status_of f.returned) gas 0) given ∙ ap (λ n. concluded c old.world (with_result f.returned f) (status_of f.returned) n 0) counted in (
      sym all,
      record {
        marks = ap (λ (s : StateView). s.marks) world;
        spare = omega (arith, ap (λ (s : StateView). s.spare) world);
        config = ap (λ (s : StateView). s.config) world;
        whole = ap (λ (s : StateView). s.whole) world ∙ whole;
      },
    )
