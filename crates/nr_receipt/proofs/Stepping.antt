-- One action after the other: what the next one needs.
use Rattle.std.proofs.Common.{◌≡◌, ℕ, ◌+◌, ◌*◌, ◌^◌, ◌<◌, ◌≤◌, List, [], ◌∷◌, length, get_or, drop, Option, Some, None, Err, refl, sym, ap, ◌∙◌, arith, add-mul}
use Rattle.std.specs.Prelude.{IfSome, slice_get}
use Rattle.std.proofs.lemmas.List.{drop_all, drop_more}
use Rattle.std.proofs.lemmas.List.Sums.{sum_by-drop_more}
use Rattle.std.proofs.lemmas.Nat.{mul-le}
use Rattle.std.proofs.lemmas.Option.{get_or_from_slice_get, slice_get-get_or, slice_get_within}
use Rattle.nr_actions.specs.Actions.{Acts, HasRoom, IsFailed, act}
use Rattle.nr_actions.specs.Calling.{price_of}
use Rattle.nr_actions.specs.Keeping.{IsDone}
use Rattle.nr_actions.specs.declared.frame.Frame.{Frame}
use Rattle.nr_config.specs.Config.{Config}
use Rattle.nr_fees.specs.Fees.{attached, attached_gas, deposit_of, deposits}
use Rattle.nr_receipt.specs.Parts.{CanRun, IsReady, RunsAll, Steps}
use Rattle.nr_receipt.specs.Running.{Broken, checked, go_on, is_last, run_from, run_actions}
use Rattle.nr_receipt.proofs.Amounts.{attached_paid}
use Rattle.nr_receipt.proofs.Underway.{AreActionLaws}
use Rattle.nr_receipt.specs.declared.running.Stop.{Stop}
use Rattle.nr_receipt.specs.declared.running.Stop.TheVariants.{Failed, Memory}
use Rattle.nr_records.specs.declared.receipt.ActionReceipt.{ActionReceipt}
use Rattle.nr_records.specs.declared.action.Action.{Action}
use Rattle.nr_records.specs.declared.action.Action.TheVariants.{CreateAccount}
use Rattle.nr_state.specs.Calls.{Called, Stands}
use Rattle.nr_state.specs.Tokens.{world_tokens}
use Rattle.nr_state.specs.View.{StateView}
use Rattle.nr_state.specs.World.{World}
use Rattle.nr_state.specs.declared.calls.CallContext.{CallContext}

-- at the start
pub can_begin : (c : Config) (w : World) (f : Frame) → IsReady c w f → CanRun c 0 w f
can_begin c w f h = record {
  valid = h.valid;
  room = omega (arith, h.room, attached_paid c f);
  burnt = omega (arith, h.burnt, h.promised);
}

-- ---- an action
brings : (actions : List Action) (index : ℕ) (a : Action) → slice_get actions index ≡ Some a → deposits (drop index actions) ≡ deposit_of a + deposits (drop (index + 1) actions)
brings actions index a e =
    let at : get_or actions index a ≡ a = get_or_from_slice_get actions index a a e in
    sum_by-drop_more deposit_of actions index a (slice_get_within actions index a e) ∙ ap (λ (b : Action). deposit_of b + deposits (drop (index + 1) actions)) at

attaches : (actions : List Action) (index : ℕ) (a : Action) → slice_get actions index ≡ Some a → attached_gas (drop index actions) ≡ attached a + attached_gas (drop (index + 1) actions)
attaches actions index a e =
    let at : get_or actions index a ≡ a = get_or_from_slice_get actions index a a e in
    sum_by-drop_more attached actions index a (slice_get_within actions index a e) ∙ ap (λ (b : Action). attached b + attached_gas (drop (index + 1) actions)) at

-- what the next action brings fits
within : (c : Config) (index : ℕ) (w : World) (f : Frame) → CanRun c index w f → (a : Action) → slice_get f.act.actions index ≡ Some a → world_tokens c w + deposit_of a ≤ 2 ^ 127
within c index w f h a e = omega (arith, h.room, brings f.act.actions index a e)

pub room_at : (c : Config) (index : ℕ) (w : World) (f : Frame) → CanRun c index w f → ((id : List ℕ) (deposit : ℕ) → world_tokens c w + deposit ≤ 2 ^ 127 → HasRoom w id deposit)
    → IfSome (slice_get f.act.actions index) (λ a. HasRoom w f.receiver (deposit_of a))
room_at c index w f h room = by (slice_get f.act.actions index) refl
  where
    by : (o : Option Action) → slice_get f.act.actions index ≡ o → IfSome o (λ a. HasRoom w f.receiver (deposit_of a))
    by None e = tt
    by (Some a) e = room f.receiver (deposit_of a) (within c index w f h a e)

-- the actions behind it can be done
pub record GoesOn (c : Config) (index : ℕ) (f : Frame) (after : World) (g : Frame) : Type 0 where
  pub can : CanRun c (index + 1) after g
  pub same : g.act ≡ f.act

module _ (c : Config) (call : World → CallContext → Called) (laws : AreActionLaws c call) (index : ℕ) (w : World) (f : Frame) (h : CanRun c index w f) (after : World) (g : Frame) (gas : ℕ) (small : gas < 2 ^ 64) where
  after_one : (a : Action) → slice_get f.act.actions index ≡ Some a → act c call w f (is_last f index) a ≡ Acts after g → gas ≡ attached a → GoesOn c index f after g
  after_one a e acts is =
      let d : IsDone c w f a after g = laws.done w f (is_last f index) a after g h.valid (within c index w f h a e) acts in
      let own : g.act ≡ f.act = ap (λ (k : Frame). k.act) d.receipt in
      let price : price_of g ≡ price_of f = ap price_of d.receipt in
      let rest : List Action = drop (index + 1) f.act.actions in
      let paid : d.promised * price_of f ≤ attached a * price_of f = mul-le d.promised (price_of f) (attached a) (price_of f) (omega (arith, d.gas)) (omega arith) in
      let all : attached_gas (drop index f.act.actions) * price_of f ≡ attached a * price_of f + attached_gas rest * price_of f =
      ap (λ n. n * price_of f) (attaches f.act.actions index a e) ∙ add-mul (attached a) (attached_gas rest) (price_of f) in
      let room : world_tokens c after + (deposits rest + attached_gas rest * price_of f) ≤ 2 ^ 127 = omega (arith, h.room, d.tokens, paid, all, brings f.act.actions index a e) in
      let left : deposits (drop (index + 1) g.act.actions) + attached_gas (drop (index + 1) g.act.actions) * price_of g ≡ deposits rest + attached_gas rest * price_of f =
      ap (λ (k : Frame). deposits (drop (index + 1) k.act.actions) + attached_gas (drop (index + 1) k.act.actions) * price_of k) d.receipt in
      record {
        can = record {
          valid = d.valid;
          room = omega (arith, room, left);
          burnt = omega (arith, h.burnt, d.all_burnt, d.all_promised, d.gas, small, is);
        };
        same = own;
      }

  pub goes_on_at : (old new : StateView) → index < length f.act.actions → IfSome (slice_get f.act.actions index) (λ a. (act c call w f (is_last f index) a ≡ Acts after g) × Stands old new)
      → IfSome (slice_get f.act.actions index) (λ a. gas ≡ attached a) → GoesOn c index f after g
  goes_on_at old new inside acts is =
      let e : slice_get f.act.actions index ≡ Some (get_or f.act.actions index CreateAccount) = slice_get-get_or f.act.actions index CreateAccount inside in
      after_one (get_or f.act.actions index CreateAccount) e (rw e at acts).0 (rw e at is)

-- ---- the run from an index on
module _ (c : Config) (call : World → CallContext → Called) (index : ℕ) (w : World) (f : Frame) where
  run_at : (a : Action) → slice_get f.act.actions index ≡ Some a → run_from c call index (drop index f.act.actions) w f ≡ run_from c call index (a ∷ drop (index + 1) f.act.actions) w f
  run_at a e =
      let at : get_or f.act.actions index a ≡ a = get_or_from_slice_get f.act.actions index a a e in
      ap (λ (list : List Action). run_from c call index list w f) (drop_more f.act.actions index a (slice_get_within f.act.actions index a e) ∙ ap (λ (b : Action). b ∷ drop (index + 1) f.act.actions) at)

  opened : (a : Action) (rest : List Action) → run_from c call index (a ∷ rest) w f ≡ go_on (run_from c call (index + 1) rest) index f (act c call w f (is_last f index) a)
  unfolding run_from
  opened a rest = refl

  -- an action is done, and the run goes on behind it
  pub run_on : (after : World) (g : Frame) (old new : StateView) → index < length f.act.actions → IfSome (slice_get f.act.actions index) (λ a. (act c call w f (is_last f index) a ≡ Acts after g) × Stands old new)
      → run_from c call index (drop index f.act.actions) w f ≡ run_from c call (index + 1) (drop (index + 1) f.act.actions) after g
  run_on after g old new inside acts =
      let a : Action = get_or f.act.actions index CreateAccount in
      let e : slice_get f.act.actions index ≡ Some a = slice_get-get_or f.act.actions index CreateAccount inside in
      let is : act c call w f (is_last f index) a ≡ Acts after g = (rw e at acts).0 in
      run_at a e ∙ opened a (drop (index + 1) f.act.actions) ∙ ap (go_on (run_from c call (index + 1) (drop (index + 1) f.act.actions)) index f) is

  -- an action fails
  pub run_off : (i kind part : ℕ) (g : Frame) (old new : StateView) → index < length f.act.actions → IfSome (slice_get f.act.actions index) (λ a. (i ≡ index) × IsFailed kind part old new f g (act c call w f (is_last f index) a))
      → run_from c call index (drop index f.act.actions) w f ≡ Broken i kind part g
  run_off i kind part g old new inside acts =
      let a : Action = get_or f.act.actions index CreateAccount in
      let e : slice_get f.act.actions index ≡ Some a = slice_get-get_or f.act.actions index CreateAccount inside in
      let failed : (i ≡ index) × IsFailed kind part old new f g (act c call w f (is_last f index) a) = rw e at acts in
      run_at a e ∙ opened a (drop (index + 1) f.act.actions) ∙ ap (go_on (run_from c call (index + 1) (drop (index + 1) f.act.actions)) index f) failed.1.acted
      ∙ ap (λ (h : Frame). Broken index kind part h) (sym failed.1.frame) ∙ ap (λ n. Broken n kind part g) (sym failed.0)

  -- no action is left
  ended_here : run_from c call index [] w f ≡ checked c w f
  unfolding run_from
  ended_here = refl

  pub run_out : (actions : List Action) → length actions ≤ index → run_from c call index (drop index actions) w f ≡ checked c w f
  run_out actions past = ap (λ (list : List Action). run_from c call index list w f) (drop_all index actions past) ∙ ended_here

-- ---- the run of all actions, from the first one on
pub stands_on : (x y z : StateView) → Stands x y → Stands y z → Stands x z
stands_on x y z p q = record { marks = q.marks ∙ p.marks; spare = omega (arith, p.spare, q.spare); config = q.config ∙ p.config; whole = q.whole }

module _ (c : Config) (call : World → CallContext → Called) (first : StateView) (f0 : Frame) (index : ℕ) (old new : StateView) (f g : Frame) (inside : index < length f.act.actions) (runs : run_from c call index (drop index f.act.actions) old.world f ≡ run_actions c call first.world f0) (stands : Stands first old) where
  pub fails_all : (count : ℕ) (stop : Stop) → IfSome (slice_get f.act.actions index) (λ a. Steps {A = Unit {0}} (Err stop) old new f g index (act c call old.world f (is_last f index) a)) → RunsAll {A = Unit {0}} c count (Err stop) first new g (run_actions c call first.world f0)
  fails_all count (Failed i kind part) h =
      let a : Action = get_or f.act.actions index CreateAccount in
      let e : slice_get f.act.actions index ≡ Some a = slice_get-get_or f.act.actions index CreateAccount inside in
      (sym runs ∙ run_off c call index old.world f i kind part g old new inside h, stands_on first old new stands (rw e at h).1.stands)
  fails_all count Memory h = tt

  pub runs_on : GoesOn c index f new.world g → IfSome (slice_get f.act.actions index) (λ a. (act c call old.world f (is_last f index) a ≡ Acts new.world g) × Stands old new)
      → run_from c call (index + 1) (drop (index + 1) g.act.actions) new.world g ≡ run_actions c call first.world f0
  runs_on on h =
      ap (λ (x : ActionReceipt). run_from c call (index + 1) (drop (index + 1) x.actions) new.world g) on.same ∙ sym (run_on c call index old.world f new.world g old new inside h) ∙ runs

  pub stands_at : IfSome (slice_get f.act.actions index) (λ a. (act c call old.world f (is_last f index) a ≡ Acts new.world g) × Stands old new) → Stands first new
  stands_at h =
      let e : slice_get f.act.actions index ≡ Some (get_or f.act.actions index CreateAccount) = slice_get-get_or f.act.actions index CreateAccount inside in
      stands_on first old new stands (rw e at h).1
