-- What the actions of a receipt keep, one after the other.
use Rattle.std.proofs.Common.{◌≡◌, ℕ, ◌+◌, ◌*◌, ◌^◌, ◌<◌, ◌≤◌, Bool, true, false, cond, List, [], ◌∷◌, refl, ap, subst, ◌∙◌, arith, add-mul}
use Rattle.std.specs.List.{AllByRecursion}
use Rattle.std.proofs.lemmas.List.Sums.{sum_by-cons, sum_by-append}
use Rattle.std.proofs.lemmas.Nat.{mul-le}
use Rattle.nr_bytes.proofs.Basics.{all_both}
use Rattle.nr_actions.specs.Actions.{Acted, Acts, Fails, act}
use Rattle.nr_actions.specs.Calling.{price_of}
use Rattle.nr_actions.specs.Keeping.{IsDone}
use Rattle.nr_actions.specs.declared.frame.Frame.{Frame}
use Rattle.nr_config.specs.Config.{Config}
use Rattle.nr_fees.specs.Fees.{attached, attached_gas, deposit_of, deposits, receipt_tokens}
use Rattle.nr_receipt.specs.Keeping.{HasSmallCalls}
use Rattle.nr_receipt.specs.Running.{Ran, Done, Broken, fails_storage, go_on, is_last, run_from, with_burnt}
use Rattle.nr_receipt.proofs.Small.{AddsSmall, adds_small}
use Rattle.nr_records.specs.declared.action.Action.{Action}
use Rattle.nr_records.specs.declared.receipt.Receipt.{Receipt}
use Rattle.nr_state.specs.Calls.{Called, IsCaller}
use Rattle.nr_state.specs.Tokens.{list_tokens, world_tokens}
use Rattle.nr_state.specs.Valid.{IsBounded, IsValidWorld}
use Rattle.nr_state.specs.World.{World}
use Rattle.nr_state.specs.declared.calls.CallContext.{CallContext}

-- the gas attached to each action fits in 64 bits
abbrev pub AreSmall : List Action → Type 0
AreSmall actions = AllByRecursion (λ a. attached a < 2 ^ 64) actions

-- the frame of the same receipt
abbrev pub IsSameReceipt : Frame → Frame → Type 0
IsSameReceipt f0 f = f ≡ record f0 { actor = f.actor; next_ordinal = f.next_ordinal; made = f.made; returned = f.returned; logs = f.logs; call_burnt = f.call_burnt; promised = f.promised }

-- the world and the frame where these actions are left, of a receipt that began with w0 and f0
pub record IsUnderway (c : Config) (w0 : World) (f0 : Frame) (left : List Action) (w : World) (f : Frame) : Type 0 where
  pub valid : IsValidWorld c w
  pub tokens : world_tokens c w + list_tokens c f.made + deposits left ≡ world_tokens c w0 + deposits f0.act.actions + f.promised * price_of f0
  pub gas : f.call_burnt + f.promised + attached_gas left ≤ attached_gas f0.act.actions
  pub rest : w ≡ record w0 { accounts = w.accounts; keys = w.keys; code = w.code; data_of = w.data_of }
  pub receipt : IsSameReceipt f0 f
  pub small : AreSmall f0.act.actions → AreSmall left
  pub bounded : f0.act.gas_price < 2 ^ 64 → AreSmall f0.act.actions → AllByRecursion (IsBounded c) f.made
  pub calls : AreSmall f0.act.actions → AllByRecursion (λ r. HasSmallCalls r.body) f.made

-- the frame in which a failure came
pub record IsStopped (f0 : Frame) (f : Frame) : Type 0 where
  pub burnt : f.call_burnt ≤ attached_gas f0.act.actions
  pub receipt : IsSameReceipt f0 f

abbrev pub IsRan : Config → World → Frame → Ran → Type 0
IsRan c w0 f0 (Done after f) = IsUnderway c w0 f0 [] after f
IsRan c w0 f0 (Broken index kind part f) = IsStopped f0 f

-- what holds of every action
pub record AreActionLaws (c : Config) (call : World → CallContext → Called) : Type 0 where
  pub done : (w : World) (f : Frame) (last : Bool) (a : Action) (after : World) (g : Frame) → IsValidWorld c w → world_tokens c w + deposit_of a ≤ 2 ^ 127 → act c call w f last a ≡ Acts after g → IsDone c w f a after g
  pub failed : (w : World) (f : Frame) (last : Bool) (a : Action) (kind part burnt : ℕ) → act c call w f last a ≡ Fails kind part burnt → burnt ≤ attached a
  pub small : (w : World) (f : Frame) (last : Bool) (a : Action) (after : World) (g : Frame) → attached a < 2 ^ 64 → act c call w f last a ≡ Acts after g → AddsSmall f g

abbrev pub DoneLaw : Type 0
DoneLaw = (c : Config) (call : World → CallContext → Called) (w : World) (f : Frame) (last : Bool) (a : Action) (after : World) (g : Frame)
    → IsCaller c call → IsValidWorld c w → world_tokens c w + deposit_of a ≤ 2 ^ 127 → act c call w f last a ≡ Acts after g → IsDone c w f a after g

abbrev pub FailedLaw : Type 0
FailedLaw = (c : Config) (call : World → CallContext → Called) (w : World) (f : Frame) (last : Bool) (a : Action) (kind part burnt : ℕ)
    → IsCaller c call → act c call w f last a ≡ Fails kind part burnt → burnt ≤ attached a

pub laws_for : (c k : Config) (call : World → CallContext → Called) → k ≡ c → IsCaller k call → DoneLaw → FailedLaw → AreActionLaws c call
laws_for c k call same caller done failed =
    let here : IsCaller c call = subst (λ (q : Config). IsCaller q call) same caller in
    record {
      done = λ w f last a after g valid within e. done c call w f last a after g here valid within e;
      failed = λ w f last a kind part burnt e. failed c call w f last a kind part burnt here e;
      small = λ w f last a after g h e. adds_small c call here w f last a after g h e;
    }

module _ (c : Config) (call : World → CallContext → Called) (laws : AreActionLaws c call) (w0 : World) (f0 : Frame) (room : world_tokens c w0 + (deposits f0.act.actions + attached_gas f0.act.actions * price_of f0) ≤ 2 ^ 127) where
  -- the promised gas was paid for
  pub promised_paid : (f : Frame) (n : ℕ) → f.call_burnt + f.promised + n ≤ attached_gas f0.act.actions → f.promised * price_of f0 ≤ attached_gas f0.act.actions * price_of f0
  promised_paid f n h = mul-le f.promised (price_of f0) (attached_gas f0.act.actions) (price_of f0) (omega (arith, h)) (omega arith)

  goes_on : (a : Action) (rest : List Action) (w : World) (f : Frame) (last : Bool) (after : World) (g : Frame) → IsUnderway c w0 f0 (a ∷ rest) w f → act c call w f last a ≡ Acts after g → IsUnderway c w0 f0 rest after g
  goes_on a rest w f last after g u e =
      let gas : attached_gas (a ∷ rest) ≡ attached a + attached_gas rest = sum_by-cons attached a rest in
      let brought : deposits (a ∷ rest) ≡ deposit_of a + deposits rest = sum_by-cons deposit_of a rest in
      let paid : f.promised * price_of f0 ≤ attached_gas f0.act.actions * price_of f0 = promised_paid f (attached_gas (a ∷ rest)) u.gas in
      let within : world_tokens c w + deposit_of a ≤ 2 ^ 127 = omega (arith, u.tokens, brought, paid, room) in
      let d : IsDone c w f a after g = laws.done w f last a after g u.valid within e in
      let price : price_of f ≡ price_of f0 = ap price_of u.receipt in
      let made : list_tokens c g.made ≡ list_tokens c f.made + list_tokens c d.made = ap (list_tokens c) d.all_made ∙ sum_by-append (receipt_tokens c) f.made d.made in
      let all : g.promised * price_of f0 ≡ f.promised * price_of f0 + d.promised * price_of f0 = ap (λ n. n * price_of f0) d.all_promised ∙ add-mul f.promised d.promised (price_of f0) in
      let same : d.promised * price_of f ≡ d.promised * price_of f0 = ap (λ p. d.promised * p) price in
      let own : f.act ≡ f0.act = ap (λ (h : Frame). h.act) u.receipt in
      record {
        valid = d.valid;
        tokens = omega (arith, u.tokens, d.tokens, made, all, same, brought);
        gas = omega (arith, u.gas, d.gas, gas, d.all_burnt, d.all_promised);
        rest = d.rest ∙ ap (λ (v : World). record v { accounts = after.accounts; keys = after.keys; code = after.code; data_of = after.data_of }) u.rest;
        receipt = d.receipt ∙ ap (λ (h : Frame). record h { actor = g.actor; next_ordinal = g.next_ordinal; made = g.made; returned = g.returned; logs = g.logs; call_burnt = g.call_burnt; promised = g.promised }) u.receipt;
        small = λ h. (u.small h).1;
        bounded = λ price most. rw d.all_made (all_both (IsBounded c) f.made d.made (u.bounded price most) (d.bounded (rw own price) (u.small most).0));
        calls = λ most.
            let more : AddsSmall f g = laws.small w f last a after g (u.small most).0 e in
            rw more.all (all_both (λ (r : Receipt). HasSmallCalls r.body) f.made more.more (u.calls most) more.small);
      }

  stops : (a : Action) (rest : List Action) (w : World) (f : Frame) (last : Bool) (kind part burnt : ℕ) → IsUnderway c w0 f0 (a ∷ rest) w f → act c call w f last a ≡ Fails kind part burnt → IsStopped f0 (with_burnt f burnt)
  stops a rest w f last kind part burnt u e =
      let gas : attached_gas (a ∷ rest) ≡ attached a + attached_gas rest = sum_by-cons attached a rest in
      record {
        burnt = omega (arith, u.gas, gas, laws.failed w f last a kind part burnt e);
        receipt = ap (λ (h : Frame). record h { call_burnt = f.call_burnt + burnt }) u.receipt;
      }

  checks : (w : World) (f : Frame) → IsUnderway c w0 f0 [] w f → (b : Bool) (index kind : ℕ) → IsRan c w0 f0 (cond b (Broken index kind 0 f) (Done w f))
  checks w f u true index kind = record { burnt = omega (arith, u.gas); receipt = u.receipt }
  checks w f u false index kind = u

  by_act : (a : Action) (rest : List Action) (index : ℕ) (w : World) (f : Frame) (last : Bool) → IsUnderway c w0 f0 (a ∷ rest) w f
      → ((after : World) (g : Frame) → IsUnderway c w0 f0 rest after g → IsRan c w0 f0 (run_from c call (index + 1) rest after g))
      → (acted : Acted) → act c call w f last a ≡ acted → IsRan c w0 f0 (go_on (run_from c call (index + 1) rest) index f acted)
  by_act a rest index w f last u next (Acts after g) e = next after g (goes_on a rest w f last after g u e)
  by_act a rest index w f last u next (Fails kind part burnt) e = stops a rest w f last kind part burnt u e

  pub ran : (left : List Action) (index : ℕ) (w : World) (f : Frame) → IsUnderway c w0 f0 left w f → IsRan c w0 f0 (run_from c call index left w f)
  unfolding run_from
  ran [] index w f u = checks w f u (fails_storage c w f) _ _
  ran (a ∷ rest) index w f u = by_act a rest index w f (is_last f index) u (λ after g h. ran rest (index + 1) after g h) (act c call w f (is_last f index) a) refl
