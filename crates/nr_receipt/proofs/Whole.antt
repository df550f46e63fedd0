-- The whole of an execution and of a settlement, from the first frame on.
use Rattle.std.proofs.Common.{◌≡◌, ℕ, ◌+◌, ◌^◌, ◌<◌, ◌≤◌, List, [], Option, Result, sym, subst, ap, ◌∙◌, arith}
use Rattle.nr_actions.specs.declared.frame.Frame.{Frame}
use Rattle.nr_config.specs.Config.{Config}
use Rattle.nr_fees.specs.Fees.{deposits, receipt_tokens}
use Rattle.nr_receipt.specs.Execution.{Executes, OfActions, ended, execute, settle_clash, settled}
use Rattle.nr_receipt.specs.Frames.{first_frame, prepaid}
use Rattle.nr_receipt.specs.Parts.{IsReady}
use Rattle.nr_receipt.specs.Running.{run_actions}
use Rattle.nr_receipt.specs.declared.executed.Executed.{Executed}
use Rattle.nr_receipt.proofs.Executing.{costs, holds, is_ready, pays}
use Rattle.nr_records.specs.declared.receipt.ActionReceipt.{ActionReceipt}
use Rattle.nr_records.specs.declared.receipt.Body.{Body}
use Rattle.nr_records.specs.declared.receipt.Body.TheVariants.{Act, Datum}
use Rattle.nr_records.specs.declared.receipt.Receipt.{Receipt}
use Rattle.nr_state.specs.Calls.{Called}
use Rattle.nr_state.specs.Tokens.{world_tokens}
use Rattle.nr_state.specs.Valid.{IsBounded, IsValidWorld}
use Rattle.nr_state.specs.View.{StateView}
use Rattle.nr_state.specs.World.{World}
use Rattle.nr_state.specs.declared.calls.CallContext.{CallContext}
use Rattle.nr_state.specs.declared.place.Place.{Place}

module _ (c : Config) (call : World → CallContext → Called) (r : Receipt) (inputs : List (Option (List ℕ))) (place : Place) (f : Frame) where
  pub executes : {E : Type 0} (result : Result Executed E) (old new : StateView) (b : Body) → OfActions b (λ act. f ≡ first_frame r act inputs place) → Executes result old new (ended c old.world (run_actions c call old.world f))
      → OfActions b (λ act. Executes result old new (execute c call old.world r act inputs place))
  unfolding execute
  executes result old new (Act act) e h = subst (λ (k : Frame). Executes result old new (ended c old.world (run_actions c call old.world k))) e h
  executes result old new (Datum d) e h = e

pub settles : (c : Config) (r : Receipt) (place : Place) (f : Frame) (done : Executed) (b : Body) → OfActions b (λ act. f ≡ first_frame r act [] place) → done ≡ settled c f → OfActions b (λ act. done ≡ settle_clash c r act place)
unfolding settle_clash
settles c r place f done (Act act) e h = h ∙ ap (settled c) e
settles c r place f done (Datum d) e h = e

-- ---- what the first frame needs
module _ (c : Config) (r : Receipt) (inputs : List (Option (List ℕ))) (place : Place) (f : Frame) (bounded : IsBounded c r) where
  pub ready : (w : World) → IsValidWorld c w → world_tokens c w + receipt_tokens c r ≤ 2 ^ 127 → (b : Body) → r.body ≡ b → OfActions b (λ act. f ≡ first_frame r act inputs place) → IsReady c w f
  ready w valid within (Act act) body e = subst (IsReady c w) (sym e) (is_ready c r act inputs place body w valid bounded within)
  ready w valid within (Datum d) body e = absurd e

  pub record IsPayable : Type 0 where
    pub price : f.act.gas_price < 2 ^ 64
    pub gas : prepaid c f < 2 ^ 64
    pub deposited : deposits f.act.actions < 2 ^ 128

  pub payable : receipt_tokens c r ≤ 2 ^ 127 → (b : Body) → r.body ≡ b → OfActions b (λ act. f ≡ first_frame r act inputs place) → IsPayable
  payable within (Act act) body e =
      let own : f.act ≡ act = ap (λ (k : Frame). k.act) e in
      let paid : prepaid c f ≡ prepaid c (first_frame r act inputs place) = ap (prepaid c) e in
      let brought : deposits f.act.actions ≡ deposits act.actions = ap (λ (k : ActionReceipt). deposits k.actions) own in
      record {
        price = rw own (costs c r act inputs place body bounded);
        gas = omega (arith, paid, pays c r act inputs place body, bounded.gas);
        deposited = omega (arith, within, brought, holds c r act inputs place body);
      }
  payable within (Datum d) body e = absurd e
